-- The values that a special purpose register may have. Those of the machine state register, which is none of these, are in its
-- profile.
use Rattle.std.specs.Prelude.{ℕ, ◌==◌, Bool, true}
use Rattle.ppc_spr.specs.declared.spr.Spr.{Spr}
use Rattle.ppc_spr.specs.declared.spr.Spr.TheVariants as sprs
use Rattle.ppc_spr.specs.Lpcr.{is_in_profile}

-- the authority masks are 0, LPCR is in its profile, and all others may have any value
abbrev pub may_have : Spr → ℕ → Bool
may_have sprs.Amr value = value == 0
may_have sprs.Iamr value = value == 0
may_have sprs.Lpcr value = is_in_profile value
may_have other value = true
