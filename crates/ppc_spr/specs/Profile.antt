-- The values that the machine state register of this machine may have: SF and LE are 1, and of all other bits only HV, EE,
-- PR, ME, IR, DR and RI may be 1.
use Rattle.std.specs.Prelude.{ℕ, Bool, if◌then◌else◌, List, [], ◌∷◌, Result, Ok, Err}
use Rattle.ppc_bits.specs.MachineStateBits as at
use Rattle.ppc_spr.specs.declared.msr.Msr.{Msr}
use Rattle.ppc_spr.specs.declared.msr.ProfileBits.{ProfileBits}
use Rattle.ppc_spr.specs.FixedBits as fixed

-- the bits that are 1
abbrev pub ones : List ℕ
ones = at.sf ∷ at.le ∷ []

-- the bits that may be 0 and 1
abbrev pub free : List ℕ
free = at.hv ∷ at.ee ∷ at.pr ∷ at.me ∷ at.ir ∷ at.dr ∷ at.ri ∷ []

-- bit i of a value may be b
abbrev pub may_be : ℕ → ℕ → Bool
may_be i b = fixed.may_be ones free i b

-- each bit is one that it may be
abbrev pub is_in_profile : ℕ → Bool
is_in_profile v = fixed.has_fixed ones free v

-- a register of this value
abbrev pub msr_of : ℕ → Msr
msr_of v = record { 0 = v }

-- a value that is refused
abbrev pub outside_of : ℕ → ProfileBits
outside_of v = record { 0 = v }

-- a new value: it is refused exactly where it is not in the profile
abbrev pub profiled : ℕ → Result Msr ProfileBits
profiled v = if is_in_profile v then Ok (msr_of v) else Err (outside_of v)
