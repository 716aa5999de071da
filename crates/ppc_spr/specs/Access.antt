-- Who may read and write a special purpose register (Power ISA, Book III, Move To/From System Register).
use Rattle.std.specs.Prelude.{ℕ, ◌/◌, ◌%◌, ◌==◌, Bool, ◌&&◌, not, if◌then◌else◌, Option, Some, None}
use Rattle.ppc_spr.specs.declared.spr.Spr.{Spr}
use Rattle.ppc_spr.specs.declared.msr.Msr.{Msr}
use Rattle.ppc_spr.specs.declared.answer.Access.{Access}
use Rattle.ppc_spr.specs.declared.answer.Access.TheVariants.{Program, NotInProfile, Assist, Allowed}
use Rattle.ppc_spr.specs.Sprs.{spr_of, is_hypervisor, is_read_only}
use Rattle.ppc_spr.specs.Msrs.{hv, pr}

-- the bit of weight 16 is 1 in the numbers of registers that problem state may not use
abbrev pub is_privileged : ℕ → Bool
is_privileged n = n / 16 % 2 == 1

-- the answer where problem state does not forbid the number
abbrev pub listed_access : Option Spr → Msr → Bool → Access
listed_access None msr write = NotInProfile
listed_access (Some s) msr write =
    if write && is_read_only s then NotInProfile
    else (if is_hypervisor s && not (hv msr) then Assist else Allowed s)

-- a write, else a read, of the register of number n by a thread with this machine state
unfoldable pub access_of : ℕ → Msr → Bool → Access
access_of n msr write = if is_privileged n && pr msr then Program else listed_access (spr_of n) msr write
