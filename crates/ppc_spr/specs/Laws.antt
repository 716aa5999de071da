-- What the rules for the machine state register keep.
use Rattle.std.specs.Prelude.{◌≡◌, true, false, Result, IfOk}
use Rattle.ppc_spr.specs.declared.msr.Msr.{Msr}
use Rattle.ppc_spr.specs.declared.msr.ProfileBits.{ProfileBits}
use Rattle.ppc_spr.specs.Msrs.{hv, pr, ee, ir, dr}
use Rattle.ppc_spr.specs.Profile.{is_in_profile}

-- where HV was 0, it is
abbrev pub GainsNoHypervisor : Msr → Result Msr ProfileBits → Type 0
GainsNoHypervisor old new = hv old ≡ false → IfOk new (λ m. hv m ≡ false)

-- problem state has external interrupts enabled and relocation on
abbrev pub ConfinesProblem : Result Msr ProfileBits → Type 0
ConfinesProblem new = IfOk new (λ m. pr m ≡ true → (ee m ≡ true) × (ir m ≡ true) × (dr m ≡ true))

-- it is in the profile
abbrev pub IsProfiled : Result Msr ProfileBits → Type 0
IsProfiled new = IfOk new (λ m. is_in_profile m.0 ≡ true)
