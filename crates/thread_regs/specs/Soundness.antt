-- What holds of the registers of each thread, whatever it executes.
use Rattle.std.specs.Prelude.{◌≡◌, ℕ, ◌%◌, ◌^◌, ◌<◌, true, List, length}
use Rattle.ppc_spr.specs.declared.spr.Spr.TheVariants.{Lpcr, Amr, Iamr}
use Rattle.ppc_spr.specs.Values.{may_have}
use Rattle.ppc_spr.specs.Profile.{is_in_profile}
use Rattle.thread_regs.specs.declared.registers.Thread.{Thread}
use Rattle.thread_regs.specs.Registers.{thread_at}

-- the numbers of the partition and of the process, which are narrower than the types that have them
pub record IsWithinWidths (t : Thread) : Type 0 where
  pub partition : t.lpidr < 2 ^ 12
  pub process : t.pidr < 2 ^ 20

-- each register that may not have every value of its type has one that it may have: the machine state register, the logical
-- partitioning control register and the authority masks by their profiles, and the narrow ones by their widths
pub record IsProfiled (t : Thread) : Type 0 where
  pub machine_state : is_in_profile t.msr.0 ≡ true
  pub partitioning : may_have Lpcr t.lpcr ≡ true
  pub data_mask : may_have Amr t.amr ≡ true
  pub fetch_mask : may_have Iamr t.iamr ≡ true
  pub widths : IsWithinWidths t

-- and the next instruction lies at a multiple of 4
pub record IsSoundThread (t : Thread) : Type 0 where
  pub profile : IsProfiled t
  pub next : t.nia % 4 ≡ 0

-- each of these threads is sound
abbrev pub AreSound : List Thread → Type 0
AreSound threads = (i : ℕ) → i < length threads → IsSoundThread (thread_at threads i)

-- each has its numbers within their widths
abbrev pub AreWithinWidths : List Thread → Type 0
AreWithinWidths threads = (i : ℕ) → i < length threads → IsWithinWidths (thread_at threads i)
