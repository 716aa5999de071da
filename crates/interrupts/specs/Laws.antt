-- What follows from the definitions of interrupts.
use Rattle.std.specs.Prelude.{◌≡◌, ℕ, ◌<◌, true, ◌||◌, Result, Ok}
use Rattle.ppc_bits.specs.Bits.{bit, is_within}
use Rattle.ppc_spr.specs.declared.msr.Msr.{Msr}
use Rattle.ppc_spr.specs.declared.msr.ProfileBits.{ProfileBits}
use Rattle.ppc_spr.specs.Msrs.{pr, ee, ir, dr, after_rfid, after_hrfid}
use Rattle.ppc_spr.specs.Profile.{is_in_profile}
use Rattle.journal_core.specs.declared.causes.Cause.{Cause}
use Rattle.thread_regs.specs.declared.registers.Thread.{Thread}
use Rattle.interrupts.specs.declared.table.SavedIn.{SavedIn}
use Rattle.interrupts.specs.declared.table.SavedIn.TheVariants.{Srr, Hsrr}
use Rattle.interrupts.specs.Table.{interrupt_of}
use Rattle.interrupts.specs.Delivery.{delivered}

-- all registers but the next address, the machine state and those that interrupts write are as they were
abbrev pub LeavesTheRest : Thread → Thread → Type 0
LeavesTheRest old new = new ≡ record old {
  nia = new.nia;
  msr = new.msr;
  srr0 = new.srr0;
  srr1 = new.srr1;
  hsrr0 = new.hsrr0;
  hsrr1 = new.hsrr1;
  dar = new.dar;
  dsisr = new.dsisr;
  hdar = new.hdar;
  hdsisr = new.hdsisr;
  asdr = new.asdr;
  heir = new.heir;
}

-- problem state has external interrupts enabled and relocation on
abbrev pub IsConfined : Msr → Type 0
IsConfined msr = pr msr ≡ true → (ee msr ≡ true) × (ir msr ≡ true) × (dr msr ≡ true)

-- bits that a cause may set in the saved machine state: they stand where a return reads no bit
abbrev pub IsStatus : ℕ → Type 0
IsStatus bits = (i : ℕ) → i < 64 → bit 64 bits i ≡ 1 → (is_within 33 36 i || is_within 42 47 i) ≡ true

-- the machine state after a return from this pair of saved registers: rfid from SRR1, hrfid from HSRR1
abbrev pub returned : SavedIn → Thread → Result Msr ProfileBits
returned Srr t = after_rfid t.msr t.srr1
returned Hsrr t = after_hrfid t.msr t.hsrr1

-- a return directly after an interrupt gives back the machine state that was interrupted
abbrev pub AReturnRestoresTheState : Cause → Thread → Type 0
AReturnRestoresTheState cause t =
    is_in_profile t.msr.0 ≡ true → IsConfined t.msr → IsStatus (interrupt_of cause).bits →
    returned (interrupt_of cause).saved_in (delivered cause t) ≡ Ok t.msr
