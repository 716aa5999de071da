-- The table of interrupts (Power ISA, Book III, 6.5, and the figures of interrupt vectors and of MSR settings in chapter 6).
use Rattle.std.specs.Prelude.{ℕ, ◌==◌, if◌then◌else◌}
use Rattle.journal_core.specs.declared.causes.Cause.{Cause}
use Rattle.journal_core.specs.declared.causes.Cause.TheVariants.{DataStorage, DataSegment, InstStorage, InstSegment, Alignment, Program, Decrementer, HypDecrementer, SystemCall, HypDataStorage, HypInstStorage, HypAssist, HypDoorbell}
use Rattle.ppc_spr.specs.declared.msr.Hyper.{Hyper}
use Rattle.ppc_spr.specs.declared.msr.Hyper.TheVariants.{Keep, Raise, RaiseKeepRi}
use Rattle.interrupts.specs.declared.table.SavedIn.{SavedIn}
use Rattle.interrupts.specs.declared.table.SavedIn.TheVariants.{Srr, Hsrr}
use Rattle.interrupts.specs.declared.table.Interrupt.{Interrupt}

-- the address at which the thread goes on, the pair of registers in which it saves, the bits that are set in the saved
-- machine state, and what becomes of HV and RI: Keep keeps HV, the others raise it; RaiseKeepRi keeps RI, the others clear it
abbrev pub row : ℕ → SavedIn → ℕ → Hyper → Interrupt
row place pair set change = record { offset = place; saved_in = pair; bits = set; hyper = change }

-- a system call of level 1 calls the hypervisor
abbrev pub called : ℕ → Hyper
called lev = if lev == 1 then Raise else Keep

unfoldable pub interrupt_of : Cause → Interrupt
interrupt_of (DataStorage dar dsisr) = row 0x300 Srr 0 Keep
interrupt_of (DataSegment dar) = row 0x380 Srr 0 Keep
interrupt_of (InstStorage bits) = row 0x400 Srr bits Keep
interrupt_of InstSegment = row 0x480 Srr 0 Keep
interrupt_of (Alignment dar) = row 0x600 Srr 0 Keep
interrupt_of (Program bits) = row 0x700 Srr bits Keep
interrupt_of Decrementer = row 0x900 Srr 0 Keep
interrupt_of HypDecrementer = row 0x980 Hsrr 0 RaiseKeepRi
interrupt_of (SystemCall lev) = row 0xc00 Srr 0 (called lev)
interrupt_of (HypDataStorage hdar hdsisr asdr) = row 0xe00 Hsrr 0 RaiseKeepRi
interrupt_of (HypInstStorage bits asdr) = row 0xe20 Hsrr bits RaiseKeepRi
interrupt_of (HypAssist heir) = row 0xe40 Hsrr 0 RaiseKeepRi
interrupt_of HypDoorbell = row 0xe80 Hsrr 0 RaiseKeepRi

abbrev pub offset_of : Cause → ℕ
offset_of cause = (interrupt_of cause).offset
