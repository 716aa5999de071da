-- What an interrupt leaves in the registers of the thread that takes it (Power ISA, Book III, 6.4 and 6.5).
use Rattle.std.specs.Prelude.{ℕ}
use Rattle.ppc_bits.specs.Addresses.{next_address}
use Rattle.ppc_bits.specs.Bits.{bit, word_of, either}
use Rattle.ppc_spr.specs.declared.msr.Msr.{Msr}
use Rattle.ppc_spr.specs.Msrs.{after_interrupt}
use Rattle.journal_core.specs.declared.causes.Cause.{Cause}
use Rattle.journal_core.specs.declared.causes.Cause.TheVariants.{DataStorage, DataSegment, Alignment, SystemCall, HypDataStorage, HypInstStorage, HypAssist}
use Rattle.thread_regs.specs.declared.registers.Thread.{Thread}
use Rattle.interrupts.specs.declared.table.SavedIn.{SavedIn}
use Rattle.interrupts.specs.declared.table.SavedIn.TheVariants.{Srr, Hsrr}
use Rattle.interrupts.specs.declared.table.Interrupt.{Interrupt}
use Rattle.interrupts.specs.Table.{interrupt_of}

-- the address of the instruction that caused the interrupt, or before which it came; of a system call, that of the next one
unfoldable pub saved_address : Cause → ℕ → ℕ
saved_address (SystemCall lev) nia = next_address nia
saved_address other nia = nia

-- the machine state in which the interrupt came, with these bits set
abbrev pub saved_state : Msr → ℕ → ℕ
saved_state msr bits = word_of 64 (λ i. either (bit 64 msr.0 i) (bit 64 bits i))

abbrev pub with_saved : SavedIn → ℕ → ℕ → Thread → Thread
with_saved Srr address state t = record t { srr0 = address; srr1 = state }
with_saved Hsrr address state t = record t { hsrr0 = address; hsrr1 = state }

-- the thread goes on at the interrupt's offset, in the machine state that the interrupt leaves
abbrev pub entered : Interrupt → Thread → Thread
entered interrupt t = record t { nia = interrupt.offset; msr = after_interrupt t.msr interrupt.hyper }

-- the registers that tell more of some causes
unfoldable pub with_details : Cause → Thread → Thread
with_details (DataStorage address why) t = record t { dar = address; dsisr = why }
with_details (DataSegment address) t = record t { dar = address }
with_details (Alignment address) t = record t { dar = address }
with_details (HypDataStorage address why guest) t = record t { hdar = address; hdsisr = why; asdr = guest }
with_details (HypInstStorage bits guest) t = record t { asdr = guest }
with_details (HypAssist word) t = record t { heir = word }
with_details other t = t

abbrev pub with_old_state : Cause → Interrupt → Thread → Thread → Thread
with_old_state cause interrupt old t = with_saved interrupt.saved_in (saved_address cause old.nia) (saved_state old.msr interrupt.bits) t

-- the thread after the interrupt of this cause; what is not named stays
unfoldable pub delivered : Cause → Thread → Thread
delivered cause t =
    with_details cause (with_old_state cause (interrupt_of cause) t (entered (interrupt_of cause) t))
