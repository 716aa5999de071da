-- The registers after an interrupt, by its cause.
use Rattle.std.proofs.Common.{◌≡◌, ◌%◌, ◌<◌, refl, arith}
use Rattle.ppc_spr.specs.Msrs.{after_interrupt}
use Rattle.journal_core.specs.declared.causes.Cause.{Cause}
use Rattle.journal_core.specs.declared.causes.Cause.TheVariants.{DataStorage, DataSegment, InstStorage, InstSegment, Alignment, Program, Decrementer, HypDecrementer, SystemCall, HypDataStorage, HypInstStorage, HypAssist, HypDoorbell}
use Rattle.thread_regs.specs.declared.registers.Thread.{Thread}
use Rattle.interrupts.specs.Table.{interrupt_of, offset_of}
use Rattle.interrupts.specs.Delivery.{delivered, with_details}
use Rattle.interrupts.specs.Laws.{LeavesTheRest}

pub leaves_the_rest : (cause : Cause) (t : Thread) → LeavesTheRest t (delivered cause t)
unfolding delivered interrupt_of with_details
leaves_the_rest (DataStorage dar dsisr) t = refl
leaves_the_rest (DataSegment dar) t = refl
leaves_the_rest (InstStorage bits) t = refl
leaves_the_rest InstSegment t = refl
leaves_the_rest (Alignment dar) t = refl
leaves_the_rest (Program bits) t = refl
leaves_the_rest Decrementer t = refl
leaves_the_rest HypDecrementer t = refl
leaves_the_rest (SystemCall lev) t = refl
leaves_the_rest (HypDataStorage hdar hdsisr asdr) t = refl
leaves_the_rest (HypInstStorage bits asdr) t = refl
leaves_the_rest (HypAssist heir) t = refl
leaves_the_rest HypDoorbell t = refl

pub state_after : (cause : Cause) (t : Thread) → (delivered cause t).msr ≡ after_interrupt t.msr (interrupt_of cause).hyper
unfolding delivered interrupt_of with_details
state_after (DataStorage dar dsisr) t = refl
state_after (DataSegment dar) t = refl
state_after (InstStorage bits) t = refl
state_after InstSegment t = refl
state_after (Alignment dar) t = refl
state_after (Program bits) t = refl
state_after Decrementer t = refl
state_after HypDecrementer t = refl
state_after (SystemCall lev) t = refl
state_after (HypDataStorage hdar hdsisr asdr) t = refl
state_after (HypInstStorage bits asdr) t = refl
state_after (HypAssist heir) t = refl
state_after HypDoorbell t = refl

pub next_after : (cause : Cause) (t : Thread) → (delivered cause t).nia ≡ offset_of cause
unfolding delivered interrupt_of with_details
next_after (DataStorage dar dsisr) t = refl
next_after (DataSegment dar) t = refl
next_after (InstStorage bits) t = refl
next_after InstSegment t = refl
next_after (Alignment dar) t = refl
next_after (Program bits) t = refl
next_after Decrementer t = refl
next_after HypDecrementer t = refl
next_after (SystemCall lev) t = refl
next_after (HypDataStorage hdar hdsisr asdr) t = refl
next_after (HypInstStorage bits asdr) t = refl
next_after (HypAssist heir) t = refl
next_after HypDoorbell t = refl

pub handler_is_aligned : (cause : Cause) → offset_of cause % 4 ≡ 0
unfolding interrupt_of
handler_is_aligned (DataStorage dar dsisr) = refl
handler_is_aligned (DataSegment dar) = refl
handler_is_aligned (InstStorage bits) = refl
handler_is_aligned InstSegment = refl
handler_is_aligned (Alignment dar) = refl
handler_is_aligned (Program bits) = refl
handler_is_aligned Decrementer = refl
handler_is_aligned HypDecrementer = refl
handler_is_aligned (SystemCall lev) = refl
handler_is_aligned (HypDataStorage hdar hdsisr asdr) = refl
handler_is_aligned (HypInstStorage bits asdr) = refl
handler_is_aligned (HypAssist heir) = refl
handler_is_aligned HypDoorbell = refl

pub handler_is_low : (cause : Cause) → offset_of cause < 4096
unfolding interrupt_of
handler_is_low (DataStorage dar dsisr) = omega arith
handler_is_low (DataSegment dar) = omega arith
handler_is_low (InstStorage bits) = omega arith
handler_is_low InstSegment = omega arith
handler_is_low (Alignment dar) = omega arith
handler_is_low (Program bits) = omega arith
handler_is_low Decrementer = omega arith
handler_is_low HypDecrementer = omega arith
handler_is_low (SystemCall lev) = omega arith
handler_is_low (HypDataStorage hdar hdsisr asdr) = omega arith
handler_is_low (HypInstStorage bits asdr) = omega arith
handler_is_low (HypAssist heir) = omega arith
handler_is_low HypDoorbell = omega arith
