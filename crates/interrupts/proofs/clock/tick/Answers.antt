use Rattle.std.proofs.Common.{◌<◌, length, refl, ◌∙◌, arith}
use Rattle.std.proofs.lemmas.List.{length-set}
use Rattle.interrupts.specs.Clock.{all_ticked}
use Rattle.interrupts.proofs.ClockLemmas.{ticked_more, all_are_ticked}
use Rattle.interrupts.proofs.clock.tick.Goals as goal

pub loop-number-init : goal.loop-number-init
unfolding all_ticked
loop-number-init c = record { threads = refl; count = refl }

pub loop-number-preserved : goal.loop-number-preserved
loop-number-preserved c =
    let below : c.loop-number.number < length c.args.threads.now = omega (arith, c.count-number-end.ensures.count, c.loop-number.invariant.count) in
    record {
      threads = rw (c.tick_one.ensures, c.get_mut.ensures.value) (ticked_more c.args.threads.now c.loop-number.threads c.loop-number.number below c.loop-number.invariant.threads);
      count = length-set c.loop-number.threads c.loop-number.number c.tick_one.new.thread ∙ c.loop-number.invariant.count;
    }

pub returns : goal.returns
returns c = all_are_ticked c.args.threads.now c.loop-number.threads c.loop-number.number (omega (arith, c.count-number-end.ensures.count)) c.loop-number.invariant.threads
