use Rattle.std.proofs.Common.{◌≡◌, ◌+◌, length, arith, ◌∙◌, ap, refl}
use Rattle.thread_regs.specs.Registers.{reset_from}
use Rattle.thread_regs.proofs.ResetLemmas.{reset_from-push, length-reset_from}
use Rattle.thread_regs.proofs.threads.Threads.reset.Goals as goal

pub loop-number-preserved : goal.loop-number-preserved
loop-number-preserved c =
    let pushed = c.push.ensures.items in
    let more = reset_from-push 0 c.loop-number.number c.loop-number.number c.args.entry (omega arith) in
    let is : c.push.new.self.items ≡ reset_from 0 (c.loop-number.number + 1) c.args.entry = rw (pushed, c.reset.ensures, c.loop-number.invariant.reset, more) refl in
    record {
      reset = is;
      count = ap length is ∙ length-reset_from 0 (c.loop-number.number + 1) c.args.entry;
    }
