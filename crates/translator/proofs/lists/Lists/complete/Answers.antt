use Rattle.std.proofs.Common.{ap, arith, refl, ◌∙◌}
use Rattle.std.specs.Prelude.{slice_get}
use Rattle.journal_core.specs.Translating.{without_done}
use Rattle.translator.specs.declared.lists.Lists.{Lists}
use Rattle.translator.proofs.ThreadLemmas.{so_far_none, so_far_more, so_far_all, thread_before}
use Rattle.translator.proofs.lists.Lists.complete.Goals as goal

pub loop-thread-init : goal.loop-thread-init
loop-thread-init c = (refl, so_far_none c.args.self.now (without_done c.args.journal.now) c.args.journal.now c.args.row.now)

pub complete_thread-requires-clause-fits : goal.complete_thread-requires-clause-fits
complete_thread-requires-clause-fits c = (
  slice_get c.requires.fits.0 c.loop-thread.thread,
  thread_before c.args.self.now c.loop-thread.self (without_done c.args.journal.now) c.args.journal.now c.args.row.now c.loop-thread.thread c.requires.fits.0 c.loop-thread-test.true c.loop-thread.invariant.1 c.requires.fits.1,
)

pub loop-thread-preserved : goal.loop-thread-preserved
loop-thread-preserved c = (
  ap (λ (s : Lists). s.threads) c.complete_thread.ensures.lists ∙ c.loop-thread.invariant.0,
  so_far_more c.args.self.now c.loop-thread.self c.complete_thread.new.self (without_done c.args.journal.now) c.args.journal.now c.args.row.now c.loop-thread.thread c.loop-thread-test.true c.loop-thread.invariant.1 c.complete_thread.ensures.lists c.complete_thread.ensures.fits,
)

pub returns-clause-fits : goal.returns-clause-fits
returns-clause-fits c =
    so_far_all c.args.self.now c.loop-thread.self c.args.journal.now c.args.row.now c.loop-thread.thread (omega (arith, c.loop-thread-test.false, c.loop-thread.auto.thread-end)) c.loop-thread.invariant.0 c.loop-thread.invariant.1
