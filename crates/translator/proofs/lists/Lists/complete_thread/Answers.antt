use Rattle.std.proofs.Common.{arith, sym, subst}
use Rattle.translator.specs.declared.lists.Lists.{Lists}
use Rattle.translator.specs.Fits.{FitsThread}
use Rattle.translator.proofs.DoneLemmas.{thread_after}
use Rattle.translator.proofs.lists.Lists.complete_thread.Goals as goal

pub returns-clause-fits : goal.returns-clause-fits
returns-clause-fits c = λ value new fits after.
    subst (λ (s : Lists). FitsThread s c.args.journal.now c.args.thread new) (sym c.drop_ended.ensures)
    (thread_after c.args.self.now c.args.journal.now c.args.row.now c.args.thread value new (omega arith) (omega arith) c.requires.last c.requires.step c.fills_are_named.ensures.named c.rows_are_dated.ensures fits after)
