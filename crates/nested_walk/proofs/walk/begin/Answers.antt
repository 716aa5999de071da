use Rattle.std.proofs.Common.{subst, sym}
use Rattle.journal_core.specs.Takes.{IsBegun}
use Rattle.journal_core.specs.KeptAnswers.{known_of}
use Rattle.nested_walk.specs.Targets.{task_for}
use Rattle.nested_walk.proofs.NestTakes.{nothing_owed, takes_nothing, start_begun}
use Rattle.nested_walk.proofs.walk.begin.Goals as goal

pub returns-in_default : goal.returns-in_default
returns-in_default g c = record {
  takes = takes_nothing _ _ _ _ _ _ (nothing_owed (known_of c.args.journal.now.rows (g.C.Kept.directory_of c.args.kept.now c.args.journal.now c.args.thread) (g.C.Kept.page_of c.args.kept.now c.args.journal.now c.args.thread)) c.args.place c.in_default.not-Space) c.start.ensures.stage;
  range = c.start.ensures.range;
  begun = subst (IsBegun (task_for c.args.target.now)) (sym c.start.ensures.stage) (start_begun (task_for c.args.target.now) c.args.place);
}
