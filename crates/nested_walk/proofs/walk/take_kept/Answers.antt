use Rattle.nested_walk.specs.Targets.{task_for}
use Rattle.journal_core.specs.KeptAnswers.{known_of}
use Rattle.nested_walk.proofs.NestTakes.{kept_takes, takes_room}
use Rattle.nested_walk.proofs.walk.take_kept.Goals as goal

pub returns-in-PartEntry-clause-takes : goal.returns-in-PartEntry-clause-takes
returns-in-PartEntry-clause-takes g c =
    kept_takes (known_of c.args.journal.now.rows (g.C.Kept.directory_of c.args.kept.now c.args.journal.now c.args.thread) (g.C.Kept.page_of c.args.kept.now c.args.journal.now c.args.thread)) (task_for c.args.target.now) c.args.stage c.inside.result
    c.in-PartEntry.goal c.in-PartEntry.gra c.in-PartEntry._at c.begin_with-part.result c.args.trail.now c.begin_with-part.new.trail c.in-PartEntry.is c.inside.ensures.stage c.requires.begun c.begin_with-part.ensures.begins

pub returns-in-PartEntry-clause-room : goal.returns-in-PartEntry-clause-room
returns-in-PartEntry-clause-room g c = takes_room _ _ _ _ _ _ (returns-in-PartEntry-clause-takes g c)
