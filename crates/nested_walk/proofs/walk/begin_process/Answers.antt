use Rattle.std.proofs.Common.{sym}
use Rattle.journal_core.specs.declared.rows.KeyKind.TheVariants.{ProcessDir}
use Rattle.walk_laws.proofs.KeptProcess.{directory_begins_process}
use Rattle.nested_walk.specs.Targets.{task_for}
use Rattle.walk_laws.proofs.Begun.{process_start-begun}
use Rattle.nested_walk.proofs.NestTakes.{can_take}
use Rattle.nested_walk.proofs.walk.begin_process.Goals as goal

pub take_fill-requires-clause-begun : goal.take_fill-requires-clause-begun
take_fill-requires-clause-begun g c = rw c.start-first.ensures.stage (process_start-begun (task_for c.args.target.now))

pub take_fill-requires-clause-fill : goal.take_fill-requires-clause-fill
take_fill-requires-clause-fill g c =
    can_take c.args.journal.now.rows c.args.target.now.ask c.args.target.now.lpid c.args.target.now.pid c.args.target.now.address c.in-Some.i c.start-first.result c.requires.of_process c.start-first.ensures.stage
    (directory_begins_process c.args.journal.now c.args.thread c.args.target.now.lpid c.args.target.now.pid c.args.target.now.address c.in-Some.i c.args.target.now.ask c.requires.of_process
    (g.met.C.Kept.directory_stands c.args.kept.now c.args.journal.now c.args.thread c.args.target.now.ask.ptcr ProcessDir c.args.target.now.lpid c.args.target.now.pid c.args.target.now.address c.in-Some.i tt c.requires.thread c.requires.quiet c.requires.fits (sym c.in-Some.ensures)))

pub returns-in-None-clause-begun : goal.returns-in-None-clause-begun
returns-in-None-clause-begun g c = rw c.start-first.ensures.stage (process_start-begun (task_for c.args.target.now))
