use Rattle.std.proofs.Common.{arith}
use Rattle.nested_walk.specs.Targets.{task_for}
use Rattle.nested_walk.proofs.NestTakes.{step_fewer}
use Rattle.nested_walk.proofs.walk.make_reading.Goals as goal

pub push-requires : goal.push-requires
push-requires c = omega (arith, step_fewer (task_for c.args.target.now) c.args.stage c.args.value c.requires.under_way, c.requires.room)

pub returns-clause-fewer : goal.returns-clause-fewer
returns-clause-fewer c = rw c.go_on.ensures.stage (step_fewer (task_for c.args.target.now) c.args.stage c.args.value c.requires.under_way)
