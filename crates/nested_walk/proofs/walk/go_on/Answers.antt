use Rattle.nested_walk.specs.Targets.{task_for}
use Rattle.walk_laws.proofs.Begun.{next-begun}
use Rattle.nested_walk.proofs.walk.go_on.Goals as goal

pub returns-clause-begun : goal.returns-clause-begun
returns-clause-begun c = rw c.next.ensures.stage (next-begun (task_for c.args.target.now) c.args.stage c.args.value)
