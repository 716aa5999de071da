use Rattle.journal_core.specs.Rights.{first_denial}
use Rattle.journal_core.specs.Walk.{task_of, start_of}
use Rattle.walk_laws.proofs.WalkIsOne.{fresh_unique}
use Rattle.walk_laws.proofs.walks.fresh_walk_is_one.Goals as goal

pub returns : goal.returns
returns c = λ word moment ask rs qs o p a b. fresh_unique word moment (task_of (first_denial ask) ask) (start_of (first_denial ask) ask) rs qs o p a b
