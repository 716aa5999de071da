use Rattle.journal_core.specs.Walk.{task_of, start_of}
use Rattle.walk_laws.proofs.WalkIsOne.{true_unique}
use Rattle.walk_laws.proofs.walks.true_walk_is_one.Goals as goal

pub returns : goal.returns
returns c = λ deny word ask rs qs o p a t b u. true_unique word (task_of deny ask) (start_of deny ask) rs qs o p a t b u
