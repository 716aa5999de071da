use Rattle.journal_core.specs.Places.{place_of}
use Rattle.journal_core.specs.Rights.{first_denial}
use Rattle.journal_core.specs.Walk.{task_of, start_of}
use Rattle.journal_core.specs.Resumed.{owed_at}
use Rattle.walk_laws.proofs.ResumedLemmas.{resumed_unique}
use Rattle.walk_laws.proofs.walks.resumed_walk_is_one.Goals as goal

pub returns : goal.returns
returns c = λ word moment known ask xs ys o p a b. resumed_unique word moment known (task_of (first_denial ask) ask) (start_of (first_denial ask) ask) (owed_at known (place_of ask)) xs ys o p a b
