use Rattle.journal_core.specs.Places.{place_of}
use Rattle.journal_core.specs.Rights.{first_denial}
use Rattle.journal_core.specs.Walk.{task_of, start_of}
use Rattle.journal_core.specs.Resumed.{owed_at}
use Rattle.walk_laws.proofs.ResumedLemmas.{resumed_walks}
use Rattle.walk_laws.proofs.walks.resumed_walk_is_walk.Goals as goal

pub returns : goal.returns
returns c = λ word moment known ask items out h. resumed_walks word moment known (task_of (first_denial ask) ask) (start_of (first_denial ask) ask) (owed_at known (place_of ask)) items out h
