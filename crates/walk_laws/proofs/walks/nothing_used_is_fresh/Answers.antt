use Rattle.journal_core.specs.Places.{place_of}
use Rattle.journal_core.specs.Rights.{first_denial}
use Rattle.journal_core.specs.Walk.{task_of, start_of}
use Rattle.journal_core.specs.Resumed.{owed_at}
use Rattle.walk_laws.proofs.ResumedLemmas.{unused_is_fresh}
use Rattle.walk_laws.proofs.walks.nothing_used_is_fresh.Goals as goal

pub returns : goal.returns
returns c = λ word moment known ask rs out h. unused_is_fresh word moment known (task_of (first_denial ask) ask) (start_of (first_denial ask) ask) (owed_at known (place_of ask)) rs out h
