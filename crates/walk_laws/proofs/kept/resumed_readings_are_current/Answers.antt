use Rattle.walk_laws.proofs.ResumedReadingsLemmas.{resumed_current}
use Rattle.walk_laws.proofs.kept.resumed_readings_are_current.Goals as goal

pub returns : goal.returns
returns c = resumed_current
