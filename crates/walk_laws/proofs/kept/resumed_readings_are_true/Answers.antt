use Rattle.walk_laws.proofs.ResumedReadingsLemmas.{resumed_true}
use Rattle.walk_laws.proofs.kept.resumed_readings_are_true.Goals as goal

pub returns : goal.returns
returns c = resumed_true
