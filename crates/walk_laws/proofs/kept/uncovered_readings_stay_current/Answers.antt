use Rattle.journal_core.proofs.CurrentLemmas.{stays_current}
use Rattle.walk_laws.proofs.kept.uncovered_readings_stay_current.Goals as goal

pub returns : goal.returns
returns c = stays_current
