use Rattle.walk_laws.proofs.WalkBounds.{walk-few}
use Rattle.walk_laws.proofs.walks.walk_has_at_most_36_readings.Goals as goal

pub returns : goal.returns
returns c = walk-few
