use Rattle.walk_laws.proofs.WalkBounds.{part-few}
use Rattle.walk_laws.proofs.walks.partition_walk_has_at_most_5_readings.Goals as goal

pub returns : goal.returns
returns c = part-few
