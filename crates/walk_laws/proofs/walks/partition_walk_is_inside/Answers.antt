use Rattle.walk_laws.proofs.PartitionPart.{part-inside}
use Rattle.walk_laws.proofs.walks.partition_walk_is_inside.Goals as goal

pub returns : goal.returns
returns c = part-inside
