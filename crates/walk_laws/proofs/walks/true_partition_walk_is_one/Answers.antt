use Rattle.walk_laws.proofs.PartitionWalkIsOne.{true_part_unique}
use Rattle.walk_laws.proofs.walks.true_partition_walk_is_one.Goals as goal

pub returns : goal.returns
returns c = true_part_unique
