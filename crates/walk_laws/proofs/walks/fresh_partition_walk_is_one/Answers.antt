use Rattle.walk_laws.proofs.PartitionWalkIsOne.{fresh_part_unique}
use Rattle.walk_laws.proofs.walks.fresh_partition_walk_is_one.Goals as goal

pub returns : goal.returns
returns c = fresh_part_unique
