use Rattle.walk_laws.proofs.PartResumedLemmas.{part_resumed_is_walk}
use Rattle.walk_laws.proofs.walks.resumed_partition_walk_is_walk.Goals as goal

pub returns : goal.returns
returns c = part_resumed_is_walk
