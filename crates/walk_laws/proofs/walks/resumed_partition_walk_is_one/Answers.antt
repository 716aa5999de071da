use Rattle.walk_laws.proofs.PartResumedLemmas.{part_resumed_is_one}
use Rattle.walk_laws.proofs.walks.resumed_partition_walk_is_one.Goals as goal

pub returns : goal.returns
returns c = part_resumed_is_one
