use Rattle.walk_laws.proofs.PartResumedLemmas.{part_resumed_is_short}
use Rattle.walk_laws.proofs.walks.resumed_partition_walk_has_at_most_5_items.Goals as goal

pub returns : goal.returns
returns c = part_resumed_is_short
