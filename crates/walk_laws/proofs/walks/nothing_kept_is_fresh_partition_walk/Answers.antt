use Rattle.walk_laws.proofs.PartResumedLemmas.{nothing_kept_is_fresh_part}
use Rattle.walk_laws.proofs.walks.nothing_kept_is_fresh_partition_walk.Goals as goal

pub returns : goal.returns
returns c = nothing_kept_is_fresh_part
