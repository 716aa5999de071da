use Rattle.walk_laws.proofs.PartitionPart.{begins-with-part}
use Rattle.walk_laws.proofs.walks.entered_walk_begins_with_part.Goals as goal

pub returns : goal.returns
returns c = begins-with-part
