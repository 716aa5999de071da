use Rattle.walk_laws.proofs.KeptPart.{directory_begins_part}
use Rattle.walk_laws.proofs.kept.kept_directory_begins_part.Goals as goal

pub returns : goal.returns
returns c = directory_begins_part
