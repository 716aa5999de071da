use Rattle.walk_laws.proofs.KeptPart.{directory_begins_part, page_begins_part}
use Rattle.walk_laws.proofs.KeptProcess.{directory_begins_process}
use Rattle.walk_laws.proofs.ResumedExists.{standing_exists}
use Rattle.walk_laws.proofs.kept.standing_walk_exists.Goals as goal

pub returns : goal.returns
returns c = standing_exists directory_begins_part page_begins_part directory_begins_process
