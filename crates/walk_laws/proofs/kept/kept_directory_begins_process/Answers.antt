use Rattle.walk_laws.proofs.KeptProcess.{directory_begins_process}
use Rattle.walk_laws.proofs.kept.kept_directory_begins_process.Goals as goal

pub returns : goal.returns
returns c = directory_begins_process
