use Rattle.walk_laws.proofs.ResumedExists.{resumed_exists}
use Rattle.walk_laws.proofs.kept.resumed_walk_exists.Goals as goal

pub returns : goal.returns
returns c = resumed_exists
