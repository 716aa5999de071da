use Rattle.walk_laws.proofs.WalkExists.{ask-fresh-exists}
use Rattle.walk_laws.proofs.walks.fresh_walk_exists.Goals as goal

pub returns : goal.returns
returns c = ask-fresh-exists
