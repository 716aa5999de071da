use Rattle.walk_laws.proofs.FreedWalks.{permitted_or_free}
use Rattle.walk_laws.proofs.walks.permitted_walk_is_walk.Goals as goal

pub returns : goal.returns
returns c = permitted_or_free
