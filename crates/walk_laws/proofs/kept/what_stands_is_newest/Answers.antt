use Rattle.walk_laws.proofs.LastFourLemmas.{standing_newest}
use Rattle.walk_laws.proofs.kept.what_stands_is_newest.Goals as goal

pub returns : goal.returns
returns c = standing_newest
