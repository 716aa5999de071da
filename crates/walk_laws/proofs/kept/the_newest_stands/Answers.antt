use Rattle.walk_laws.proofs.LastFourLemmas.{newest_standing}
use Rattle.walk_laws.proofs.kept.the_newest_stands.Goals as goal

pub returns : goal.returns
returns c = newest_standing
