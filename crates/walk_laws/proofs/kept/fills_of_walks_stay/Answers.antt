use Rattle.walk_laws.proofs.FillStays.{fill_stays}
use Rattle.walk_laws.proofs.kept.fills_of_walks_stay.Goals as goal

pub returns : goal.returns
returns c = fill_stays
