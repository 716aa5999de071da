use Rattle.walk_laws.proofs.FewFills.{at_most_35}
use Rattle.walk_laws.proofs.kept.fills_are_few.Goals as goal

pub returns : goal.returns
returns c = at_most_35
