use Rattle.walk_laws.proofs.TrueAgain.{true_again}
use Rattle.walk_laws.proofs.kept.readings_are_true_again.Goals as goal

pub returns : goal.returns
returns c = true_again
