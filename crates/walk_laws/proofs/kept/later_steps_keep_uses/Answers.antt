use Rattle.walk_laws.proofs.UsesStay.{uses_go_on}
use Rattle.walk_laws.proofs.kept.later_steps_keep_uses.Goals as goal

pub returns : goal.returns
returns c = uses_go_on
