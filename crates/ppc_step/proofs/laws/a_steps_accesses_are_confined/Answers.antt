use Rattle.ppc_step.proofs.ConfinedLemmas.{steps_confined}
use Rattle.ppc_step.proofs.laws.a_steps_accesses_are_confined.Goals as goal

pub returns : goal.returns
returns c = steps_confined
