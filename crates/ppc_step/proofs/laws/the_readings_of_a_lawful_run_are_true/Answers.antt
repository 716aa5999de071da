use Rattle.ppc_step.proofs.TruthLemmas.{lawful_true}
use Rattle.ppc_step.proofs.laws.the_readings_of_a_lawful_run_are_true.Goals as goal

pub returns : goal.returns
returns c = lawful_true
