use Rattle.ppc_step.proofs.OtherThreads.{steps_keep_others}
use Rattle.ppc_step.proofs.laws.a_step_keeps_other_threads.Goals as goal

pub returns : goal.returns
returns c = steps_keep_others
