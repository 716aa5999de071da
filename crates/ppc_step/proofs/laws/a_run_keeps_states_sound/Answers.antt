use Rattle.ppc_step.proofs.SoundLemmas.{runs_stay_sound}
use Rattle.ppc_step.proofs.laws.a_run_keeps_states_sound.Goals as goal

pub returns : goal.returns
returns c = runs_stay_sound
