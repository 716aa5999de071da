use Rattle.ppc_step.proofs.SoundLemmas.{steps_stay_sound}
use Rattle.ppc_step.proofs.laws.a_step_keeps_states_sound.Goals as goal

pub returns : goal.returns
returns c = steps_stay_sound
