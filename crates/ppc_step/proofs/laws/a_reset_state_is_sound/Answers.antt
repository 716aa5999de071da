use Rattle.ppc_step.proofs.SoundLemmas.{reset_is_sound}
use Rattle.ppc_step.proofs.laws.a_reset_state_is_sound.Goals as goal

pub returns : goal.returns
returns c = reset_is_sound
