use Rattle.step_laws.proofs.StatusLemmas.{walk_status}
use Rattle.step_laws.proofs.laws.walks_set_status_bits.Goals as goal

pub returns : goal.returns
returns c = walk_status
