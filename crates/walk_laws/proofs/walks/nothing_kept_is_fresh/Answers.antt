use Rattle.walk_laws.proofs.ResumedLemmas.{nothing_kept}
use Rattle.walk_laws.proofs.walks.nothing_kept_is_fresh.Goals as goal

pub returns : goal.returns
returns c = nothing_kept
