use Rattle.walk_laws.proofs.KeptPart.{hit_admitted}
use Rattle.walk_laws.proofs.kept.hits_are_admitted.Goals as goal

pub returns : goal.returns
returns c = hit_admitted
