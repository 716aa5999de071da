use Rattle.storage_ops.proofs.StoringLemmas.{weight_is}
use Rattle.storage_ops.proofs.storing.weight.Goals as goal

pub returns : goal.returns
returns c = weight_is c.args.size c.requires
