use Rattle.branch_unit.proofs.Merging.{bit_mask_is}
use Rattle.branch_unit.proofs.masks.bit_mask.Goals as goal

pub returns : goal.returns
returns c = bit_mask_is c.args.n c.requires
