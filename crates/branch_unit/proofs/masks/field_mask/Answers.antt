use Rattle.branch_unit.proofs.Merging.{field_mask_is}
use Rattle.branch_unit.proofs.masks.field_mask.Goals as goal

pub returns : goal.returns
returns c = field_mask_is c.args.n c.requires
