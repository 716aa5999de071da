use Rattle.std.proofs.Common.{ap, ◌∙◌}
use Rattle.branch_unit.specs.Masks.{merged}
use Rattle.branch_unit.proofs.Merging.{fields_of_is}
use Rattle.branch_unit.proofs.fields.fields_of.Goals as goal

pub returns : goal.returns
returns c = c.merge.ensures ∙ ap (λ m. merged m c.args.cr 0) c.fields_mask.ensures ∙ fields_of_is c.args.fxm c.args.cr
