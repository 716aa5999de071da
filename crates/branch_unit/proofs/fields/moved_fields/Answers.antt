use Rattle.std.proofs.Common.{ap, ◌∙◌}
use Rattle.branch_unit.specs.Masks.{merged, fields_mask}
use Rattle.branch_unit.proofs.Merging.{moved_fields_is}
use Rattle.branch_unit.proofs.fields.moved_fields.Goals as goal

pub returns : goal.returns
returns c =
    c.merge.ensures ∙ ap (λ m. merged m c.low_word.result c.args.cr) c.fields_mask.ensures
    ∙ ap (λ n. merged (fields_mask c.args.fxm) n c.args.cr) c.low_word.ensures
    ∙ moved_fields_is c.args.fxm c.args.rs c.args.cr
