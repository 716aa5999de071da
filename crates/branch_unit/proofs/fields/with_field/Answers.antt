use Rattle.std.proofs.Common.{ap, ◌∙◌}
use Rattle.branch_unit.specs.Masks.{merged, field_mask}
use Rattle.branch_unit.proofs.Merging.{with_field_is}
use Rattle.branch_unit.proofs.fields.with_field.Goals as goal

pub returns : goal.returns
returns c =
    c.merge.ensures ∙ ap (λ m. merged m c.repeated_field.result c.args.cr) c.field_mask.ensures
    ∙ ap (λ n. merged (field_mask c.args.bf) n c.args.cr) c.repeated_field.ensures
    ∙ with_field_is c.args.cr c.args.bf c.args.field
