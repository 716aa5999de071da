use Rattle.std.proofs.Common.{refl, arith, ap, ◌∙◌, ◌≡◌, ◌<◌}
use Rattle.branch_unit.specs.Masks.{repeated_field}
use Rattle.branch_unit.proofs.Merging.{repeated_field_is}
use Rattle.branch_unit.proofs.masks.repeated_field.Goals as goal

pub returns : goal.returns
returns c =
    let v : c.from.result ≡ c.args.field = omega (arith, c.from.ensures) in
    let few : c.from.result < 16 = omega (arith, c.from.ensures, c.requires) in
    repeated_field_is c.from.result _ _ _ _ refl refl refl refl (omega arith) ∙ ap repeated_field v
