use Rattle.std.proofs.Common.{refl, arith, ap, ◌∙◌, ◌≡◌, ◌/◌, ◌%◌}
use Rattle.branch_unit.specs.Masks.{fields_mask}
use Rattle.branch_unit.proofs.Merging.{fields_mask_is}
use Rattle.branch_unit.proofs.masks.fields_mask.Goals as goal

pub returns : goal.returns
returns c =
    let v : c.from-bits.result ≡ c.args.fxm = omega (arith, c.from-bits.ensures) in
    let last : c.from-bits.result % 2 ≡ c.from-bits.result / 1 % 2 = omega arith in
    fields_mask_is c.from-bits.result _ _ _ _ _ _ _ _ refl refl refl refl refl refl refl last ∙ ap fields_mask v
