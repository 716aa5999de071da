use Rattle.std.proofs.Common.{get_or, ap, sym, subst, ◌∙◌, arith, refl, to_z, of_z}
use Rattle.std.proofs.lemmas.Int.{to_z-of_z}
use mir.Syntax.{w128}
use Rattle.std.proofs.lemmas.List.{drop_more}
use Rattle.operand_texts.specs.declared.kinds.OperandText.TheVariants as texts
use Rattle.operand_texts.specs.declared.fields.Field.TheVariants as fields
use Rattle.asm_contents.specs.Adding.{AddsValues}
use Rattle.asm_contents.specs.Values as said
use Rattle.asm_contents.proofs.Joined.{added-next, added-none, added-all, drop-at}
use Rattle.asm_contents.proofs.values.all_values.Goals as goal

pub returns-then-i-given : goal.returns-then-i-given
returns-then-i-given c =
    added-all _ _ _ c.args.texts.now c.args.given.now c.loop-i.i c.loop-i.values (omega arith) c.loop-i.invariant
    ∙ ap (λ here. said.all_values c.args.names.now here c.args.absolute c.args.texts.now c.args.given.now) (to_z-of_z w128 c.args.here c.ranges.here)

pub returns-in_err-add_operand : goal.returns-in_err-add_operand
returns-in_err-add_operand c =
    let here = to_z w128 (of_z w128 c.args.here) in
    let text = get_or c.args.texts.now c.loop-i.i (texts.Register fields.Rt) in
    let values = said.operand_values c.args.names.now here c.args.absolute text c.index-given-i.result in
    c.from_residual.ensures
    ∙ sym (added-none c.args.names.now here c.args.absolute c.args.texts.now c.args.given.now c.loop-i.i text c.index-given-i.result c.loop-i.values c.add_operand.new.values
    (drop_more c.args.texts.now c.loop-i.i (texts.Register fields.Rt) (omega arith)) (drop-at c.args.given.now c.loop-i.i c.index-given-i.result (omega arith) c.index-given-i.is) values refl
    (subst (AddsValues values c.loop-i.values c.add_operand.new.values) c.in_err-add_operand.was c.add_operand.ensures) c.loop-i.invariant)
    ∙ ap (λ h. said.all_values c.args.names.now h c.args.absolute c.args.texts.now c.args.given.now) (to_z-of_z w128 c.args.here c.ranges.here)

pub loop-i-preserved : goal.loop-i-preserved
loop-i-preserved c =
    let here = to_z w128 (of_z w128 c.args.here) in
    let text = get_or c.args.texts.now c.loop-i.i (texts.Register fields.Rt) in
    let values = said.operand_values c.args.names.now here c.args.absolute text c.index-given-i.result in
    added-next c.args.names.now here c.args.absolute c.args.texts.now c.args.given.now c.loop-i.i text c.index-given-i.result c.loop-i.values c.add_operand.new.values
    (drop_more c.args.texts.now c.loop-i.i (texts.Register fields.Rt) (omega arith)) (drop-at c.args.given.now c.loop-i.i c.index-given-i.result (omega arith) c.index-given-i.is) values refl
    (subst (AddsValues values c.loop-i.values c.add_operand.new.values) c.in_ok-add_operand.was c.add_operand.ensures) c.loop-i.invariant
