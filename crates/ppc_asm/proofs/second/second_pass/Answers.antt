use Rattle.std.proofs.Common.{◌≡◌, ◌+◌, [], ◌∙◌, length, drop, eqb-true, sym, subst, arith}
use Rattle.asm_places.specs.FirstPass.{at_place, after_placed}
use Rattle.asm_places.proofs.Within.{room}
use Rattle.ppc_asm.specs.Filling.{HasRoom}
use Rattle.ppc_asm.proofs.Lines.{IsFilled, empty-list, filled-next, filled-end, ends-at, here-at, zeros-at}
use Rattle.ppc_asm.proofs.second.second_pass.Goals as goal

pub place_line-requires : goal.place_line-requires
place_line-requires c =
    room c.args.bytes.now c.loop-rest.rest.now c.loop-rest.number c.line_length-length.result c.loop-rest.places
    (omega arith) c.line_length-length.ensures.within c.loop-rest.invariant.before

pub add_line-requires-clause-here : goal.add_line-requires-clause-here
add_line-requires-clause-here c =
    here-at c.args.bytes.now c.loop-rest.rest.now c.args.whole.now c.loop-rest.places c.loop-rest.number c.line_length-length.result
    (at_place (c.loop-rest.number + 1) c.in_ok-statement.statement c.place_line.new.places) c.loop-rest.filling (omega arith) c.in_ok-statement.ensures.line c.loop-rest.invariant

pub add_line-requires-clause-zeros : goal.add_line-requires-clause-zeros
add_line-requires-clause-zeros c =
    zeros-at c.args.bytes.now c.loop-rest.rest.now c.args.whole.now c.loop-rest.places c.loop-rest.number c.line_length-length.result
    (at_place (c.loop-rest.number + 1) c.in_ok-statement.statement c.place_line.new.places) c.loop-rest.filling c.in_ok-statement.ensures.line c.loop-rest.invariant

pub add_line-requires-clause-ends : goal.add_line-requires-clause-ends
add_line-requires-clause-ends c =
    ends-at c.args.bytes.now c.loop-rest.rest.now c.args.whole.now c.loop-rest.places c.loop-rest.number c.line_length-length.result
    (at_place (c.loop-rest.number + 1) c.in_ok-statement.statement c.place_line.new.places) c.loop-rest.filling c.in_ok-statement.ensures.line c.loop-rest.invariant

pub loop-rest-preserved : goal.loop-rest-preserved
loop-rest-preserved c =
    let x = at_place (c.loop-rest.number + 1) c.in_ok-statement.statement c.place_line.new.places in
    let added = c.in_ok-add_line.ensures in
    let next = filled-next c.args.bytes.now c.loop-rest.rest.now c.args.whole.now c.loop-rest.places c.loop-rest.number c.line_length-length.result x c.loop-rest.filling
    c.line_length-length.ensures.within c.line_length-length.ensures.line c.in_ok-statement.ensures.line added.0 c.loop-rest.invariant in
    subst (λ p. IsFilled c.args.bytes.now c.behind_line-rest.result.now c.args.whole.now p (c.loop-rest.number + 1) c.add_line.new.filling) (sym c.in_ok-add_optional.ensures)
    (subst (λ rest. IsFilled c.args.bytes.now rest c.args.whole.now (after_placed x) (c.loop-rest.number + 1) c.add_line.new.filling) (sym c.behind_line-rest.ensures)
    (subst (λ f. IsFilled c.args.bytes.now (drop (c.line_length-length.result + 1) c.loop-rest.rest.now) c.args.whole.now (after_placed x) (c.loop-rest.number + 1) f) (sym added.1) next))

pub returns : goal.returns
returns c =
    let done : c.loop-rest.rest.now ≡ [] = empty-list c.loop-rest.rest.now (eqb-true (length c.loop-rest.rest.now) 0 (sym c.is_empty.ensures ∙ c.loop-rest-test.false)) in
    filled-end c.args.bytes.now c.args.whole.now c.loop-rest.places c.loop-rest.number c.loop-rest.filling
    (subst (λ rest. IsFilled c.args.bytes.now rest c.args.whole.now c.loop-rest.places c.loop-rest.number c.loop-rest.filling) done c.loop-rest.invariant)

pub add_line-requires-clause-below : goal.add_line-requires-clause-below
add_line-requires-clause-below c = subst (λ f. HasRoom 0 f.last) c.filling.view_is c.filling.invariant.ends
