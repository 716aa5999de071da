use Rattle.std.proofs.Common.{◌+◌, sym, subst, arith}
use Rattle.asm_places.specs.FirstPass.{at_place, after_placed}
use Rattle.asm_places.proofs.Within.{IsAlong, room, along-line}
use Rattle.asm_places.proofs.pass.first_pass.Goals as goal

pub place_line-requires : goal.place_line-requires
place_line-requires c =
    room c.args.bytes.now c.loop-rest.rest.now c.loop-rest.number c.line_length-length.result c.loop-rest.places
    (omega arith) c.line_length-length.ensures.within c.loop-rest.invariant.before

pub loop-rest-preserved : goal.loop-rest-preserved
loop-rest-preserved c =
    let x = at_place (c.loop-rest.number + 1) c.in_ok-statement.statement c.place_line.new.places in
    subst (λ p. IsAlong c.args.bytes.now c.behind_line-rest.result.now (c.loop-rest.number + 1) p) (sym c.in_ok-add_optional.ensures)
    (subst (λ rest. IsAlong c.args.bytes.now rest (c.loop-rest.number + 1) (after_placed x)) (sym c.behind_line-rest.ensures)
    (along-line c.args.bytes.now c.loop-rest.rest.now c.loop-rest.number c.line_length-length.result c.loop-rest.places x
    c.line_length-length.ensures.within c.line_length-length.ensures.line c.in_ok-statement.ensures.line c.loop-rest.invariant))
