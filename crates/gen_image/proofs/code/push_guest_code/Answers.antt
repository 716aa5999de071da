use Rattle.std.proofs.Common.{length, get_or, sym, subst, arith}
use Rattle.gen_image.specs.Forms.{AreForms}
use Rattle.gen_image.proofs.CodeLemmas.{nothing-pushed, visit-pushed, end-pushed}
use Rattle.gen_image.proofs.FormLemmas.{visit-forms, call_and_return-forms}
use Rattle.gen_image.proofs.code.push_guest_code.Goals as goal

pub loop-draw-init : goal.loop-draw-init
loop-draw-init c = nothing-pushed c.args.out.now.items

pub push_code-requires : goal.push_code-requires
push_code-requires c =
    subst AreForms (sym c.visit.ensures) (visit-forms (get_or c.args.draws.now c.loop-draw.draw-index 0) (omega (arith, c.type_inv.draws c.loop-draw.draw-index)))

pub loop-draw-preserved : goal.loop-draw-preserved
loop-draw-preserved c =
    visit-pushed c.args.draws.now c.loop-draw.draw-index c.visit.result c.args.out.now.items c.loop-draw.out.items c.push_code.new.out.items c.loop-draw-test.true c.visit.ensures c.loop-draw.invariant
    c.in_ok-push_code.ensures

pub push_code-requires-2 : goal.push_code-requires-2
push_code-requires-2 c = subst AreForms (sym c.call_and_return.ensures) (call_and_return-forms (length c.args.draws.now) c.requires)

pub returns : goal.returns
returns c =
    end-pushed c.args.draws.now c.loop-draw.draw-index c.call_and_return.result c.args.out.now.items c.loop-draw.out.items c.push_code-2.new.out.items c.loop-draw-test.false c.call_and_return.ensures
    c.loop-draw.invariant c.in_ok-push_code-2.ensures
