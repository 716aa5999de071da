use Rattle.asm_places.proofs.Adding.{added-next}
use Rattle.asm_places.proofs.sum.worth_of.Goals as goal

pub loop-term-preserved : goal.loop-term-preserved
loop-term-preserved c =
    let small = rw c.atom_sum-one.ensures.sum at c.atom_sum-one.ensures.small in
    let before = rw c.in-Some.ensures at c.loop-term.invariant in
    rw (c.with_term-sum.ensures, c.atom_sum-one.ensures.sum) (added-next _ _ c.args.expression c.next.new.self c.in-Some.term c.loop-term.sum small before)
