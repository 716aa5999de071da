use Rattle.std.proofs.Common.{◌∙◌, sym, arith}
use Rattle.report_text.proofs.WordLemmas.{numbers_next}
use Rattle.report_text.proofs.walk_lines.push_numbers.Goals as goal

pub loop-number-preserved : goal.loop-number-preserved
loop-number-preserved c =
    let next = numbers_next c.args.line.now c.args.numbers.now c.loop-number.number-index _ c.loop-number-test.true in
    (rw c.loop-number.invariant.0 at c.push_short.ensures.text ∙ sym next, omega (arith, c.push_short.ensures.len, c.loop-number.invariant.1))
