use Rattle.std.proofs.Common.{arith, ap, length}
use Rattle.report_text.proofs.WordLemmas.{length-number}
use Rattle.report_text.proofs.words.push_byte.Goals as goal

pub returns-clause-len : goal.returns-clause-len
returns-clause-len c =
    omega (arith, ap length c.push_decimal.ensures.text, length-number c.args.line.now 3 c.from.result (omega arith) (omega (arith, c.from.ensures)) (omega (arith, c.from.ensures)))
