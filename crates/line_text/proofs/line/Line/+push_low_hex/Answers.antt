use Rattle.std.proofs.Common.{sym, append_assoc, arith}
use Rattle.std.proofs.lemmas.List.{append-nil}
use Rattle.line_text.proofs.Digits.{hex-none, hex-more, hex_four, append_four}
use Rattle.line_text.proofs.line.Line.+push_low_hex.Goals as goal

pub returns-then-width-ge4-clause-text : goal.returns-then-width-ge4-clause-text
returns-then-width-ge4-clause-text t c =
    rw (c.push_digit-then-width-ge4-3.ensures.text, c.push_digit-then-width-ge4-2.ensures.text, c.push_digit-then-width-ge4.ensures.text, c.push_digit.ensures.text, c.push_low_hex.ensures.text, hex_four c.args.width c.args.value c.if-width-ge4.true)
    (append_four c.args.self.now _ _ _ _ _)

pub returns-then-width-gt0-clause-text : goal.returns-then-width-gt0-clause-text
returns-then-width-gt0-clause-text t c = rw (c.push_digit-then-width-gt0.ensures.text, c.push_low_hex-then-width-gt0.ensures.text, hex-more c.args.width c.args.value c.if-width-gt0.true) (append_assoc c.args.self.now _ _)

pub returns-else-width-gt0-clause-text : goal.returns-else-width-gt0-clause-text
returns-else-width-gt0-clause-text t c = rw (hex-none c.args.width c.args.value (omega arith)) (sym (append-nil c.args.self.now))
