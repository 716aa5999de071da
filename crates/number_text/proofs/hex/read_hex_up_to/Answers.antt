use Rattle.std.proofs.Common.{◌+◌, ◌*◌, ◌<◌, get_or, drop, sym, ap, arith, ◌∙◌}
use Rattle.std.specs.Prelude.{option_and_then}
use Rattle.std.proofs.lemmas.List.{at_drop_more}
use Rattle.number_text.specs.Number.{up_to}
use Rattle.number_text.specs.Hex.{is_hex_digit, hex_digit, hex_from}
use Rattle.number_text.proofs.HexNumbers.{hex_by_test, hex_from-above}
use Rattle.number_text.proofs.hex.read_hex_up_to.Goals as goal

pub returns-then-next-from-clause-number : goal.returns-then-next-from-clause-number
returns-then-next-from-clause-number c =
    let i = c.loop-byte.byte-index in
    let byte = get_or c.args.bytes.now i 0 in
    let rest = drop (i + 1) c.args.bytes.now in
    let next = 16 * c.loop-byte.number + hex_digit byte in
    let above : c.args.greatest < next = omega arith in
    sym (ap (option_and_then (up_to c.args.greatest)) (sym c.loop-byte.invariant.0 ∙ at_drop_more (hex_from c.loop-byte.number) c.args.bytes.now i 0 c.loop-byte-test.true) ∙ hex_by_test (is_hex_digit byte) c.args.greatest rest next (hex_from-above next c.args.greatest rest above))
