use Rattle.std.proofs.Common.{sym, ◌∙◌, arith, refl}
use Rattle.std.proofs.lemmas.Bool.Decides.{nat_tests}
use Rattle.asm_lex.proofs.NumberAt.{hex_found, zero_at, decimal_found}
use Rattle.asm_lex.proofs.lexemes.number_at.Goals as goal

pub returns-then-hex-gt0 : goal.returns-then-hex-gt0
returns-then-hex-gt0 c =
    let length = c.hex_length-hex.ensures.length in
    c.number_token.ensures ∙ sym (hex_found c.args.place c.args.bytes.now (omega arith) ∙ rw (← length, ← c.read_hex_up_to.ensures.number) refl)

pub returns-then-bytes-eq48 : goal.returns-then-bytes-eq48
returns-then-bytes-eq48 c =
    c.number_token-then-bytes-eq48.ensures ∙ sym (zero_at c.args.place c.args.bytes.now (omega arith) c.if-bytes-eq48.true)

pub returns : goal.returns
returns c =
    c.number_token-2.ensures ∙ sym (decimal_found c.args.place c.args.bytes.now c.requires.digit (grind (arith, nat_tests)) ∙ rw (← c.run-count.ensures.run, ← c.read_number.ensures.number) refl)
