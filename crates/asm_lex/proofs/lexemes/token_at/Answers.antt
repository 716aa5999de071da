use Rattle.std.proofs.Common.{sym, ap, ◌∙◌, Ok}
use Rattle.asm_lex.proofs.TokenAt.{other_of, sign_found, newline_found, nothing_found}
use Rattle.asm_lex.proofs.lexemes.token_at.Goals as goal

pub returns-then-is_sign_byte : goal.returns-then-is_sign_byte
returns-then-is_sign_byte c =
    let other = other_of c.args.bytes.now (sym c.is_digit.ensures ∙ c.if-is_digit.false) (sym c.begins_word.ensures ∙ c.if-begins_word.false) (sym c.is_quote.ensures ∙ c.if-is_quote.false) in
    sym (sign_found c.args.place c.args.bytes.now c.requires.some other (sym c.is_sign_byte.ensures ∙ c.if-is_sign_byte.true) ∙ ap Ok (sym c.token.ensures))

pub returns-then-is_newline_byte : goal.returns-then-is_newline_byte
returns-then-is_newline_byte c =
    let other = other_of c.args.bytes.now (sym c.is_digit.ensures ∙ c.if-is_digit.false) (sym c.begins_word.ensures ∙ c.if-begins_word.false) (sym c.is_quote.ensures ∙ c.if-is_quote.false) in
    sym (newline_found c.args.place c.args.bytes.now c.requires.some other (sym c.is_sign_byte.ensures ∙ c.if-is_sign_byte.false) (sym c.is_newline_byte.ensures ∙ c.if-is_newline_byte.true) ∙ ap Ok (sym c.token-then-is_newline_byte.ensures))

pub returns : goal.returns
returns c =
    let other = other_of c.args.bytes.now (sym c.is_digit.ensures ∙ c.if-is_digit.false) (sym c.begins_word.ensures ∙ c.if-begins_word.false) (sym c.is_quote.ensures ∙ c.if-is_quote.false) in
    sym (nothing_found c.args.place c.args.bytes.now c.requires.some other (sym c.is_sign_byte.ensures ∙ c.if-is_sign_byte.false) (sym c.is_newline_byte.ensures ∙ c.if-is_newline_byte.false))
