use Rattle.std.proofs.Common.{sym, ap, ◌∙◌, Ok, arith}
use Rattle.asm_lex.proofs.TokenAt.{text_found, text_missing, past_quote}
use Rattle.asm_lex.proofs.lexemes.text_at.Goals as goal
use Rattle.asm_lex.proofs.lexemes.text_at.Goals.{else-end-bytes-via-then-end-bytes+else-is_quote, else-end-bytes-via-else-end-bytes}

pub returns-then-is_quote : goal.returns-then-is_quote
returns-then-is_quote c =
    sym (text_found c.args.place c.run-count.result c.args.bytes.now c.requires.quote c.run-count.ensures.run c.if-end-bytes.true (sym c.is_quote.ensures ∙ c.if-is_quote.true) ∙ ap Ok (sym c.token.ensures))

pub returns : goal.returns
returns c =
    elim c.else-end-bytes.branch [
      | else-end-bytes-via-then-end-bytes+else-is_quote w ↦
          sym (text_missing c.args.place c.run-count.result c.args.bytes.now c.requires.quote c.run-count.ensures.run (sym w.is_quote.ensures ∙ w.if-is_quote.false))
      | else-end-bytes-via-else-end-bytes w ↦
          sym (text_missing c.args.place c.run-count.result c.args.bytes.now c.requires.quote c.run-count.ensures.run (past_quote c.args.bytes.now _ (omega arith)))
    ]
