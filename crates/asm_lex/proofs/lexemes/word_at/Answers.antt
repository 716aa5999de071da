use Rattle.std.proofs.Common.{sym, ap, ◌∙◌, Ok, arith}
use Rattle.asm_lex.proofs.WordAt.{long_word, short_word}
use Rattle.asm_lex.proofs.lexemes.word_at.Goals as goal

pub returns-then-count-gt-NAME_MAX : goal.returns-then-count-gt-NAME_MAX
returns-then-count-gt-NAME_MAX c =
    sym (long_word c.args.place c.dots_before-dots.result c.run-count.result c.args.bytes.now c.requires.word c.dots_before-dots.ensures.dots c.run-count.ensures.run (omega arith))

pub returns : goal.returns
returns c =
    sym (short_word c.args.place c.dots_before-dots.result c.run-count.result c.dots_before.result c.args.bytes.now c.requires.word c.dots_before-dots.ensures.dots c.run-count.ensures.run (omega arith) c.dots_before.ensures.dots ∙ ap Ok (sym c.token.ensures))
