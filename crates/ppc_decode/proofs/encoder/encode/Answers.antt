use Rattle.std.proofs.Common.{sym, ◌∙◌}
use Rattle.ppc_decode.specs.Encode.{word_for}
use Rattle.ppc_decode.proofs.Whole.{each_encoded}
use Rattle.ppc_decode.proofs.encoder.encode.Goals as goal

pub returns-clause-word : goal.returns-clause-word
unfolding word_for
returns-clause-word c = c.word.ensures.word

pub returns-clause-again : goal.returns-clause-again
returns-clause-again c = each_encoded c.args.insn.now c.word.result (sym c.is_invalid.ensures ∙ c.if-is_invalid.false) c.word.ensures.fits c.word.ensures.word
