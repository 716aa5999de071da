use Rattle.std.proofs.Common.{◌∙◌, arith}
use Rattle.fixed_logic.specs.Parts.{word_in}
use Rattle.fixed_logic.specs.Counts.{parity_of}
use Rattle.fixed_logic.proofs.PartLemmas.{high_parity, low_parity, two_words}
use Rattle.fixed_logic.proofs.counts.prtyw.Goals as goal

pub returns : goal.returns
returns c = two_words (λ i. parity_of 32 4 (word_in c.args.s i)) c.from.result c.from-2.result (omega (arith, c.from.ensures))
    (c.from.ensures ∙ high_parity c.args.s c.to_be_bytes.result c.to_be_bytes.ensures)
    (c.from-2.ensures ∙ low_parity c.args.s c.to_be_bytes.result c.to_be_bytes.ensures)
