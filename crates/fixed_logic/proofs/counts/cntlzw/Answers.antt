use Rattle.std.proofs.Common.{ap, ◌∙◌, arith, ◌%◌, ◌^◌}
use Rattle.std.specs.Int.Count.{count_leading_zeros}
use Rattle.fixed_logic.proofs.CountLemmas.{leading_of_is}
use Rattle.fixed_logic.proofs.counts.cntlzw.Goals as goal

pub returns : goal.returns
returns c = c.from.ensures ∙ ap (count_leading_zeros 32) c.low_word.ensures ∙ leading_of_is 32 (c.args.s % 2 ^ 32) (omega arith)
