use Rattle.std.proofs.Common.{ap, ◌∙◌, ◌%◌, ◌^◌}
use Rattle.std.specs.Int.Count.{count_trailing_zeros}
use Rattle.fixed_logic.proofs.CountLemmas.{trailing_of_is}
use Rattle.fixed_logic.proofs.counts.cnttzw.Goals as goal

pub returns : goal.returns
returns c = c.from.ensures ∙ ap (count_trailing_zeros 32) c.low_word.ensures ∙ trailing_of_is 32 (c.args.s % 2 ^ 32)
