use Rattle.std.proofs.Common.{◌∙◌}
use Rattle.fixed_logic.proofs.CountLemmas.{trailing_of_is}
use Rattle.fixed_logic.proofs.counts.cnttzd.Goals as goal

pub returns : goal.returns
returns c = c.from.ensures ∙ trailing_of_is 64 c.args.s
