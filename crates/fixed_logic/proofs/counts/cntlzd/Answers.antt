use Rattle.std.proofs.Common.{rules, ◌∙◌}
use Rattle.fixed_logic.proofs.CountLemmas.{leading_of_is}
use Rattle.fixed_logic.proofs.counts.cntlzd.Goals as goal

pub returns : goal.returns
returns c = c.from.ensures ∙ leading_of_is 64 c.args.s (search rules)
