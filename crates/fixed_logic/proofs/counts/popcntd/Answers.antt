use Rattle.std.proofs.Common.{rules, ◌∙◌}
use Rattle.fixed_logic.proofs.CountLemmas.{ones_of_is}
use Rattle.fixed_logic.proofs.counts.popcntd.Goals as goal

pub returns : goal.returns
returns c = c.from.ensures ∙ ones_of_is 64 c.args.s (search rules)
