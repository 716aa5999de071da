use Rattle.std.proofs.Common.{rules}
use Rattle.fixed_logic.proofs.CountLemmas.{ones_of_is}
use Rattle.fixed_logic.proofs.counts.ones.Goals as goal

pub returns : goal.returns
returns c = ones_of_is 8 c.args.byte (search rules)
