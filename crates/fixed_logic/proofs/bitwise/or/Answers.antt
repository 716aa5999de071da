use Rattle.std.proofs.Common.{rules}
use Rattle.fixed_logic.proofs.BitLemmas.{or_is}
use Rattle.fixed_logic.proofs.bitwise.or.Goals as goal

pub returns : goal.returns
returns c = or_is c.args.a c.args.b (search rules) (search rules)
