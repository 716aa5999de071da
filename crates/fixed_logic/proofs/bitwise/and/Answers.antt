use Rattle.std.proofs.Common.{rules}
use Rattle.fixed_logic.proofs.BitLemmas.{and_is}
use Rattle.fixed_logic.proofs.bitwise.and.Goals as goal

pub returns : goal.returns
returns c = and_is c.args.a c.args.b (search rules)
