use Rattle.std.proofs.Common.{rules}
use Rattle.fixed_logic.proofs.BitLemmas.{nor_is}
use Rattle.fixed_logic.proofs.bitwise.nor.Goals as goal

pub returns : goal.returns
returns c = nor_is c.args.a c.args.b (search rules) (search rules)
