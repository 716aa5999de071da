use Rattle.std.proofs.Common.{rules}
use Rattle.fixed_logic.proofs.BitLemmas.{eqv_is}
use Rattle.fixed_logic.proofs.bitwise.eqv.Goals as goal

pub returns : goal.returns
returns c = eqv_is c.args.a c.args.b (search rules) (search rules)
