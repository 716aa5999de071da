use Rattle.std.proofs.Common.{rules}
use Rattle.fixed_logic.proofs.BitLemmas.{xor_is}
use Rattle.fixed_logic.proofs.bitwise.xor.Goals as goal

pub returns : goal.returns
returns c = xor_is c.args.a c.args.b (search rules) (search rules)
