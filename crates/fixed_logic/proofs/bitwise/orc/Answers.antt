use Rattle.std.proofs.Common.{rules}
use Rattle.fixed_logic.proofs.BitLemmas.{orc_is}
use Rattle.fixed_logic.proofs.bitwise.orc.Goals as goal

pub returns : goal.returns
returns c = orc_is c.args.a c.args.b (search rules) (search rules)
