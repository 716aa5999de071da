use Rattle.std.proofs.Common.{rules}
use Rattle.fixed_logic.proofs.BitLemmas.{nand_is}
use Rattle.fixed_logic.proofs.bitwise.nand.Goals as goal

pub returns : goal.returns
returns c = nand_is c.args.a c.args.b (search rules)
