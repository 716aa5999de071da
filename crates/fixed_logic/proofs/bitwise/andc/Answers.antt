use Rattle.std.proofs.Common.{rules}
use Rattle.fixed_logic.proofs.BitLemmas.{andc_is}
use Rattle.fixed_logic.proofs.bitwise.andc.Goals as goal

pub returns : goal.returns
returns c = andc_is c.args.a c.args.b (search rules) (search rules)
