use Rattle.std.proofs.Common.{rules}
use Rattle.fixed_logic.proofs.BitLemmas.{insert_is}
use Rattle.fixed_logic.proofs.rotates.insert.Goals as goal

pub returns : goal.returns
returns c = insert_is c.args.r c.args.m c.args.old (search rules) (search rules) (search rules)
