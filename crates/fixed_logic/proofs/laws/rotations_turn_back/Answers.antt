use Rattle.std.proofs.Common.{rules}
use Rattle.fixed_logic.proofs.LawLemmas.{turns_back}
use Rattle.fixed_logic.proofs.laws.rotations_turn_back.Goals as goal

pub returns : goal.returns
returns c = turns_back c.args.value c.args.by (search rules) (search rules)
