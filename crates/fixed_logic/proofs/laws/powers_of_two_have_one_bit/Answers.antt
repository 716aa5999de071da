use Rattle.std.proofs.Common.{rules}
use Rattle.fixed_logic.proofs.LawLemmas.{before, after, one}
use Rattle.fixed_logic.proofs.laws.powers_of_two_have_one_bit.Goals as goal

pub returns-clause-before : goal.returns-clause-before
returns-clause-before c = before c.args.k (search rules)

pub returns-clause-after : goal.returns-clause-after
returns-clause-after c = after c.args.k (search rules)

pub returns-clause-ones : goal.returns-clause-ones
returns-clause-ones c = one c.args.k (search rules)
