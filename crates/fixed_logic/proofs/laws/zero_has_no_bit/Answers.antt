use Rattle.std.proofs.Common.{refl}
use Rattle.fixed_logic.specs.Parts.{sum_below}
use Rattle.fixed_logic.specs.Counts.{zeros_first}
use Rattle.fixed_logic.proofs.laws.zero_has_no_bit.Goals as goal

pub returns-clause-before : goal.returns-clause-before
unfolding zeros_first
returns-clause-before c = refl

pub returns-clause-after : goal.returns-clause-after
unfolding zeros_first
returns-clause-after c = refl

pub returns-clause-ones : goal.returns-clause-ones
unfolding sum_below
returns-clause-ones c = refl
