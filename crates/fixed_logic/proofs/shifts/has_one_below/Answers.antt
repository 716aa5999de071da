use Rattle.std.proofs.Common.{rules}
use Rattle.fixed_logic.proofs.ShiftLemmas.{low_bits}
use Rattle.fixed_logic.proofs.shifts.has_one_below.Goals as goal

pub returns : goal.returns
returns c = low_bits c.args.bits c.args.n (search rules)
