use Rattle.std.proofs.Common.{rules}
use Rattle.fixed_logic.proofs.ShiftLemmas.{left_whole}
use Rattle.fixed_logic.proofs.shifts.shift_left.Goals as goal

pub returns-else-n-lt64 : goal.returns-else-n-lt64
returns-else-n-lt64 c = left_whole c.args.s c.args.n (search rules)
