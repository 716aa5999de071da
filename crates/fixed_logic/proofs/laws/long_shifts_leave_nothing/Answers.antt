use Rattle.std.proofs.Common.{rules, sym}
use Rattle.fixed_logic.proofs.ShiftLemmas.{left_whole, right_whole}
use Rattle.fixed_logic.proofs.laws.long_shifts_leave_nothing.Goals as goal

pub returns-clause-left : goal.returns-clause-left
returns-clause-left c = sym (left_whole c.args.value c.args.n (search rules))

pub returns-clause-right : goal.returns-clause-right
returns-clause-right c = sym (right_whole c.args.value c.args.n (search rules) (search rules))
