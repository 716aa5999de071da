use Rattle.std.proofs.Common.{◌≡◌, length}
use Rattle.report_text.proofs.walk_row_tests.after_seventeen_steps.Given as goal

abbrev pub invariant-loop-k : goal.invariant-loop-k
invariant-loop-k l = (l.journal.reserved ≡ 18) × (length l.journal.rows.steps ≡ l.k) × (length l.journal.rows.reads ≡ 0) × (length l.journal.rows.fills ≡ 0)
