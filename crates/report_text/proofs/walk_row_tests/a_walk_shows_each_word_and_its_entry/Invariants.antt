use Rattle.std.proofs.Common.{◌≡◌, length}
use Rattle.report_text.proofs.walk_row_tests.a_walk_shows_each_word_and_its_entry.Given as goal

abbrev pub invariant-loop-role : goal.invariant-loop-role
invariant-loop-role g l = (l.journal.reserved ≡ 18) × (length l.journal.rows.steps ≡ 17) × (length l.journal.rows.reads ≡ l.role-index) × (length l.journal.rows.fills ≡ 0)
