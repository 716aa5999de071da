use Rattle.std.proofs.Common.{◌≡◌, length}
use Rattle.report_text.proofs.row_tests.no_piece_has_bytes_of_two_lines.Given as goal

abbrev pub invariant-loop-k : goal.invariant-loop-k
invariant-loop-k g l = (l.journal.reserved ≡ 250) × (length l.journal.rows.steps ≡ 0) × (length l.journal.rows.devices ≡ l.k)
