use Rattle.std.proofs.Common.{◌≡◌, ◌<◌, ℕ, length}
use Rattle.std.specs.Prelude.{slice_index}
use Rattle.report_text.proofs.walk_row_tests.numbers_below.Given as goal

abbrev pub invariant-loop-k : goal.invariant-loop-k
invariant-loop-k l = (length l.numbers ≡ 36) × ((i : ℕ) → i < l.k → slice_index l.numbers i ≡ i)
