use Rattle.std.proofs.Common.{◌≡◌, ◌<◌, ℕ, length, take, slice_index}
use Rattle.report_text.specs.ConsoleText.{console_bytes}
use Rattle.report_text.proofs.consoles.count_bytes.Given as goal

abbrev pub invariant-loop-k : goal.invariant-loop-k
invariant-loop-k l = (slot : ℕ) → slot < 256 → slice_index l.counts slot ≡ length (console_bytes slot (take l.k l.journal.rows.devices))
