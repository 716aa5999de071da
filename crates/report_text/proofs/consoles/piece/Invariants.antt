use Rattle.std.proofs.Common.{◌≡◌, ◌+◌, ◌*◌, ◌≤◌, ◌++◌, length, take}
use Rattle.report_text.specs.ConsoleText.{console_bytes, escaped}
use Rattle.report_text.proofs.consoles.piece.Given as goal

abbrev pub invariant-loop-k : goal.invariant-loop-k
invariant-loop-k l =
    (escaped (console_bytes l.slot (take l.from l.journal.rows.devices)) ++ l.line ≡ escaped (console_bytes l.slot (take l.k l.journal.rows.devices)))
    × (length l.line + 4 * l.from ≤ 4 * l.k)
