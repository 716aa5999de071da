use Rattle.std.proofs.Common.{◌-◌, ◌≡◌, ◌≤◌, take}
use Rattle.outer_io.specs.Outside.{added}
use Rattle.report_text.specs.ConsoleText.{console_bytes, escaped}
use Rattle.report_text.proofs.consoles.put_bytes.Given as goal

abbrev pub invariant-loop-from : goal.invariant-loop-from
invariant-loop-from g l =
    (g.K.Sink.told l.out ≡ added (g.K.Sink.told l.fn.out) (escaped (console_bytes l.slot (take l.from l.journal.rows.devices))))
    × (g.K.Sink.faults l.fn.out ≤ g.K.Sink.faults l.out)
    × (l.from ≤ l.count)

abbrev pub decreases-loop-from : goal.decreases-loop-from
decreases-loop-from g l = l.count - l.from
