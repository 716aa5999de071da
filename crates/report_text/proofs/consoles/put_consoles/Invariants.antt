use Rattle.std.proofs.Common.{◌≡◌, ◌≤◌, take}
use Rattle.outer_io.specs.Outside.{added}
use Rattle.line_text.specs.Text.{text_of}
use Rattle.report_text.specs.ConsoleText.{console_lines}
use Rattle.report_text.proofs.consoles.put_consoles.Given as goal

abbrev pub invariant-loop-slot : goal.invariant-loop-slot
invariant-loop-slot g l =
    (g.K.Sink.told l.out ≡ added (g.K.Sink.told l.fn.out) (text_of (take l.slot (console_lines l.journal.rows.devices))))
    × (g.K.Sink.faults l.fn.out ≤ g.K.Sink.faults l.out)
