use Rattle.std.proofs.Common.{◌≡◌, ◌≤◌, take}
use Rattle.outer_io.specs.Outside.{added}
use Rattle.line_text.specs.Text.{text_of}
use Rattle.report_text.specs.ThreadText.{thread_texts}
use Rattle.report_text.proofs.report.put_threads.Given as goal

abbrev pub invariant-loop-number : goal.invariant-loop-number
invariant-loop-number g l =
    (g.K.Sink.told l.out ≡ added (g.K.Sink.told l.fn.out) (text_of (take l.number (thread_texts 0 l.threads))))
    × (g.K.Sink.faults l.fn.out ≤ g.K.Sink.faults l.out)
