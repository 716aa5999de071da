use Rattle.std.proofs.Common.{◌≡◌, ◌≤◌, take}
use Rattle.outer_io.specs.Outside.{added}
use Rattle.line_text.specs.Text.{text_of}
use Rattle.report_text.specs.Listing.{segment_lines}
use Rattle.report_text.proofs.listing.put_segment.Given as goal

abbrev pub invariant-loop-k : goal.invariant-loop-k
invariant-loop-k g l =
    (g.K.Sink.told l.out ≡ added (g.K.Sink.told l.fn.out) (text_of (take l.k (segment_lines l.segment))))
    × (g.K.Sink.faults l.fn.out ≤ g.K.Sink.faults l.out)
