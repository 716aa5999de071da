use Rattle.std.proofs.Common.{◌≡◌, ◌≤◌, take}
use Rattle.outer_io.specs.Outside.{added}
use Rattle.line_text.specs.Text.{text_of}
use Rattle.report_text.proofs.ListingLemmas.{segment_texts}
use Rattle.report_text.proofs.listing.print_listing.Given as goal

abbrev pub invariant-loop-segment : goal.invariant-loop-segment
invariant-loop-segment g l =
    (g.K.Sink.told l.out ≡ added (g.K.Sink.told l.fn.out) (text_of (take l.segment-index (segment_texts l.image.segments))))
    × (g.K.Sink.faults l.fn.out ≤ g.K.Sink.faults l.out)
