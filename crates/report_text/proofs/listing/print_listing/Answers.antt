use Rattle.std.proofs.Common.{◌<◌, ◌≤◌, length, ap, arith}
use Rattle.std.proofs.lemmas.Result.{err_from_is_err_and}
use Rattle.line_text.proofs.Parts.{no_parts, puts_part, stops_at_part, all_parts}
use Rattle.report_text.proofs.ListingLemmas.{segment_texts, get-segment_texts, length-segment_texts, listing_texts}
use Rattle.report_text.proofs.listing.print_listing.Goals as goal

pub loop-segment-init : goal.loop-segment-init
loop-segment-init g c = no_parts _ _

pub loop-segment-preserved : goal.loop-segment-preserved
loop-segment-preserved g c =
    let segments = c.args.image.now.segments in
    let k = c.loop-segment.segment-index in
    let inside : k < length segments = omega (arith, ap length c.as_slice-segment-items.ensures) in
    let here = rw c.as_slice-segment-items.ensures at c.segment-item.is in
    puts_part (segment_texts segments) k _ _ _ _ _ _ _ (get-segment_texts segments k c.segment-item.result inside here) c.loop-segment.invariant c.in_ok-put_segment.ensures

pub returns-in_err-put_segment : goal.returns-in_err-put_segment
returns-in_err-put_segment g c =
    let p = err_from_is_err_and c.from_residual.result c.from_residual.ensures.1 in
    let segments = c.args.image.now.segments in
    let k = c.loop-segment.segment-index in
    let inside : k < length segments = omega (arith, ap length c.as_slice-segment-items.ensures) in
    let here = rw c.as_slice-segment-items.ensures at c.segment-item.is in
    rw (p.1, listing_texts c.args.image.now)
    (stops_at_part (segment_texts segments) k _ _ _ _ _ _ _ (get-segment_texts segments k c.segment-item.result inside here) c.loop-segment.invariant c.in_err-put_segment.ensures)

pub returns : goal.returns
returns g c =
    let segments = c.args.image.now.segments in
    let all : length (segment_texts segments) ≤ c.loop-segment.segment-index = omega (arith, length-segment_texts segments, ap length c.as_slice-segment-items.ensures) in
    rw (listing_texts c.args.image.now, ← all_parts (segment_texts segments) c.loop-segment.segment-index all) c.loop-segment.invariant
