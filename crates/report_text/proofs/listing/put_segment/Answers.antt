use Rattle.std.proofs.Common.{◌<◌, ◌≤◌, ◌/◌, length, ap, arith}
use Rattle.std.proofs.lemmas.Result.{err_from_is_err_and}
use Rattle.line_text.proofs.Parts.{no_parts, puts_part, stops_at_part, all_parts}
use Rattle.report_text.specs.Listing.{segment_lines}
use Rattle.report_text.proofs.ListingLemmas.{get-segment_lines, length-segment_lines}
use Rattle.report_text.proofs.listing.put_segment.Goals as goal

pub loop-k-init : goal.loop-k-init
loop-k-init g c = no_parts _ _

pub loop-k-preserved : goal.loop-k-preserved
loop-k-preserved g c =
    let segment = c.args.segment.now in
    let inside : c.loop-k.k < length segment.bytes / 4 = omega (arith, ap length c.as_slice-bytes.ensures) in
    puts_part (segment_lines segment) c.loop-k.k _ _ _ _ _ _ _ (get-segment_lines segment c.loop-k.k inside) c.loop-k.invariant
    (rw (c.as_slice.ensures, c.fill_line.ensures, c.word_at.ensures, c.as_slice-bytes.ensures) at c.in_ok-put.ensures)

pub returns-in_err-put : goal.returns-in_err-put
returns-in_err-put g c =
    let p = err_from_is_err_and c.from_residual.result c.from_residual.ensures.1 in
    let segment = c.args.segment.now in
    let inside : c.loop-k.k < length segment.bytes / 4 = omega (arith, ap length c.as_slice-bytes.ensures) in
    rw p.1 (stops_at_part (segment_lines segment) c.loop-k.k _ _ _ _ _ _ _ (get-segment_lines segment c.loop-k.k inside) c.loop-k.invariant
    (rw (c.as_slice.ensures, c.fill_line.ensures, c.word_at.ensures, c.as_slice-bytes.ensures) at c.in_err-put.ensures))

pub returns : goal.returns
returns g c =
    let segment = c.args.segment.now in
    let all : length (segment_lines segment) ≤ c.loop-k.k = omega (arith, length-segment_lines segment, ap length c.as_slice-bytes.ensures) in
    rw (← all_parts (segment_lines segment) c.loop-k.k all) c.loop-k.invariant
