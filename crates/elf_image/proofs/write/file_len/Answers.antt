use Rattle.std.proofs.Common.{arith}
use Rattle.elf_image.proofs.WriteLemmas.{length-bytes_of-more}
use Rattle.elf_image.proofs.write.file_len.Goals as goal

pub loop-segment-preserved : goal.loop-segment-preserved
loop-segment-preserved c =
    let more = length-bytes_of-more c.args.segments.now c.loop-segment.segment-index c.segment-item.result c.loop-segment-test.true c.segment-item.is in
    let so_far = c.loop-segment.invariant in
    let sum = c.in_ok-len.ensures in
    let one = c.len.ensures in
    omega (arith, more, so_far, sum, one)
