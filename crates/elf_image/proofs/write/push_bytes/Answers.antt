use Rattle.std.proofs.Common.{append_assoc}
use Rattle.elf_image.proofs.WriteLemmas.{bytes_of-more}
use Rattle.elf_image.proofs.write.push_bytes.Goals as goal

pub loop-segment-preserved : goal.loop-segment-preserved
loop-segment-preserved c =
    rw (c.in_ok-extend_from_slice.ensures.items, c.loop-segment.invariant, c.as_slice.ensures, bytes_of-more c.args.segments.now c.loop-segment.segment-index c.segment-item.result c.loop-segment-test.true c.segment-item.is)
    (append_assoc c.args.out.now.items _ _)
