use Rattle.std.proofs.Common.{◌+◌, arith, append_assoc}
use Rattle.elf_image.proofs.WriteLemmas.{length-bytes_of-more, program_headers-more, length-bytes_of-take}
use Rattle.elf_image.proofs.write.push_headers.Goals as goal

pub overflow_add-offset-in-loop-segment : goal.overflow_add-offset-in-loop-segment
overflow_add-offset-in-loop-segment c =
    let segments = c.args.segments.now in
    let i = c.loop-segment.segment-index in
    let more = length-bytes_of-more segments i c.segment-item.result c.loop-segment-test.true c.segment-item.is in
    let within = length-bytes_of-take segments (i + 1) in
    omega (arith, more, within, c.loop-segment.invariant.place, c.len-filesz.ensures, c.requires)

pub loop-segment-preserved : goal.loop-segment-preserved
loop-segment-preserved c =
    let segments = c.args.segments.now in
    let i = c.loop-segment.segment-index in
    let more = length-bytes_of-more segments i c.segment-item.result c.loop-segment-test.true c.segment-item.is in
    record {
      place = omega (arith, more, c.loop-segment.invariant.place, c.len-filesz.ensures);
      text =
          rw (c.in_ok-extend_from_slice.ensures.items, c.loop-segment.invariant.text, c.program_header.ensures, c.loop-segment.invariant.place, c.len-filesz.ensures, program_headers-more segments i c.segment-item.result _ c.loop-segment-test.true c.segment-item.is)
          (append_assoc c.args.out.now.items _ _);
    }
