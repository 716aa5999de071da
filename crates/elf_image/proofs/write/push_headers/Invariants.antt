use Rattle.std.proofs.Common.{◌≡◌, ◌+◌, ◌*◌, ◌++◌, length, take}
use Rattle.elf_image.specs.Written.{program_headers, bytes_of}
use Rattle.elf_image.proofs.write.push_headers.Given as goal

abbrev pub invariant-loop-segment : goal.invariant-loop-segment
invariant-loop-segment l = record {
  place : l.offset ≡ 64 + 56 * length l.segments + length (bytes_of (take l.segment-index l.segments));
  text : l.out.items ≡ l.initial.out.items ++ program_headers (64 + 56 * length l.segments) (take l.segment-index l.segments);
}
