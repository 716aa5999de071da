use Rattle.std.proofs.Common.{◌≡◌, ◌+◌, ◌*◌, length, take}
use Rattle.elf_image.specs.Written.{bytes_of}
use Rattle.elf_image.proofs.write.file_len.Given as goal

abbrev pub invariant-loop-segment : goal.invariant-loop-segment
invariant-loop-segment l = l.len ≡ 64 + 56 * length l.segments + length (bytes_of (take l.segment-index l.segments))
