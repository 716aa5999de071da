use Rattle.std.proofs.Common.{◌≡◌, ◌++◌, take}
use Rattle.elf_image.specs.Written.{bytes_of}
use Rattle.elf_image.proofs.write.push_bytes.Given as goal

abbrev pub invariant-loop-segment : goal.invariant-loop-segment
invariant-loop-segment l = l.out.items ≡ l.initial.out.items ++ bytes_of (take l.segment-index l.segments)
