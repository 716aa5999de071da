use Rattle.std.proofs.Common.{◌≡◌, map, drop}
use Rattle.elf_image.specs.Parts.{segment_parts}
use Rattle.ppc_asm.specs.Images.{has_bytes}
use Rattle.ppc_asm.proofs.image.has_bytes.Given as goal

-- no segment so far has a byte
abbrev pub invariant-loop-segment : goal.invariant-loop-segment
invariant-loop-segment l = has_bytes (map segment_parts l.segments) ≡ has_bytes (map segment_parts (drop l.segment-index l.segments))
