use Rattle.std.proofs.Common.{◌≡◌, take, map}
use Rattle.elf_image.specs.Parts.{segment_parts}
use Rattle.elf_image.specs.Grammar.{segments_of}
use Rattle.elf_image.proofs.read.load_segments.Given as goal

abbrev pub invariant-loop-load : goal.invariant-loop-load
invariant-loop-load l = map segment_parts l.segments.items ≡ segments_of l.file (take l.load-index l.loads)
