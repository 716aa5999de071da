use Rattle.std.proofs.Common.{◌≡◌, take, drop, []}
use Rattle.elf_image.specs.Grammar.{overlap_from}
use Rattle.elf_image.proofs.table.overlap.Given as goal

abbrev pub invariant-loop-j : goal.invariant-loop-j
invariant-loop-j l = overlap_from (take l.j l.loads) (drop l.j l.loads) ≡ overlap_from [] l.loads
