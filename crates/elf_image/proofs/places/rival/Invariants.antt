use Rattle.std.proofs.Common.{◌≡◌, take, None}
use Rattle.std.specs.List.{find}
use Rattle.elf_image.specs.Ranges.{meets, ranges_of}
use Rattle.elf_image.proofs.places.rival.Given as goal

abbrev pub invariant-loop-i : goal.invariant-loop-i
invariant-loop-i l = find (λ b. meets b l.range) (take l.i (ranges_of l.segments l.guests)) ≡ None
