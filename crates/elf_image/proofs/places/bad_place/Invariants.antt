use Rattle.std.proofs.Common.{◌≡◌, take, drop, []}
use Rattle.elf_image.specs.Ranges.{ranges_of}
use Rattle.elf_image.specs.Places.{bad_pair}
use Rattle.elf_image.proofs.places.bad_place.Given as goal

abbrev pub invariant-loop-number : goal.invariant-loop-number
invariant-loop-number l = bad_pair l.ram (take l.number (ranges_of l.segments l.guests)) (drop l.number (ranges_of l.segments l.guests)) ≡ bad_pair l.ram [] (ranges_of l.segments l.guests)
