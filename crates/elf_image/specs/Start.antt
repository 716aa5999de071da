-- RAM as a machine starts with it.
use Rattle.std.specs.Prelude.{ℕ, ◌*◌, List, [], ◌∷◌, replicate}
use Rattle.journal_core.specs.Bytes.{placed}
use Rattle.elf_image.specs.declared.segment.Segment.{Segment}
use Rattle.elf_image.specs.declared.image.Image.{Image}
use Rattle.elf_image.specs.declared.guests.Guest.{Guest}

-- storage with the bytes of some segments placed in it, in order
abbrev pub loaded : List ℕ → List Segment → List ℕ
loaded ram [] = ram
loaded ram (s ∷ ss) = loaded (placed ram s.at s.bytes) ss

-- storage with some guests placed in it, in order
abbrev pub with_guests : List ℕ → List Guest → List ℕ
with_guests ram [] = ram
with_guests ram (g ∷ gs) = with_guests (placed ram g.at g.bytes) gs

-- RAM of so many MiB: zeros, in which the segments of an image are placed, and then guests
unfoldable pub start_ram : Image → List Guest → ℕ → List ℕ
start_ram image guests ram_mib = with_guests (loaded (replicate (ram_mib * 1048576) 0) image.segments) guests
