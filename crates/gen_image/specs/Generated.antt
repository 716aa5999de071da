-- A generated image: a hypervisor with two guests that it runs in turn.
use Rattle.std.specs.Prelude.{◌≡◌, ℕ, ◌+◌, ◌-◌, ◌≤◌, List, [], ◌∷◌, ◌++◌, length, replicate, Result, Ok, Err}
use Rattle.elf_image.specs.declared.image.Image.{Image}
use Rattle.elf_image.specs.Parts.{SegmentParts, ImageParts, image_parts}
use Rattle.gen_image.specs.declared.fault.GenFault.{GenFault}
use Rattle.gen_image.specs.declared.fault.GenFault.TheVariants.{SizeLimit, Memory}
use Rattle.gen_image.specs.Draws.{first_draws, second_draws}
use Rattle.gen_image.specs.Code.{handler, beginning, guest_code, code_bytes}
use Rattle.gen_image.specs.Tables.{table_bytes, base, partition_table, partition_tree, process_tables}

-- a segment that is no longer than its bytes
abbrev pub segment : ℕ → List ℕ → SegmentParts
segment at bytes = record { at = at; size = length bytes; bytes = bytes }

-- bytes with zeros behind them, so many in all
abbrev pub padded : ℕ → List ℕ → List ℕ
padded size bytes = bytes ++ replicate (size - length bytes) 0

-- a guest's pages 0 to 5: its tables, and behind them its code
abbrev pub guest_pages : List ℕ → List ℕ
guest_pages draws = table_bytes process_tables ++ padded 0x1000 (code_bytes (guest_code draws))

-- the segments of a guest: the tree through which its addresses are translated, and its first pages
abbrev pub guest_segments : ℕ → List ℕ → List SegmentParts
guest_segments guest draws = segment (base guest) (table_bytes (partition_tree guest)) ∷ segment (base guest + 0x10000) (guest_pages draws) ∷ []

-- the segments of an image, by the draws of its guests
abbrev pub segments : List ℕ → List ℕ → List SegmentParts
segments first second =
    segment 0xC00 (code_bytes handler) ∷
    segment 0x10000 (code_bytes beginning) ∷
    segment 0x20000 (table_bytes partition_table) ∷
    guest_segments 1 first ++ guest_segments 2 second

-- the image of a seed and a size, which is how many draws each guest has
abbrev pub generated : ℕ → ℕ → ImageParts
generated seed size = record { entry = 0x10000; segments = segments (first_draws seed size) (second_draws seed size) }

-- a size that is allowed
abbrev pub IsSize : ℕ → Type 0
IsSize size = (1 ≤ size) × (size ≤ 64)

-- What generating an image answers: the image, or that the size is none that is allowed. That memory ran out says nothing more.
abbrev pub Generates : ℕ → ℕ → Result Image GenFault → Type 0
Generates seed size (Ok image) = IsSize size × (image_parts image ≡ generated seed size)
Generates seed size (Err SizeLimit) = IsSize size → ⊥
Generates seed size (Err Memory) = IsSize size
