-- An image as a file: its header, the headers of its segments, and the bytes of its segments.
use Rattle.std.specs.Prelude.{◌≡◌, ◌<◌, ◌≤◌, ℕ, ◌+◌, ◌*◌, List, [], ◌∷◌, ◌++◌, length, Result, Ok, Err}
use Rattle.elf_image.specs.declared.segment.Segment.{Segment}
use Rattle.elf_image.specs.declared.image.Image.{Image}
use Rattle.elf_image.specs.declared.fault.WriteElfFault.{WriteElfFault}
use Rattle.elf_image.specs.declared.fault.WriteElfFault.TheVariants as faults
use Rattle.elf_image.specs.Header.{header, program_header}

-- the headers of segments whose bytes stand from an offset on, one after another
abbrev pub program_headers : ℕ → List Segment → List ℕ
program_headers offset [] = []
program_headers offset (s ∷ rest) =
    program_header offset s.at (length s.bytes) s.size ++ program_headers (offset + length s.bytes) rest

-- the bytes of segments, one after another
abbrev pub bytes_of : List Segment → List ℕ
bytes_of [] = []
bytes_of (s ∷ rest) = s.bytes ++ bytes_of rest

-- the file of an image
unfoldable pub written : Image → List ℕ
written image =
    header image.entry (length image.segments)
    ++ program_headers (64 + 56 * length image.segments) image.segments
    ++ bytes_of image.segments

-- what writing an image says: of 1 to 64 segments its file or want of memory, of none and of more segments a fault
abbrev pub Writes : Image → Result (List ℕ) WriteElfFault → Type 0
Writes image (Ok bytes) = (1 ≤ length image.segments) × (length image.segments ≤ 64) × (bytes ≡ written image)
Writes image (Err faults.NoSegments) = length image.segments ≡ 0
Writes image (Err faults.TooMany) = 64 < length image.segments
Writes image (Err faults.Memory) = (1 ≤ length image.segments) × (length image.segments ≤ 64)
