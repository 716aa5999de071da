-- What the bytes of an ELF file mean: an image, or the first fault in the order of the tests.
use Rattle.std.specs.Prelude.{ℕ, zero, suc, ◌+◌, ◌*◌, ◌%◌, ◌^◌, Bool, not, ◌&&◌, ◌||◌, ◌==◌, nat_lt, nat_le, if◌then◌else◌, List, [], ◌∷◌, ◌++◌, length, take, drop, map, slice_index, Option, Some, None, Result, Ok, Err}
use Rattle.std.specs.List.{filter, position_from}
use Rattle.elf_image.specs.declared.file_header.FileHeader.{FileHeader}
use Rattle.elf_image.specs.declared.load.Load.{Load}
use Rattle.elf_image.specs.declared.fault.ElfFault.{ElfFault}
use Rattle.elf_image.specs.declared.fault.ElfFault.TheVariants as faults
use Rattle.elf_image.specs.Fields.{half_at, word_at, xword_at}
use Rattle.elf_image.specs.Parts.{SegmentParts, ImageParts}
use Rattle.elf_image.specs.Ranges.{end_of, meets}

-- a test, the fault of a file that fails it, and what a file means that passes it
abbrev pub checked : {A : Type 0} → Bool → ElfFault → Result A ElfFault → Result A ElfFault
checked good fault next = if good then next else Err fault

-- the table of so many headers of 56 bytes from an offset on lies within a file
abbrev pub table_lies_in : ℕ → ℕ → ℕ → Bool
table_lies_in len offset count = nat_le (offset + 56 * count) len

-- the header of a file: where the program starts, and where how many headers of segments stand. The magic number is 7F 45 4C 46.
abbrev pub header_of : List ℕ → Result FileHeader ElfFault
header_of bytes =
    checked (nat_le 64 (length bytes)) faults.Short
    (checked (word_at bytes 0 == 1179403647) faults.Magic
    (checked (slice_index bytes 4 == 2) faults.Class
    (checked (slice_index bytes 5 == 1) faults.Order
    (checked (half_at bytes 18 == 21) faults.Machine
    (checked (word_at bytes 48 % 4 == 0 || word_at bytes 48 % 4 == 2) faults.Abi
    (checked (half_at bytes 16 == 2 || half_at bytes 16 == 3) faults.FileType
    (checked (half_at bytes 54 == 56 && not (half_at bytes 56 == 0) && table_lies_in (length bytes) (xword_at bytes 32) (half_at bytes 56)) faults.Header
    (checked (nat_le (half_at bytes 56) 64) faults.TooMany
    (Ok (record { entry = xword_at bytes 24; table = xword_at bytes 32; count = half_at bytes 56 }))))))))))

-- what a header of a segment asks to load: one of type 1 the bytes of the file from an offset on, at its physical address,
-- and one of another type nothing
abbrev pub load_of : List ℕ → Load
load_of header =
    if word_at header 0 == 1 then
    (record { offset = xword_at header 8; filesz = xword_at header 32; range = record { at = xword_at header 24; size = xword_at header 40 } })
    else (record { offset = 0; filesz = 0; range = record { at = 0; size = 0 } })

-- what so many headers from a place of the file on ask to load
abbrev pub loads_from : List ℕ → ℕ → ℕ → List Load
loads_from bytes place zero = []
loads_from bytes place (suc count) = load_of (drop place bytes) ∷ loads_from bytes (place + 56) count

-- what is loaded of a file of so many bytes has no more bytes there than in memory, its bytes, if it has any, lie within the
-- file, and its addresses are below 2 ^ 64
abbrev pub is_good : ℕ → Load → Bool
is_good len load =
    nat_le load.filesz load.range.size
    && (load.filesz == 0 || nat_le (load.offset + load.filesz) len)
    && nat_le (end_of load.range) (2 ^ 64)

abbrev pub is_bad : ℕ → Load → Bool
is_bad len load = not (is_good len load)

-- the ranges of two loads meet
abbrev pub meets_load : Load → Load → Bool
meets_load one earlier = meets earlier.range one.range

abbrev pub numbered : Option ℕ → ℕ → Option (ℕ × ℕ) → Option (ℕ × ℕ)
numbered None j next = next
numbered (Some i) j next = Some (i, j)

-- of loads that come after some others, the first that meets one before it: the number of the first that it meets, and its own
abbrev pub overlap_from : List Load → List Load → Option (ℕ × ℕ)
overlap_from before [] = None
overlap_from before (load ∷ rest) =
    numbered (position_from (meets_load load) 0 before) (length before) (overlap_from (before ++ load ∷ []) rest)

abbrev pub fault_by : Option ℕ → Option (ℕ × ℕ) → Option ElfFault
fault_by (Some number) pair = Some (faults.Segment number)
fault_by None (Some pair) = Some (faults.Overlap pair.0 pair.1)
fault_by None None = None

-- the first fault of the loads of a file of so many bytes: the first that is not good, and else the first two that meet
unfoldable pub fault_of : ℕ → List Load → Option ElfFault
fault_of len loads = fault_by (position_from (is_bad len) 0 loads) (overlap_from [] loads)

-- the segment of a load, which begins with bytes of the file
abbrev pub segment_of : List ℕ → Load → SegmentParts
segment_of bytes load = record { at = load.range.at; size = load.range.size; bytes = take load.filesz (drop load.offset bytes) }

abbrev pub has_size : Load → Bool
has_size load = nat_lt 0 load.range.size

-- the segments of the loads that have a size, in order
abbrev pub segments_of : List ℕ → List Load → List SegmentParts
segments_of bytes loads = map (segment_of bytes) (filter has_size loads)

abbrev pub unless_fault : {A : Type 0} → Option ElfFault → A → Result A ElfFault
unless_fault None x = Ok x
unless_fault (Some fault) x = Err fault

abbrev pub image_with : List ℕ → ℕ → List Load → Result ImageParts ElfFault
image_with bytes entry loads =
    unless_fault (fault_of (length bytes) loads) (record { entry = entry; segments = segments_of bytes loads })

abbrev pub image_after : List ℕ → Result FileHeader ElfFault → Result ImageParts ElfFault
image_after bytes (Ok header) = image_with bytes header.entry (loads_from bytes header.table header.count)
image_after bytes (Err fault) = Err fault

-- the image of a file, or its first fault
unfoldable pub image_of : List ℕ → Result ImageParts ElfFault
image_of bytes = image_after bytes (header_of bytes)
