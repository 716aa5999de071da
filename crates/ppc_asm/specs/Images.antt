-- The image that a source means, or its first fault.
use Rattle.std.specs.Prelude.{◌≡◌, ℕ, ◌+◌, List, [], ◌∷◌, ◌++◌, length, Bool, false, not, ◌||◌, ◌==◌, Option, Some, None, option_and_then, Result, Ok, Err, if◌then◌else◌}
use Rattle.elf_image.specs.Parts.{SegmentParts, ImageParts, image_parts}
use Rattle.elf_image.specs.declared.image.Image.{Image}
use Rattle.asm_statements.specs.declared.statement.Statement.{Statement}
use Rattle.asm_statements.specs.declared.statement.Statement.TheVariants as statements
use Rattle.asm_places.specs.Names.{Definition, value_of}
use Rattle.asm_places.specs.Lines.{lines_of}
use Rattle.asm_places.specs.Ranges.{base_of}
use Rattle.asm_places.specs.Places.{no_places, worth, settled_base}
use Rattle.asm_places.specs.FirstPass.{Placed, placed, after_placed, fault_at, first_pass}
use Rattle.asm_places.specs.declared.places.Places.{Places}
use Rattle.asm_places.specs.declared.fault.AsmKind.{AsmKind}
use Rattle.asm_places.specs.declared.fault.AsmKind.TheVariants as kinds
use Rattle.asm_places.specs.declared.fault.AsmFault.{AsmFault}
use Rattle.asm_places.specs.declared.fault.AsmFault.TheVariants as faults
use Rattle.asm_contents.specs.declared.content.Content.{Content}
use Rattle.asm_contents.specs.Contents.{content_bytes, content_of}

abbrev pub and_placed : Result Placed AsmFault → (Placed → List Placed) → List Placed
and_placed (Ok x) next = x ∷ next x
and_placed (Err fault) next = []

-- lines, of which the first has this number, at their places behind others; up to the first that is wrong by itself or by those
-- before it
abbrev pub placed_lines : ℕ → List (List ℕ) → Places → List Placed
placed_lines number [] p = []
placed_lines number (line ∷ lines) p = and_placed (placed number line p) (λ x. placed_lines (number + 1) lines (after_placed x))

abbrev pub bytes_where : Result Content AsmKind → List ℕ
bytes_where (Ok c) = content_bytes c
bytes_where (Err kind) = []

-- the bytes of a line; `whole` are the places behind all lines
abbrev pub line_bytes : Places → Placed → List ℕ
line_bytes whole x = bytes_where (content_of whole x)

abbrev pub begun_by : Option Statement → Places → Option ℕ
begun_by (Some (statements.Seg e)) p = Some (settled_base (worth p e))
begun_by statement p = None

-- the address of the segment that a line begins, where its statement is a .seg
abbrev pub begun_at : Placed → Option ℕ
begun_at x = begun_by x.statement x.at

abbrev pub unless_begun : Option ℕ → List ℕ → List ℕ
unless_begun (Some base) bytes = []
unless_begun None bytes = bytes

-- the bytes of lines up to the first .seg, one after another
abbrev pub front : Places → List Placed → List ℕ
front whole [] = []
front whole (x ∷ xs) = unless_begun (begun_at x) (line_bytes whole x ++ front whole xs)

abbrev pub segment_at : ℕ → List ℕ → SegmentParts
segment_at base bytes = record { at = base; size = length bytes; bytes = bytes }

abbrev pub where_begun : Option ℕ → List ℕ → List SegmentParts → List SegmentParts
where_begun (Some base) bytes ss = segment_at base bytes ∷ ss
where_begun None bytes ss = ss

-- the segments of lines: those of the .seg lines in order, each with the bytes of the lines up to the next one
abbrev pub segments_of : Places → List Placed → List SegmentParts
segments_of whole [] = []
segments_of whole (x ∷ xs) = where_begun (begun_at x) (front whole xs) (segments_of whole xs)

abbrev pub fault_or : ℕ → Result Content AsmKind → Option AsmFault → Option AsmFault
fault_or number (Err kind) later = Some (fault_at number kind)
fault_or number (Ok c) later = later

-- the first line with a fault once all names are known, with the first of its kinds
abbrev pub first_fault : Places → List Placed → Option AsmFault
first_fault whole [] = None
first_fault whole (x ∷ xs) = fault_or x.number (content_of whole x) (first_fault whole xs)

-- the value of the entry's name, where that is an address
abbrev pub entry_in : List Definition → Option (List ℕ) → Option ℕ
entry_in names (Some name) = option_and_then base_of (value_of names name)
entry_in names None = None

-- a segment has a byte
abbrev pub has_bytes : List SegmentParts → Bool
has_bytes [] = false
has_bytes (s ∷ ss) = not (s.size == 0) || has_bytes ss

-- the image with an entry, where there is one, and with these segments, where one has a byte
abbrev pub image_with : Option ℕ → List SegmentParts → Result ImageParts AsmFault
image_with (Some entry) ss = if has_bytes ss then Ok (record { entry = entry; segments = ss }) else Err (fault_at 0 kinds.Empty)
image_with None ss = Err (fault_at 0 kinds.Entry)

abbrev pub unless_fault : Option AsmFault → Places → List SegmentParts → Result ImageParts AsmFault
unless_fault (Some fault) whole ss = Err fault
unless_fault None whole ss = image_with (entry_in whole.names whole.entry) ss

-- the second pass over lines, by the places behind all of them
abbrev pub second_pass : List Placed → Places → Result ImageParts AsmFault
second_pass lines whole = unless_fault (first_fault whole lines) whole (segments_of whole lines)

abbrev pub and_second : Result Places AsmFault → (Places → Result ImageParts AsmFault) → Result ImageParts AsmFault
and_second (Ok whole) second = second whole
and_second (Err fault) second = Err fault

-- the image that a source means, or its first fault: that of the first pass, which goes over all lines, or else of the second
abbrev pub assembled : List ℕ → Result ImageParts AsmFault
assembled source = and_second (first_pass source) (second_pass (placed_lines 1 (lines_of source) no_places))

-- the bytes are a source of the image
abbrev pub IsSource : List ℕ → Image → Type 0
IsSource source image = assembled source ≡ Ok (image_parts image)

-- what a fault says of the bytes: that it is their first; but that memory ran out says nothing of them
abbrev pub IsSourceFault : List ℕ → AsmFault → Type 0
IsSourceFault source faults.Memory = Unit {0}
IsSourceFault source fault = assembled source ≡ Err fault

-- what assembling a source answers
abbrev pub Assembles : List ℕ → Result Image AsmFault → Type 0
Assembles source (Ok image) = IsSource source image
Assembles source (Err fault) = IsSourceFault source fault
