-- Segments that are being filled.
use Rattle.std.specs.Prelude.{◌≡◌, ◌≤◌, ℕ, ◌+◌, ◌^◌, List, [], ◌∷◌, ◌++◌, map, length, Option, Some, None, option_map, Result, Ok, Err}
use Rattle.elf_image.specs.Parts.{SegmentParts, segment_parts}
use Rattle.asm_places.specs.Lines.{lines_of}
use Rattle.asm_places.specs.Places.{no_places, address_of}
use Rattle.asm_places.specs.FirstPass.{Placed}
use Rattle.asm_places.specs.declared.places.SegmentLine.{SegmentLine}
use Rattle.asm_places.specs.declared.places.Places.{Places}
use Rattle.asm_places.specs.declared.fault.AsmFault.{AsmFault}
use Rattle.asm_places.specs.declared.fault.AsmFault.TheVariants as faults
use Rattle.asm_contents.specs.declared.content.Content.{Content}
use Rattle.asm_contents.specs.Contents.{content_of}
use Rattle.ppc_asm.specs.Images.{placed_lines, line_bytes, begun_at, segment_at, segments_of, first_fault}
use Rattle.ppc_asm.specs.declared.filling.Unfinished.{Unfinished}
use Rattle.ppc_asm.specs.declared.filling.Filling.TheInside.{Inside}

-- a segment with the bytes that it has so far
pub record Part : Type 0 where
  pub base : ℕ
  pub bytes : List ℕ

-- segments that are finished, and the one that is being filled, where there is one
pub record Filled : Type 0 where
  pub finished : List SegmentParts
  pub last : Option Part

abbrev pub part_of : Unfinished → Part
part_of o = record { base = o.base; bytes = o.bytes.items }

abbrev pub filled_of : Inside → Filled
filled_of f = record { finished = map segment_parts f.finished.items; last = option_map part_of f.last }

-- so many more bytes would stand below 2^64
abbrev pub HasRoom : ℕ → Option Part → Type 0
HasRoom size (Some o) = o.base + length o.bytes + size ≤ 2 ^ 64
HasRoom size None = Unit {0}

pub record EndsBelow (f : Inside) : Type 0 where
  pub ends : HasRoom 0 (option_map part_of f.last)

abbrev pub no_segments : Filled
no_segments = record { finished = []; last = None }

abbrev pub with_last : List SegmentParts → Option Part → List SegmentParts
with_last ss (Some o) = ss ++ segment_at o.base o.bytes ∷ []
with_last ss None = ss

-- all segments, the one that is being filled with the bytes that it has
abbrev pub closed : Filled → List SegmentParts
closed f = with_last f.finished f.last

-- the segment that is being filled is finished
abbrev pub with_finished : Filled → Filled
with_finished f = record { finished = closed f; last = None }

-- another segment is begun
abbrev pub with_segment : ℕ → Filled → Filled
with_segment base f = record { finished = closed f; last = Some (record { base = base; bytes = [] }) }

abbrev pub longer : List ℕ → Part → Part
longer bytes o = record { base = o.base; bytes = o.bytes ++ bytes }

-- bytes more
abbrev pub filled : List ℕ → Filled → Filled
filled bytes f = record { finished = f.finished; last = option_map (longer bytes) f.last }

abbrev pub filled_by : Option ℕ → List ℕ → Filled → Filled
filled_by (Some base) bytes f = with_segment base f
filled_by None bytes f = filled bytes f

-- a line more
abbrev pub with_line : Places → Placed → Filled → Filled
with_line whole x f = filled_by (begun_at x) (line_bytes whole x) f

-- the segment that is being filled ends where the last segment of these places does
abbrev pub EndsAlike : List SegmentLine → Option Part → Type 0
EndsAlike ss (Some o) = address_of ss ≡ Some (o.base + length o.bytes)
EndsAlike ss None = ss ≡ []

-- a line that puts something into memory
pub record IsGood (whole : Places) (x : Placed) : Type 0 where
  pub content : Content
  pub is : content_of whole x ≡ Ok content

-- What adding a line answers, and the segments that it leaves.
abbrev pub AddsLine : Places → Placed → Filled → Filled → Result (Unit {0}) AsmFault → Type 0
AddsLine whole x old new (Ok u) = IsGood whole x × (new ≡ with_line whole x old)
AddsLine whole x old new (Err faults.Memory) = Unit {0}
AddsLine whole x old new (Err (faults.At line kind)) = (line ≡ x.number) × (content_of whole x ≡ Err kind)

-- What filling the segments of a source answers.
abbrev pub Fills : List ℕ → Places → Result Filled AsmFault → Type 0
Fills source whole (Ok f) =
    (first_fault whole (placed_lines 1 (lines_of source) no_places) ≡ None) × (closed f ≡ segments_of whole (placed_lines 1 (lines_of source) no_places))
Fills source whole (Err faults.Memory) = Unit {0}
Fills source whole (Err (faults.At line kind)) = first_fault whole (placed_lines 1 (lines_of source) no_places) ≡ Some (faults.At line kind)
