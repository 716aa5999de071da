-- Images by their plain parts, which a file fixes.
use Rattle.std.specs.Prelude.{ℕ, List, map}
use Rattle.elf_image.specs.declared.segment.Segment.{Segment}
use Rattle.elf_image.specs.declared.image.Image.{Image}

-- a segment: where it lies, how many bytes it has in memory, and those that it begins with
pub record SegmentParts : Type 0 where
  pub at : ℕ
  pub size : ℕ
  pub bytes : List ℕ

-- an image: where the program starts, and its segments
pub record ImageParts : Type 0 where
  pub entry : ℕ
  pub segments : List SegmentParts

abbrev pub segment_parts : Segment → SegmentParts
segment_parts s = record { at = s.at; size = s.size; bytes = s.bytes }

abbrev pub image_parts : Image → ImageParts
image_parts image = record { entry = image.entry; segments = map segment_parts image.segments }
