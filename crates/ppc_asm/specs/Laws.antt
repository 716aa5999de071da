-- Laws of sources and their images.
use Rattle.std.specs.Prelude.{◌≤◌, ℕ, List, length}
use Rattle.elf_image.specs.declared.image.Image.{Image}
use Rattle.ppc_asm.specs.Images.{IsSource}

-- A source's image has 1 to 64 segments.
abbrev pub SourcesHaveSegments : Type 0
SourcesHaveSegments = (source : List ℕ) (image : Image) → IsSource source image → (1 ≤ length image.segments) × (length image.segments ≤ 64)
