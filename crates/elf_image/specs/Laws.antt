-- What follows from the definitions.
use Rattle.std.specs.Prelude.{◌≡◌, ◌≢◌, ◌⊎◌, ◌<◌, ◌≤◌, ℕ, ◌+◌, ◌*◌, ◌^◌, false, List, [], ◌∷◌, length, map, nat_lt, Some, None, slice_get}
use Rattle.std.specs.List.{AllByRecursion, AllPairs, Contains, filter}
use Rattle.elf_image.specs.declared.address_range.AddressRange.{AddressRange}
use Rattle.elf_image.specs.declared.span.Span.{Span}
use Rattle.elf_image.specs.declared.segment.Segment.{Segment}
use Rattle.elf_image.specs.declared.guests.Guest.{Guest}
use Rattle.elf_image.specs.declared.image.Image.{Image}
use Rattle.elf_image.specs.declared.fault.ElfFault.{ElfFault}
use Rattle.elf_image.specs.declared.fault.ElfFault.TheVariants as faults
use Rattle.elf_image.specs.Ranges.{meets, segment_range, guest_range, ranges_of}
use Rattle.elf_image.specs.Places.{span_of, ram_range, bad_place_of}
use Rattle.elf_image.specs.Written.{written, bytes_of}
use Rattle.elf_image.specs.IsImage.{IsImage, IsImageFault}

-- no two of some ranges have a common address
abbrev pub AreApart : List AddressRange → Type 0
AreApart ranges = AllPairs (λ a b. meets a b ≡ false) ranges

-- all that is loaded lies in RAM of so many MiB, and no two ranges of it meet
pub record LieInRam (image : Image) (guests : List Guest) (ram_mib : ℕ) : Type 0 where
  pub segments_lie : (i : ℕ) (s : Segment) → slice_get image.segments i ≡ Some s → 0 < s.size → s.at + s.size ≤ ram_mib * 1048576
  pub guests_lie : (i : ℕ) (g : Guest) → slice_get guests i ≡ Some g → 0 < length g.bytes → g.at + length g.bytes ≤ ram_mib * 1048576
  pub apart : AreApart (ranges_of image.segments guests)

-- where no place is bad, all that is loaded lies in RAM
abbrev pub PlacesLieInRam : Type 0
PlacesLieInRam =
    (image : Image) (guests : List Guest) (ram_mib : ℕ) →
    bad_place_of image guests ram_mib ≡ None → LieInRam image guests ram_mib

-- a file has at most one image or one fault
abbrev pub OneImage : Type 0
OneImage = (bytes : List ℕ) (i j : Image) → IsImage bytes i → IsImage bytes j → i ≡ j

abbrev pub OneFault : Type 0
OneFault =
    (bytes : List ℕ) (f g : ElfFault) → f ≢ faults.Memory → g ≢ faults.Memory →
    IsImageFault bytes f → IsImageFault bytes g → f ≡ g

abbrev pub ImageOrFault : Type 0
ImageOrFault =
    (bytes : List ℕ) (i : Image) (f : ElfFault) → f ≢ faults.Memory →
    IsImage bytes i → IsImageFault bytes f → ⊥

-- an image of 1 to 64 segments, no two of which meet, and whose numbers and whose file's length have 64 bits
pub record IsWritable (image : Image) : Type 0 where
  pub some : 1 ≤ length image.segments
  pub few : length image.segments ≤ 64
  pub apart : AreApart (map segment_range image.segments)
  pub entry_fits : image.entry < 2 ^ 64
  pub ranges_fit : AllByRecursion (λ s. (s.at < 2 ^ 64) × (s.size < 2 ^ 64)) image.segments
  pub file_fits : length (written image) < 2 ^ 64

-- an image without its empty segments
abbrev pub without_empty : Image → Image
without_empty image = record { entry = image.entry; segments = filter (λ s. nat_lt 0 s.size) image.segments }

-- the file of an image is read back as the image without its empty segments
abbrev pub WrittenReadsBack : Type 0
WrittenReadsBack = (image : Image) → IsWritable image → IsImage (written image) (without_empty image)

-- the file of an image has 64 bytes, 56 for each segment, and the bytes of the segments
abbrev pub WrittenLength : Type 0
WrittenLength = (image : Image) → length (written image) ≡ 64 + 56 * length image.segments + length (bytes_of image.segments)

abbrev pub WrittenLengthOfTwelve : Type 0
WrittenLengthOfTwelve =
    (image : Image) (s : Segment) → image.segments ≡ s ∷ [] → length s.bytes ≡ 12 → length (written image) ≡ 132

-- no two segments of a file's image meet
abbrev pub ReadSegmentsAreApart : Type 0
ReadSegmentsAreApart = (bytes : List ℕ) (image : Image) → IsImage bytes image → AreApart (map segment_range image.segments)

-- where a place is bad beside a file's image, a range leaves RAM or is that of a guest
abbrev pub BadPlaceNamesRamOrGuest : Type 0
BadPlaceNamesRamOrGuest =
    (bytes : List ℕ) (image : Image) (guests : List Guest) (ram_mib : ℕ) (a b : Span) → IsImage bytes image →
    bad_place_of image guests ram_mib ≡ Some (a, b) →
    (b ≡ span_of (ram_range ram_mib)) ⊎ Contains (map (λ g. span_of (guest_range g)) guests) a
