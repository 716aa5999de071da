-- What a file's header and its loads make of it.
use Rattle.std.proofs.Common.{◌≡◌, ℕ, List, [], length, map, Option, Some, None, Ok, Err, refl, ap, sym, ◌∙◌}
use Rattle.std.specs.List.{position_from}
use Rattle.std.proofs.lemmas.Option.{none-some}
use Rattle.elf_image.specs.declared.load.Load.{Load}
use Rattle.elf_image.specs.declared.file_header.FileHeader.{FileHeader}
use Rattle.elf_image.specs.declared.segment.Segment.{Segment}
use Rattle.elf_image.specs.declared.fault.ElfFault.{ElfFault}
use Rattle.elf_image.specs.declared.fault.ElfFault.TheVariants as faults
use Rattle.elf_image.specs.Parts.{segment_parts}
use Rattle.elf_image.specs.Grammar.{header_of, loads_from, is_bad, overlap_from, fault_by, fault_of, segments_of, unless_fault, image_with, image_after, image_of}
use Rattle.elf_image.specs.IsImage.{IsImage, IsImageFault}

-- the first fault is what a fault says
pub is_fault : (bytes : List ℕ) (fault : ElfFault) → image_of bytes ≡ Err fault → IsImageFault bytes fault
is_fault bytes faults.Short is = is
is_fault bytes faults.Magic is = is
is_fault bytes faults.Class is = is
is_fault bytes faults.Order is = is
is_fault bytes faults.Machine is = is
is_fault bytes faults.Abi is = is
is_fault bytes faults.FileType is = is
is_fault bytes faults.Header is = is
is_fault bytes faults.TooMany is = is
is_fault bytes (faults.Segment i) is = is
is_fault bytes (faults.Overlap i j) is = is
is_fault bytes faults.Memory is = tt

pub header-fails : (bytes : List ℕ) (fault : ElfFault) → Err fault ≡ header_of bytes → IsImageFault bytes fault
unfolding image_of
header-fails bytes fault is = is_fault bytes fault (ap (image_after bytes) (sym is))

-- what a file means whose header is read
pub image-after : (bytes : List ℕ) (header : FileHeader) (loads : List Load) (fault : Option ElfFault) → Ok header ≡ header_of bytes → loads ≡ loads_from bytes header.table header.count → fault ≡ fault_of (length bytes) loads → image_of bytes ≡ unless_fault fault (record { entry = header.entry; segments = segments_of bytes loads })
unfolding image_of
image-after bytes header loads fault is same fails =
    ap (image_after bytes) (sym is) ∙ ap (image_with bytes header.entry) (sym same)
    ∙ ap (λ (f : Option ElfFault). unless_fault f (record { entry = header.entry; segments = segments_of bytes loads })) (sym fails)

pub loads-fail : (bytes : List ℕ) (header : FileHeader) (loads : List Load) (fault : ElfFault) → Ok header ≡ header_of bytes → loads ≡ loads_from bytes header.table header.count → Some fault ≡ fault_of (length bytes) loads → IsImageFault bytes fault
loads-fail bytes header loads fault is same fails = is_fault bytes fault (image-after bytes header loads (Some fault) is same fails)

pub loads-good : (bytes : List ℕ) (header : FileHeader) (loads : List Load) (segments : List Segment) → Ok header ≡ header_of bytes → loads ≡ loads_from bytes header.table header.count → None ≡ fault_of (length bytes) loads → map segment_parts segments ≡ segments_of bytes loads → IsImage bytes (record { entry = header.entry; segments = segments })
loads-good bytes header loads segments is same fails parts = image-after bytes header loads None is same fails ∙ (rw (← parts) refl)

fault_by-none : (number : Option ℕ) (pair : Option (ℕ × ℕ)) → fault_by number pair ≡ None → (number ≡ None) × (pair ≡ None)
fault_by-none (Some number) pair is = absurd (none-some _ (sym is))
fault_by-none None (Some pair) is = absurd (none-some _ (sym is))
fault_by-none None None is = (refl, refl)

-- loads without a fault are good, and no two of them meet
pub no_fault : (len : ℕ) (loads : List Load) → fault_of len loads ≡ None → (position_from (is_bad len) 0 loads ≡ None) × (overlap_from [] loads ≡ None)
unfolding fault_of
no_fault len loads is = fault_by-none (position_from (is_bad len) 0 loads) (overlap_from [] loads) is
