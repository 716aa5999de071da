-- Which ranges have no place in RAM, or none beside each other.
use Rattle.std.specs.Prelude.{ℕ, ◌-◌, ◌*◌, ◌^◌, min, List, [], ◌∷◌, ◌++◌, Option, Some, None, if◌then◌else◌}
use Rattle.std.specs.List.{find}
use Rattle.elf_image.specs.declared.address_range.AddressRange.{AddressRange}
use Rattle.elf_image.specs.declared.span.Span.{Span}
use Rattle.elf_image.specs.declared.image.Image.{Image}
use Rattle.elf_image.specs.declared.guests.Guest.{Guest}
use Rattle.elf_image.specs.Ranges.{end_of, meets, leaves, ranges_of}

-- what a range has no place beside: RAM where it leaves this, else the first that it meets of some others
abbrev pub rival_of : AddressRange → List AddressRange → AddressRange → Option AddressRange
rival_of ram others a = if leaves a ram then Some ram else find (λ b. meets b a) others

abbrev pub pair_or : AddressRange → Option AddressRange → Option (AddressRange × AddressRange) → Option (AddressRange × AddressRange)
pair_or a None next = next
pair_or a (Some b) next = Some (a, b)

-- of ranges that come after some others, the first that leaves RAM or meets one before it, and what it has no place beside
abbrev pub bad_pair : AddressRange → List AddressRange → List AddressRange → Option (AddressRange × AddressRange)
bad_pair ram before [] = None
bad_pair ram before (a ∷ rest) = pair_or a (rival_of ram before a) (bad_pair ram (before ++ a ∷ []) rest)

-- a range by its first address and the first after it, which is told as the greatest number of 64 bits where it is above this
abbrev pub span_of : AddressRange → Span
span_of a = record { from = a.at; to = min (end_of a) (2 ^ 64 - 1) }

abbrev pub spans_of : Option (AddressRange × AddressRange) → Option (Span × Span)
spans_of None = None
spans_of (Some pair) = Some (span_of pair.0, span_of pair.1)

-- RAM of so many MiB, which begins at address 0
abbrev pub ram_range : ℕ → AddressRange
ram_range ram_mib = record { at = 0; size = ram_mib * 1048576 }

-- of the ranges of an image's segments and then of guests, the first that leaves RAM or meets one before it, beside RAM
-- or that one
unfoldable pub bad_place_of : Image → List Guest → ℕ → Option (Span × Span)
bad_place_of image guests ram_mib = spans_of (bad_pair (ram_range ram_mib) [] (ranges_of image.segments guests))
