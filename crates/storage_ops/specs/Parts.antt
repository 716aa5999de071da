-- An access is cut where a page of 4 KiB ends.
use Rattle.std.specs.Prelude.{◌≡◌, ◌≤◌, ℕ, ◌+◌, ◌-◌, ◌%◌, ◌^◌, nat_le, if◌then◌else◌, List, [], ◌∷◌, ◌++◌, length, ◌==◌, Bool, Option, Some, None}
use Rattle.journal_core.specs.Bytes.{piece}
use Rattle.storage_ops.specs.declared.parts.Part.{Part}
use Rattle.storage_ops.specs.declared.parts.Parts.{Parts}

-- so many bytes from an address on
abbrev pub part : ℕ → ℕ → Part
part at size = record { at = at; size = size }

-- how many bytes there are from an address on to the end of its page
abbrev pub left_in_page : ℕ → ℕ
left_in_page at = 4096 - at % 4096

-- the parts of an access of a size at an effective address, which goes on at the next page, and behind the last page at 0
abbrev pub parts_of : ℕ → ℕ → List Part
parts_of at size =
    if nat_le size (left_in_page at) then part at size ∷ []
    else part at (left_in_page at) ∷ part ((at + left_in_page at) % 2 ^ 64) (size - left_in_page at) ∷ []

-- one part or two, in order
abbrev pub listed_second : Option Part → List Part
listed_second None = []
listed_second (Some second) = second ∷ []

abbrev pub listed : Parts → List Part
listed parts = parts.first ∷ listed_second parts.second

-- the access is one part
abbrev pub is_whole : List Part → Bool
is_whole parts = length parts == 1

-- the bytes of storage in some parts, part after part
abbrev pub bytes_in : List ℕ → List Part → List ℕ
bytes_in ram [] = []
bytes_in ram (p ∷ ps) = piece ram p.at p.size ++ bytes_in ram ps

-- how many bytes the parts have
abbrev pub bytes_of_second : Option Part → ℕ
bytes_of_second None = 0
bytes_of_second (Some second) = second.size

-- the parts have so many bytes, and none is empty
abbrev pub IsSome : Option Part → Type 0
IsSome None = Unit {0}
IsSome (Some second) = 1 ≤ second.size

pub record AreParts (size : ℕ) (parts : Parts) : Type 0 where
  pub first : 1 ≤ parts.first.size
  pub second : IsSome parts.second
  pub whole : parts.first.size + bytes_of_second parts.second ≡ size

-- each part lies in so many bytes of storage
abbrev pub AreWithin : ℕ → List Part → Type 0
AreWithin bytes [] = Unit {0}
AreWithin bytes (p ∷ ps) = (p.at + p.size ≤ bytes) × AreWithin bytes ps

-- the parts, where there are some
abbrev pub listed_parts : Option Parts → List Part
listed_parts None = []
listed_parts (Some parts) = listed parts
