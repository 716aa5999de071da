-- For tests alone: a journal with what two walks left, one of thread 0 and one of thread 1, and what gives one of its fills.
use Rattle.std.specs.Prelude.{◌≡◌, ℕ, List, [], ◌∷◌, ◌++◌, Bool, Option, Some, None, slice_get, if◌then◌else◌, ◌==◌, ◌&&◌, nat_lt}
use Rattle.journal_core.specs.declared.rows.Role.TheVariants.{Pate, PartDir as PartDirRole, PartLeaf}
use Rattle.journal_core.specs.declared.rows.ReadRow.{ReadRow}
use Rattle.journal_core.specs.declared.rows.FillRow.{FillRow}
use Rattle.journal_core.specs.declared.rows.KeyKind.{KeyKind}
use Rattle.journal_core.specs.declared.rows.KeyKind.TheVariants.{Translation, GuestPage, ProcessDir, PartDir}
use Rattle.journal_core.specs.Rows.{JournalView, no_rows}
use Rattle.journal_core.specs.Fills.{fill_of, is_same_key}
use Rattle.journal_core.specs.Standing.{key_of}
use Rattle.journal_core.specs.WalkPlaces.{row_of}
use Rattle.journal_core.specs.Translating.{IsKeptDirectory, IsKeptPage}

-- the readings of a load of 5000 by partition 1, whose tree has 52 bits and tables of 13, 9, 9 and 9 bits
abbrev pub deep_reads : List ReadRow
deep_reads =
    row_of Pate 1 0 0x5000 0 52 0x2_0010 0xc000_0000_0040_00ad 0
    ∷ row_of PartDirRole 1 0 0x5000 1 39 0x40_0000 0x8000_0000_0041_0009 0
    ∷ row_of PartDirRole 1 0 0x5000 2 30 0x41_0000 0x8000_0000_0041_1009 0
    ∷ row_of PartDirRole 1 0 0x5000 3 21 0x41_1000 0x8000_0000_0041_2009 0
    ∷ row_of PartLeaf 1 0 0x5000 4 12 0x41_2028 0xc000_0000_0050_5187 0
    ∷ []

-- those of a load of 405000 by partition 2, whose tree has 31 bits and a page of 2 MiB at its first level
abbrev pub large_reads : List ReadRow
large_reads = row_of Pate 2 0 0x40_5000 0 31 0x2_0020 0x8000_0000_0080_000a 0 ∷ row_of PartLeaf 2 0 0x40_5000 1 21 0x80_0010 0xc000_0000_0060_0187 0 ∷ []

-- what the first left: a directory of each level, and a guest page
abbrev pub deep_fills : List FillRow
deep_fills =
    fill_of 0 0 (key_of PartDir 1 0 52 0x5000) 0 (0 ∷ [])
    ∷ fill_of 0 0 (key_of PartDir 1 0 39 0x5000) 1 (0 ∷ 1 ∷ [])
    ∷ fill_of 0 0 (key_of PartDir 1 0 30 0x5000) 2 (0 ∷ 1 ∷ 2 ∷ [])
    ∷ fill_of 0 0 (key_of PartDir 1 0 21 0x5000) 3 (0 ∷ 1 ∷ 2 ∷ 3 ∷ [])
    ∷ fill_of 0 0 (key_of GuestPage 1 0 12 0x5000) 4 (0 ∷ 1 ∷ 2 ∷ 3 ∷ 4 ∷ [])
    ∷ []

-- and what the second left: its root, and a guest page of 4 KiB of the 2 MiB
abbrev pub large_fills : List FillRow
large_fills = fill_of 1 0 (key_of PartDir 2 0 31 0x40_5000) 0 (5 ∷ []) ∷ fill_of 1 0 (key_of GuestPage 2 0 12 0x40_5000) 1 (5 ∷ 6 ∷ []) ∷ []

abbrev pub given : JournalView
given = record { reserved = 1; floor = 0; rows = record no_rows { reads = deep_reads ++ large_reads; fills = deep_fills ++ large_fills } }

-- a fill is a directory of a partition's tree for a thread and an address
abbrev pub is_directory : FillRow → ℕ → ℕ → ℕ → ℕ → Bool
is_directory f t lpid pid sought = nat_lt f.key.left 64 && (f.thread == t && is_same_key f.key (key_of PartDir lpid pid f.key.left sought))

-- or the guest page of a guest real address
abbrev pub is_page : FillRow → ℕ → ℕ → ℕ → Bool
is_page f t lpid gra = f.thread == t && is_same_key f.key (key_of GuestPage lpid 0 12 gra)

abbrev pub if_there : Option FillRow → (FillRow → Bool) → ℕ → Option ℕ
if_there None test n = None
if_there (Some f) test n = if test f then Some n else None

-- what gives one fill gives it where it is one for the address
abbrev pub given_directory : ℕ → JournalView → ℕ → KeyKind → ℕ → ℕ → ℕ → Option ℕ
given_directory n j t PartDir lpid pid sought = if_there (slice_get j.rows.fills n) (λ f. is_directory f t lpid pid sought) n
given_directory n j t ProcessDir lpid pid sought = None
given_directory n j t GuestPage lpid pid sought = None
given_directory n j t Translation lpid pid sought = None

abbrev pub given_page : ℕ → JournalView → ℕ → ℕ → ℕ → Option ℕ
given_page n j t lpid gra = if_there (slice_get j.rows.fills n) (λ f. is_page f t lpid gra) n

-- what it gives is kept
pub record GivesKept (n : ℕ) (j : JournalView) (t ptcr : ℕ) : Type 0 where
  pub directories : (kind : KeyKind) (lpid pid sought i : ℕ) → given_directory n j t kind lpid pid sought ≡ Some i → IsKeptDirectory j t ptcr kind lpid pid sought i
  pub pages : (lpid gra i : ℕ) → given_page n j t lpid gra ≡ Some i → IsKeptPage j t ptcr lpid gra i
