-- What an access of a guest may reach: the pages that its partition's tree gives it, and no other storage (Power ISA, Book III,
-- nested radix tree translation).
use Rattle.std.specs.Prelude.{◌≡◌, ◌==◌, ◌≤◌, ◌*◌, ◌^◌, ℕ, Bool, true, not, List, Contains}
use Rattle.std.specs.List.{AllByRecursion}
use Rattle.journal_core.specs.declared.rows.Role.TheVariants.{PartLeaf}
use Rattle.journal_core.specs.declared.rows.ReadRow.{ReadRow}
use Rattle.journal_core.specs.declared.asks.AccessKind.{AccessKind}
use Rattle.journal_core.specs.declared.asks.AccessKind.TheVariants.{Fetch, Load, Store}
use Rattle.journal_core.specs.declared.asks.Ask.{Ask}
use Rattle.journal_core.specs.declared.asks.Place.{Place}
use Rattle.journal_core.specs.declared.asks.Place.TheVariants.{Real, GuestReal, Space, Segment}
use Rattle.journal_core.specs.Asks.{bits, is_one}
use Rattle.journal_core.specs.Places.{place_of}
use Rattle.journal_core.specs.PartitionWalk.{SameOver}
use Rattle.journal_core.specs.Covers.{is_process_role}

-- a leaf gives the right that an access uses: to load bit 61 or 62, to store bit 62, to fetch bit 63
abbrev pub gives : AccessKind → ℕ → Bool
gives Load leaf = not (bits leaf 61 62 == 0)
gives Store leaf = is_one leaf 62
gives Fetch leaf = is_one leaf 63

-- A reading is a leaf of this partition's tree that permits this access to this byte: it gives the right, its page is marked as
-- referenced (R = 1), and the byte lies in the page.
pub record IsLeafFor (lpid : ℕ) (access : AccessKind) (byte : ℕ) (r : ReadRow) : Type 0 where
  pub leaf : r.role ≡ PartLeaf
  pub same_lpid : r.lpid ≡ lpid
  pub right : gives access r.value ≡ true
  pub referenced : is_one r.value 55 ≡ true
  pub holds : SameOver r.left byte (bits r.value 7 51 * 2 ^ 12)

-- each byte from an address on, up to the end of its 4 KiB, is permitted by a leaf among these readings
abbrev pub AreGiven : ℕ → AccessKind → List ReadRow → ℕ → Type 0
AreGiven lpid access rs at = (byte : ℕ) → at ≤ byte → SameOver 12 byte at → (leaf : ReadRow) × Contains rs leaf × IsLeafFor lpid access byte leaf

-- An access reaches what the partition gives: the bytes at the real address (`reached`), and to load from them those of each
-- reading of a process's tables (`tables`).
pub record IsGiven (lpid : ℕ) (access : AccessKind) (rs : List ReadRow) (real : ℕ) : Type 0 where
  pub reached : AreGiven lpid access rs real
  pub tables : AllByRecursion (λ (r : ReadRow). is_process_role r.role ≡ true → AreGiven lpid Load rs r.at) rs

-- an access at a place of a partition other than 0, or at a guest real address, reaches what the partition gives
abbrev pub IsConfinedAt : Place → AccessKind → List ReadRow → ℕ → Type 0
IsConfinedAt (Real a) access rs real = Unit {0}
IsConfinedAt (GuestReal lpid a) access rs real = IsGiven lpid access rs real
IsConfinedAt (Space lpid pid a) access rs real = (lpid ≡ 0 → ⊥) → IsGiven lpid access rs real
IsConfinedAt Segment access rs real = Unit {0}

-- an ask that these readings lead to this real address is confined
abbrev pub IsConfined : Ask → List ReadRow → ℕ → Type 0
IsConfined ask rs real = IsConfinedAt (place_of ask) ask.access rs real
