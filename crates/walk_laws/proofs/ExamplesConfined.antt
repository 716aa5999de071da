-- What an access of a guest may reach, by computation; each line says which definitions it exercises.
use Rattle.std.proofs.Common.{◌≡◌, ℕ, zero, suc, ◌<◌, List, [], ◌∷◌, length, true, false, arith, refl, sym, subst}
use Rattle.std.specs.Prelude.{Contains, slice_index_or}
use Rattle.std.specs.List.{AllByRecursion}
use Rattle.walk_laws.proofs.ExampleTables.{leaf, leaf_with, ask_of, guest_ask}
use Rattle.walk_laws.proofs.ExamplesChoice.{fetch, reads}
use Rattle.walk_laws.proofs.ExamplesAnswers.{fetch_walks, fetch_right}
use Rattle.walk_laws.proofs.ConfinedLemmas.{walk_confined}
use Rattle.journal_core.specs.Places.{place_of}
use Rattle.journal_core.specs.WalkPlaces.{row_of}
use Rattle.journal_core.specs.PartitionWalk.{SameOver}
use Rattle.journal_core.specs.Confined.{IsLeafFor, AreGiven, IsGiven, IsConfined}
use Rattle.journal_core.specs.declared.rows.ReadRow.{ReadRow}
use Rattle.journal_core.specs.declared.rows.Role.TheVariants.{Prte, PartLeaf}
use Rattle.journal_core.specs.declared.asks.AccessKind.{AccessKind}
use Rattle.journal_core.specs.declared.asks.AccessKind.TheVariants.{Fetch, Load, Store}
use Rattle.journal_core.specs.declared.asks.Ask.{Ask}

-- the readings of a first fetch and its real address (IsConfined)
fetch_confined : IsConfined fetch reads 0x11_5000
fetch_confined = walk_confined fetch reads 0x11_5000 fetch_walks fetch_right

-- where none of the readings is so, none that they contain is
none_at : (P : ReadRow → Type 0) (rs : List ReadRow) → AllByRecursion (λ r. P r → ⊥) rs → (l : ReadRow) (k : ℕ) → k < length rs → slice_index_or rs k l ≡ l → P l → ⊥
none_at P [] none l k below e p = omega (arith, below)
none_at P (r ∷ rs) none l zero below e p = none.0 (subst P (sym e) p)
none_at P (r ∷ rs) none l (suc k) below e p = none_at P rs none.1 l k (omega (arith, below)) e p

-- a byte that no leaf permits is not given (AreGiven)
not_given : (access : AccessKind) (rs : List ReadRow) (at : ℕ) → AllByRecursion (λ r. IsLeafFor 1 access at r → ⊥) rs → AreGiven 1 access rs at → ⊥
not_given access rs at none given =
    (let found : (l : ReadRow) × Contains rs l × IsLeafFor 1 access at l = given at (omega arith) refl in none_at (IsLeafFor 1 access at) rs none found.0 found.1.0 found.1.1 found.1.2 found.2)

-- an access of partition 1 at the guest real address 5014, by one reading of a leaf with this doubleword
abbrev guest : AccessKind → Ask
guest access = guest_ask 0x5014 access

abbrev leaf_read : ℕ → ReadRow
leaf_read v = row_of PartLeaf 1 0 0x5000 2 12 0x10_2028 v 7

guest_given : (access : AccessKind) (rs : List ReadRow) (real : ℕ) → IsConfined (guest access) rs real → IsGiven 1 access rs real
unfolding place_of
guest_given Fetch rs real h = h
guest_given Load rs real h = h
guest_given Store rs real h = h

refused : (access : AccessKind) (v real : ℕ) → (IsLeafFor 1 access real (leaf_read v) → ⊥) → IsConfined (guest access) (leaf_read v ∷ []) real → ⊥
refused access v real none h = not_given access (leaf_read v ∷ []) real (none, tt) (guest_given access (leaf_read v ∷ []) real h).reached

-- the leaf's page is another one (IsLeafFor)
other_page : IsConfined (guest Load) (leaf_read (leaf 0x11_5000) ∷ []) 0x11_6014 → ⊥
other_page = refused Load (leaf 0x11_5000) 0x11_6014 (λ l. apart l.holds)
  where
    apart : SameOver 12 0x11_6014 0x11_5000 → ⊥
    apart e = omega (arith, e)

-- the page is not marked as referenced
unmarked : IsConfined (guest Load) (leaf_read (leaf_with 0x87 0x11_5000) ∷ []) 0x11_5014 → ⊥
unmarked = refused Load (leaf_with 0x87 0x11_5000) 0x11_5014 (λ l. apart l.referenced)
  where
    apart : false ≡ true → ⊥
    apart e = cc

-- the leaf does not give the right: a page that may be executed alone is not loaded from, one that may be read alone is not stored
-- to, and one that may be read and written is not fetched from (gives)
not_loaded : IsConfined (guest Load) (leaf_read (leaf_with 0x181 0x11_5000) ∷ []) 0x11_5014 → ⊥
not_loaded = refused Load (leaf_with 0x181 0x11_5000) 0x11_5014 (λ l. apart l.right)
  where
    apart : false ≡ true → ⊥
    apart e = cc

not_stored : IsConfined (guest Store) (leaf_read (leaf_with 0x184 0x11_5000) ∷ []) 0x11_5014 → ⊥
not_stored = refused Store (leaf_with 0x184 0x11_5000) 0x11_5014 (λ l. apart l.right)
  where
    apart : false ≡ true → ⊥
    apart e = cc

not_fetched : IsConfined (guest Fetch) (leaf_read (leaf_with 0x186 0x11_5000) ∷ []) 0x11_5014 → ⊥
not_fetched = refused Fetch (leaf_with 0x186 0x11_5000) 0x11_5014 (λ l. apart l.right)
  where
    apart : false ≡ true → ⊥
    apart e = cc

-- a process's entry that is read at the guest real address 10 as if it were a real one, where the access itself is permitted
abbrev real_entry : ReadRow
real_entry = row_of Prte 1 1 0x5014 0 31 0x10 0x200a 7

table_at_real_address : IsConfined (ask_of 0x5014 Load) (real_entry ∷ leaf_read (leaf 0x11_5000) ∷ []) 0x11_5014 → ⊥
unfolding place_of
table_at_real_address h = not_given Load (real_entry ∷ leaf_read (leaf 0x11_5000) ∷ []) 0x10 (λ l. no_leaf l.leaf, (λ l. apart l.holds, tt)) ((h (λ e. omega (arith, e))).tables.0 refl)
  where
    no_leaf : Prte ≡ PartLeaf → ⊥
    no_leaf e = cc

    apart : SameOver 12 0x10 0x11_5000 → ⊥
    apart e = omega (arith, e)
