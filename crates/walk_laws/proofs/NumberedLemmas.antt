-- The rows of a walk's numbered items are its readings.
use Rattle.std.proofs.Common.{◌≡◌, ℕ, ◌+◌, List, [], ◌∷◌, ◌++◌, map, Option, Some, None, ap, refl}
use Rattle.std.specs.Prelude.{slice_get, option_to_list}
use Rattle.journal_core.specs.declared.rows.ReadRow.{ReadRow}
use Rattle.journal_core.specs.declared.walks.TrailItem.{TrailItem}
use Rattle.journal_core.specs.declared.walks.TrailItem.TheVariants.{Old, New}
use Rattle.journal_core.specs.Resumed.{readings}
use Rattle.journal_core.specs.Fills.{NumberedItem, as_old, number_items}

abbrev pub rows_in : List NumberedItem → List ReadRow
rows_in items = map (λ (x : NumberedItem). x.row) items

old_row : (i : ℕ) (o : Option ReadRow) (items : List NumberedItem) (rest : List ReadRow) → rows_in items ≡ rest → rows_in (map (as_old i) (option_to_list o) ++ items) ≡ option_to_list o ++ rest
old_row i None items rest e = e
old_row i (Some r) items rest e = ap (λ (xs : List ReadRow). r ∷ xs) e

pub numbered_rows : (reads : List ReadRow) (first : ℕ) (items : List TrailItem) → rows_in (number_items reads first items) ≡ readings reads items
numbered_rows reads first [] = refl
numbered_rows reads first (Old i ∷ items) = old_row i (slice_get reads i) (number_items reads first items) (readings reads items) (numbered_rows reads first items)
numbered_rows reads first (New r ∷ items) = ap (λ (xs : List ReadRow). r ∷ xs) (numbered_rows reads (first + 1) items)
