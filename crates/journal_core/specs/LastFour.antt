-- The last four fills of a thread, a kind and a set, and the newest of a key among them.
use Rattle.std.specs.Prelude.{ℕ, ◌+◌, ◌-◌, ◌%◌, List, [], ◌∷◌, length, take, drop, filter, Option, Some, None, Bool, ◌&&◌, ◌==◌}
use Rattle.journal_core.specs.declared.rows.KeyKind.{KeyKind}
use Rattle.journal_core.specs.declared.rows.Key.{Key}
use Rattle.journal_core.specs.declared.rows.FillRow.{FillRow}
use Rattle.journal_core.specs.Turns.{Turn}
use Rattle.journal_core.specs.Standing.{kind_number}
use Rattle.journal_core.specs.Fills.{is_same_key}

-- a fill with its number
pub record FillAt : Type 0 where
  pub number : ℕ
  pub fill : FillRow

abbrev pub fill_at : ℕ → FillRow → FillAt
fill_at i f = record { number = i; fill = f }

-- fills with their numbers, from the first one's on
abbrev pub fills_at : ℕ → List FillRow → List FillAt
fills_at i [] = []
fills_at i (f ∷ fs) = fill_at i f ∷ fills_at (i + 1) fs

-- the fills from the floor on and before number c
abbrev pub fills_before : Turn → ℕ → List FillAt
fills_before v c = fills_at v.floor (drop v.floor (take c v.rows.fills))

-- of this thread, this kind and this one of the sixteen sets
abbrev pub is_in_set : ℕ → KeyKind → ℕ → FillAt → Bool
is_in_set t kind set x = (t == x.fill.thread) && ((kind_number kind == kind_number x.fill.key.kind) && (set == x.fill.key.page % 16))

-- the last four elements of a list, or all if there are fewer
abbrev pub last_four : {A : Type 0} → List A → List A
last_four xs = drop (length xs - 4) xs

-- the last four fills of the turn's thread, of this kind and set
abbrev pub last_fills : Turn → ℕ → KeyKind → ℕ → List FillAt
last_fills v c kind set = last_four (filter (is_in_set v.thread kind set) (fills_before v c))

-- the last element of a list, if there is one
abbrev pub last_in : {A : Type 0} → List A → Option A
last_in [] = None
last_in (x ∷ []) = Some x
last_in (x ∷ (y ∷ more)) = last_in (y ∷ more)

-- the newest of these fills that has this key
abbrev pub newest : Key → List FillAt → Option FillAt
newest key xs = last_in (filter (λ (x : FillAt). is_same_key x.fill.key key) xs)

-- the newest fill of a key among the last four of its kind and set
abbrev pub newest_of_key : Turn → ℕ → Key → Option FillAt
newest_of_key v c key = newest key (last_fills v c key.kind (key.page % 16))
