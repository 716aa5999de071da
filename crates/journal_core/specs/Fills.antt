-- The rows that a finished walk adds.
use Rattle.std.specs.Prelude.{ℕ, ◌+◌, ◌<◌, List, [], ◌∷◌, ◌++◌, length, replicate, Option, Some, None, Bool, true, false, ◌&&◌, ◌||◌, ◌==◌, if◌then◌else◌, take, map, slice_get, option_to_list}
use Rattle.journal_core.specs.declared.rows.ReadRow.{ReadRow}
use Rattle.journal_core.specs.declared.rows.KeyKind.{KeyKind}
use Rattle.journal_core.specs.declared.rows.KeyKind.TheVariants as kinds
use Rattle.journal_core.specs.declared.rows.Key.{Key}
use Rattle.journal_core.specs.declared.rows.FillRow.{FillRow}
use Rattle.journal_core.specs.declared.asks.Ask.{Ask}
use Rattle.journal_core.specs.declared.asks.Place.{Place}
use Rattle.journal_core.specs.declared.asks.Place.TheVariants.{Real, GuestReal, Space, Segment}
use Rattle.journal_core.specs.declared.walks.TrailItem.{TrailItem}
use Rattle.journal_core.specs.declared.walks.TrailItem.TheVariants.{Old, New}
use Rattle.journal_core.specs.declared.walks.Goal.{Goal}
use Rattle.journal_core.specs.declared.walks.Goal.TheVariants.{ForEntry, ForTable, ForResult, ForGuest}
use Rattle.journal_core.specs.declared.walks.Stage.{Stage}
use Rattle.journal_core.specs.declared.walks.Stage.TheVariants.{SecondWord, PartEntry, PartTable, ProcessEntry, ProcessTable, Over}
use Rattle.journal_core.specs.PartitionWalk.{is_leaf}
use Rattle.journal_core.specs.Places.{place_of}
use Rattle.journal_core.specs.Walk.{Task, next, task_of, start_of, never_denied}
use Rattle.journal_core.specs.Turns.{Query}
use Rattle.journal_core.specs.Standing.{key_of, kind_number}

-- the key of an ask's own fill; a real address and no segment have none
abbrev pub own_key : Place → Option Key
own_key (Real a) = None
own_key (GuestReal lpid a) = Some (key_of kinds.GuestPage lpid 0 12 a)
own_key (Space lpid pid a) = Some (key_of kinds.Translation lpid pid 12 a)
own_key Segment = None

abbrev pub is_same_key : Key → Key → Bool
is_same_key a b = (kind_number a.kind == kind_number b.kind) && ((a.lpid == b.lpid) && ((a.pid == b.pid) && ((a.left == b.left) && (a.page == b.page))))

abbrev pub has_key : Key → List Key → Bool
has_key key [] = false
has_key key (k ∷ ks) = is_same_key key k || has_key key ks

-- The key that a reading finds where a walk stands. A root or a directory finds that of the walked address over the bits it
-- leaves; a partition's leaf finds the guest page's. A process's leaf finds the ask's own, which has its fill at the end.
abbrev pub found_at : Task → Stage → ReadRow → Option Key
found_at k (SecondWord at) r = None
found_at k (PartEntry goal gra at) r = Some (key_of kinds.PartDir k.lpid 0 r.left gra)
found_at k (PartTable goal gra n) r = Some (if is_leaf r.value then key_of kinds.GuestPage k.lpid 0 12 gra else key_of kinds.PartDir k.lpid 0 r.left gra)
found_at k (ProcessEntry at) r = Some (key_of kinds.ProcessDir k.lpid k.pid r.left k.address)
found_at k (ProcessTable n at) r = if is_leaf r.value then None else Some (key_of kinds.ProcessDir k.lpid k.pid r.left k.address)
found_at k (Over out) r = None

-- an item of a walk with its number and its reading
pub record NumberedItem : Type 0 where
  pub number : ℕ
  pub row : ReadRow
  pub is_new : Bool

abbrev pub as_old : ℕ → ReadRow → NumberedItem
as_old i r = record { number = i; row = r; is_new = false }

-- the items of a walk whose first new reading gets this number
abbrev pub number_items : List ReadRow → ℕ → List TrailItem → List NumberedItem
number_items reads first [] = []
number_items reads first (Old i ∷ items) = map (as_old i) (option_to_list (slice_get reads i)) ++ number_items reads first items
number_items reads first (New r ∷ items) = record { number = first; row = r; is_new = true } ∷ number_items reads (first + 1) items

-- the new readings of a walk
abbrev pub new_rows : List TrailItem → List ReadRow
new_rows [] = []
new_rows (Old i ∷ items) = new_rows items
new_rows (New r ∷ items) = r ∷ new_rows items

-- a fill of thread t made at n, with the numbers of its readings and zeros in the other places
abbrev pub fill_of : ℕ → ℕ → Key → ℕ → List ℕ → FillRow
fill_of t n key level numbers = record { thread = t; key = key; level = level; moment = n; count = length numbers; reads = take 36 (numbers ++ replicate 36 0) }

-- a walk so far: the numbers of all its readings, those of the partition's walk that it is in, the keys that its new
-- readings found, and the level of the last leaf of the ask's own tree
pub record SoFar : Type 0 where
  pub numbers : List ℕ
  pub part : List ℕ
  pub keys : List Key
  pub level : ℕ

-- the readings of a guest page or of a partition's directory are those of the partition's walk alone
abbrev pub numbers_for : KeyKind → SoFar → List ℕ
numbers_for kinds.Translation x = x.numbers
numbers_for kinds.GuestPage x = x.part
numbers_for kinds.ProcessDir x = x.numbers
numbers_for kinds.PartDir x = x.part

-- the walk of a partition's tree begins here
abbrev pub begins_part : Stage → Bool
begins_part (SecondWord at) = false
begins_part (PartEntry goal gra at) = true
begins_part (PartTable goal gra n) = false
begins_part (ProcessEntry at) = false
begins_part (ProcessTable n at) = false
begins_part (Over out) = false

abbrev pub is_for_guest : Goal → Bool
is_for_guest ForEntry = false
is_for_guest (ForTable n) = false
is_for_guest ForResult = false
is_for_guest ForGuest = true

-- the tree of the ask itself is walked here, whose last leaf has the level that the ask's own fill carries
abbrev pub in_own_tree : Stage → Bool
in_own_tree (SecondWord at) = false
in_own_tree (PartEntry goal gra at) = false
in_own_tree (PartTable goal gra n) = is_for_guest goal
in_own_tree (ProcessEntry at) = false
in_own_tree (ProcessTable n at) = true
in_own_tree (Over out) = false

-- a reading is taken into account, before what it finds
abbrev pub taking : Stage → SoFar → NumberedItem → SoFar
taking s x item = record {
  numbers = x.numbers ++ item.number ∷ [];
  part = (if begins_part s then [] else x.part) ++ item.number ∷ [];
  keys = x.keys;
  level = if in_own_tree s && is_leaf item.row.value then item.row.level else x.level;
}

abbrev pub is_own : Key → Option Key → Bool
is_own key None = false
is_own key (Some own) = is_same_key key own

-- the key that a new reading finds first, other than the ask's own
abbrev pub first_found : Option Key → List Key → Bool → Option Key → List Key
first_found own keys false key = []
first_found own keys true None = []
first_found own keys true (Some key) = if is_own key own || has_key key keys then [] else key ∷ []

abbrev pub fills_for : ℕ → ℕ → SoFar → ℕ → List Key → List FillRow
fills_for t n x level [] = []
fills_for t n x level (key ∷ keys) = fill_of t n key level (numbers_for key.kind x) ∷ fills_for t n x level keys

-- the ask's own fill, which has all the readings, if it has a key
abbrev pub own_fill : ℕ → ℕ → SoFar → Option Key → List FillRow
own_fill t n x None = []
own_fill t n x (Some own) = fill_of t n own x.level x.numbers ∷ []

-- the fills that a walk still adds from where it stands
abbrev pub fills_from : ℕ → ℕ → Task → Option Key → Stage → SoFar → List NumberedItem → List FillRow
fills_from t n k own s x [] = own_fill t n x own
fills_from t n k own s x (item ∷ items) =
    let taken : SoFar = taking s x item in
    let found : List Key = first_found own x.keys item.is_new (found_at k s item.row) in
    fills_for t n taken item.row.level found ++ fills_from t n k own (next k s item.row.value) (record taken { keys = x.keys ++ found }) items

-- nothing was read
abbrev pub nothing_so_far : SoFar
nothing_so_far = record { numbers = []; part = []; keys = []; level = 0 }

-- The fills that a finished walk of an ask adds, for thread t at n, if its first new reading gets this number: one for each key
-- that a new reading found first, in their order, and last that of the ask itself.
abbrev pub fills_of : ℕ → ℕ → Ask → List ReadRow → ℕ → List TrailItem → List FillRow
fills_of t n ask reads first items =
    fills_from t n (task_of never_denied ask) (own_key (place_of ask)) (start_of never_denied ask) nothing_so_far (number_items reads first items)

-- the fills that a finished walk adds that answers an ask
abbrev pub fills_of_query : Query → List TrailItem → List FillRow
fills_of_query q items = fills_of q.turn.thread q.turn.step q.ask q.turn.rows.reads q.before.reads items

-- the old readings among the items of a walk are there
abbrev pub OldsBelow : ℕ → List TrailItem → Type 0
OldsBelow count [] = Unit {0}
OldsBelow count (Old i ∷ items) = (i < count) × OldsBelow count items
OldsBelow count (New r ∷ items) = OldsBelow count items
