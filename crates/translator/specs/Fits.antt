-- When kept fills fit a journal.
use Rattle.std.specs.Prelude.{◌≡◌, ℕ, ◌<◌, ◌≤◌, ◌⊎◌, List, [], length, map, false, Option, Some, slice_get, slice_set, slice_index_or}
use Rattle.journal_core.specs.declared.rows.KeyKind.{KeyKind}
use Rattle.journal_core.specs.declared.rows.KeyKind.TheVariants.{Translation, GuestPage, ProcessDir, PartDir}
use Rattle.journal_core.specs.declared.rows.Key.{Key}
use Rattle.journal_core.specs.declared.rows.FillRow.{FillRow}
use Rattle.journal_core.specs.declared.rows.Done.TheVariants.{Ptcr}
use Rattle.journal_core.specs.declared.rows.DoneRow.{DoneRow}
use Rattle.journal_core.specs.Rows.{Rows, JournalView}
use Rattle.journal_core.specs.Translating.{IsFillOfWalk, AreValuesAfter}
use Rattle.walk_rows.specs.FillPage.{fill_rows}
use Rattle.translator.specs.declared.places.KeptPlace.{KeptPlace}
use Rattle.translator.specs.declared.lists.Lists.{Lists}
use Rattle.translator.specs.PlaceLists.{is_gone, expected, inserted, after_done}

-- the places of a thread of this kind; directories are not kept here
abbrev pub list_of : KeyKind → Lists → ℕ → List KeptPlace
list_of Translation s t = slice_index_or s.translations t []
list_of GuestPage s t = slice_index_or s.pages t []
list_of ProcessDir s t = []
list_of PartDir s t = []

-- with other places of a thread of this kind
abbrev pub with_list : KeyKind → Lists → ℕ → List KeptPlace → Lists
with_list Translation s t ps = record s { translations = slice_set s.translations t ps }
with_list GuestPage s t ps = record s { pages = slice_set s.pages t ps }
with_list ProcessDir s t ps = s
with_list PartDir s t ps = s

-- after a new fill of a thread
abbrev pub with_fill_in : Key → ℕ → Lists → ℕ → Lists
with_fill_in key i s t = with_list key.kind s t (inserted key i (list_of key.kind s t))

-- the kinds that are kept here
abbrev pub IsPageKind : KeyKind → Type 0
IsPageKind Translation = Unit {0}
IsPageKind GuestPage = Unit {0}
IsPageKind ProcessDir = ⊥
IsPageKind PartDir = ⊥

-- a fill has a reading and was made by a finished walk, and where no completed operation has ended one of its readings, under this value of PTCR
pub record IsMade (rows : Rows) (t ptcr : ℕ) (f : FillRow) : Type 0 where
  pub some : fill_rows rows.reads f ≡ [] → ⊥
  pub walked : (old : ℕ) × IsFillOfWalk rows old f
  pub present : is_gone rows.reads rows.dones t f ≡ false → IsFillOfWalk rows ptcr f

-- so was each fill of a thread from the floor on
abbrev pub AreMade : JournalView → ℕ → ℕ → Type 0
AreMade j t ptcr = (i : ℕ) (f : FillRow) → slice_get j.rows.fills i ≡ Some f → j.floor ≤ i → f.thread ≡ t → IsMade j.rows t ptcr f

-- The lists fit a journal, with these values of PTCR. For each thread the list of each kind is the one that the journal asks for, with a
-- place dropped exactly where a completed operation ended one of its readings (`same`), and its fills were made by finished
-- walks (`made`).
pub record Fits (s : Lists) (j : JournalView) (values : List ℕ) : Type 0 where
  pub within : j.floor ≤ length j.rows.fills
  pub same : (t : ℕ) → t < s.threads → (kind : KeyKind) → IsPageKind kind → list_of kind s t ≡ expected j.rows j.floor t kind
  pub made : (t ptcr : ℕ) → t < s.threads → slice_get values t ≡ Some ptcr → AreMade j t ptcr

-- the facts of one thread, whose PTCR has this value, if it has one
pub record FitsThread (s : Lists) (j : JournalView) (t : ℕ) (value : Option ℕ) : Type 0 where
  pub same : (kind : KeyKind) → IsPageKind kind → list_of kind s t ≡ expected j.rows j.floor t kind
  pub made : (ptcr : ℕ) → value ≡ Some ptcr → AreMade j t ptcr

-- after a completed operation the thread's value is as it was; after a change of its partition table it may be any
pub record MayChange (row : DoneRow) (t : ℕ) (value : Option ℕ) : Type 0 where
  pub what : row.what ≡ Ptcr
  pub own : row.thread ≡ t
  pub old : ℕ
  pub is : value ≡ Some old

abbrev pub IsValueAfter : DoneRow → ℕ → Option ℕ → Option ℕ → Type 0
IsValueAfter row t value new = (new ≡ value) ⊎ MayChange row t value

-- the lists of a thread after a completed operation
abbrev pub after_done_in : Rows → ℕ → DoneRow → Lists → Lists
after_done_in rows t d s = record s { translations = slice_set s.translations t (map (after_done rows t d) (slice_index_or s.translations t [])); pages = slice_set s.pages t (map (after_done rows t d) (slice_index_or s.pages t [])) }

-- so many threads fit the journal after the last done row, the others the one before it
abbrev pub FitsSoFar : Lists → Lists → JournalView → JournalView → DoneRow → ℕ → Type 0
FitsSoFar first s old j row k = (values new : List ℕ) → Fits first old values → AreValuesAfter row values new → (t : ℕ) → t < first.threads →
    (t < k → FitsThread s j t (slice_get new t)) × (k ≤ t → FitsThread s old t (slice_get values t))
