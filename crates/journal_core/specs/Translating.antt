-- What a translation is given, and what it leaves.
use Rattle.std.specs.Prelude.{◌≡◌, ℕ, ◌+◌, ◌≤◌, ◌<◌, List, [], ◌∷◌, ◌++◌, length, slice_get, Contains, Option}
use Rattle.std.specs.List.{AllByRecursion}
use Rattle.journal_core.specs.declared.rows.ReadRow.{ReadRow}
use Rattle.journal_core.specs.declared.rows.FillRow.{FillRow}
use Rattle.journal_core.specs.declared.rows.Done.{Done}
use Rattle.journal_core.specs.declared.rows.Done.TheVariants.{Global, Local, Ptcr}
use Rattle.journal_core.specs.declared.rows.DoneRow.{DoneRow}
use Rattle.journal_core.specs.declared.rows.KeyKind.{KeyKind}
use Rattle.journal_core.specs.declared.rows.KeyKind.TheVariants.{GuestPage}
use Rattle.journal_core.specs.declared.asks.Ask.{Ask}
use Rattle.journal_core.specs.declared.asks.Found.{Found}
use Rattle.journal_core.specs.declared.walks.TrailItem.{TrailItem}
use Rattle.journal_core.specs.Room.{walk_reads, walk_fills}
use Rattle.journal_core.specs.Rows.{Rows, JournalView}
pub use Rattle.journal_core.specs.Standing.{IsDirectoryKind}
use Rattle.journal_core.specs.Standing.{AreNamed, IsStanding, IsFor, key_of}
use Rattle.journal_core.specs.Resumed.{readings}
use Rattle.journal_core.specs.Fills.{fills_of, new_rows, OldsBelow}
use Rattle.journal_core.specs.Following.{IsTrueReading}
use Rattle.journal_core.specs.Admitted.{IsWalkTo, IsRight}
use Rattle.journal_core.specs.Turns.{Mark, Query, query_later, next_turn}
use Rattle.journal_core.specs.Choice.{added}

-- no operation was completed in the step that is being made
abbrev pub IsQuiet : Rows → Type 0
IsQuiet rows = AllByRecursion (λ (d : DoneRow). d.step < length rows.steps) rows.dones

-- all readings are true
abbrev pub AreTrue : (ℕ → ℕ → Option ℕ) → Rows → Type 0
AreTrue past rows = AllByRecursion (IsTrueReading past) rows.reads

-- Reads, at most 36, and fills, at most 35, were added, each by the step that is being made, and nothing else changed.
pub record OnlyAdds (old new : JournalView) : Type 0 where
  pub reads : List ReadRow
  pub fills : List FillRow
  pub few_reads : length reads ≤ walk_reads
  pub few_fills : length fills ≤ walk_fills
  pub read_moments : AllByRecursion (λ (r : ReadRow). r.moment ≡ length old.rows.steps) reads
  pub fill_moments : AllByRecursion (λ (f : FillRow). f.moment ≡ length old.rows.steps) fills
  pub rows : new ≡ record old { rows = record old.rows { reads = old.rows.reads ++ reads; fills = old.rows.fills ++ fills } }

-- the rows before the last done row, and that row
pub record IsLastDone (rows : Rows) (row : DoneRow) : Type 0 where
  pub before : List DoneRow
  pub is : rows.dones ≡ before ++ row ∷ []

-- the list without its last element
abbrev pub without_last : {A : Type 0} → List A → List A
without_last [] = []
without_last (x ∷ []) = []
without_last (x ∷ (y ∷ more)) = x ∷ without_last (y ∷ more)

-- the journal without its last done row
abbrev pub without_done : JournalView → JournalView
without_done j = record j { rows = record j.rows { dones = without_last j.rows.dones } }

-- two journals have the same reads, fills, done rows and floor, and the second has no fewer steps
pub record SameKept (j k : JournalView) : Type 0 where
  pub reads : k.rows.reads ≡ j.rows.reads
  pub fills : k.rows.fills ≡ j.rows.fills
  pub dones : k.rows.dones ≡ j.rows.dones
  pub floor : k.floor ≡ j.floor
  pub steps : length j.rows.steps ≤ length k.rows.steps

-- two lists of values are equal but for one place
pub record AreEqualBut (i : ℕ) (values new : List ℕ) : Type 0 where
  pub count : length new ≡ length values
  pub others : (j : ℕ) → (j ≡ i → ⊥) → slice_get new j ≡ slice_get values j

-- after a completed operation the threads' values are as they were; after a change of a thread's partition table that
-- thread's may be any
abbrev pub AreValues : Done → ℕ → List ℕ → List ℕ → Type 0
AreValues (Global op) t values new = new ≡ values
AreValues (Local op) t values new = new ≡ values
AreValues Ptcr t values new = AreEqualBut t values new

abbrev pub AreValuesAfter : DoneRow → List ℕ → List ℕ → Type 0
AreValuesAfter row values new = AreValues row.what row.thread values new

-- A fill is one that a finished walk of some ask adds, which ended in a page under this value of PTCR. The walk's old readings are
-- there, and its new ones are the read rows from its first number on, so that the numbers of the fill name the readings that
-- led to it.
pub record IsFillOfWalk (rows : Rows) (ptcr : ℕ) (f : FillRow) : Type 0 where
  pub ask : Ask
  pub same_ptcr : ask.ptcr ≡ ptcr
  pub items : List TrailItem
  pub from : ℕ
  pub real : ℕ
  pub old_are : OldsBelow (length rows.reads) items
  pub new_stand : added rows.reads from (from + length (new_rows items)) ≡ new_rows items
  pub walk : IsWalkTo ask (readings rows.reads items) real
  pub right : IsRight ask (readings rows.reads items) real
  pub is_one : Contains (fills_of f.thread f.moment ask rows.reads from items) f

-- fill i is a directory of this kind that stands now for the thread and the address, and was made by a finished walk
pub record IsKeptDirectory (j : JournalView) (t ptcr : ℕ) (kind : KeyKind) (lpid pid sought i : ℕ) : Type 0 where
  pub fill : FillRow
  pub standing : IsStanding (next_turn j t) (length j.rows.fills) i fill
  pub for_it : IsFor kind lpid pid sought fill
  pub of_walk : IsFillOfWalk j.rows ptcr fill

-- fill i is the guest page that stands now for the thread and the guest real address, and was made by a finished walk
pub record IsKeptPage (j : JournalView) (t ptcr lpid gra i : ℕ) : Type 0 where
  pub fill : FillRow
  pub standing : IsStanding (next_turn j t) (length j.rows.fills) i fill
  pub of_key : fill.key ≡ key_of GuestPage lpid 0 12 gra
  pub of_walk : IsFillOfWalk j.rows ptcr fill

-- these completions come in step n or later
abbrev pub AreFrom : ℕ → List DoneRow → Type 0
AreFrom n dones = AllByRecursion (λ d. n ≤ d.step) dones

-- a journal goes on from another by some reads and fills, and by completions of step n or later
pub record GoesOn (n : ℕ) (old new : Rows) : Type 0 where
  pub more_reads : List ReadRow
  pub more_fills : List FillRow
  pub more_dones : List DoneRow
  pub reads : new.reads ≡ old.reads ++ more_reads
  pub fills : new.fills ≡ old.fills ++ more_fills
  pub dones : new.dones ≡ old.dones ++ more_dones
  pub later : AreFrom n more_dones

-- so many fills and reads are there
pub record IsWithin (reached : Mark) (rows : Rows) : Type 0 where
  pub fills : reached.fills ≤ length rows.fills
  pub reads : reached.reads ≤ length rows.reads

-- a choice stays so when a journal goes on
abbrev pub Stays : (Query → Found → Mark → Type 0) → Type 0
Stays chooses = (q : Query) (new : Rows) (found : Found) (after : Mark) → GoesOn q.turn.step q.turn.rows new → IsWithin after q.turn.rows → AreNamed q.turn.rows.reads q.turn.rows.fills →
    chooses q found after → chooses (query_later q new) found after
