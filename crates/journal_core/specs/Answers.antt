-- Which answers of a translation keep the rule of a step, and which uses, reads and fills its row then has. A journal of any
-- lawful translator keeps this; which of the lawful answers the machine gives is its choice.
use Rattle.std.specs.Prelude.{◌≡◌, ℕ, ◌+◌, ◌≤◌, ◌<◌, List, [], ◌∷◌, length, slice_get, Contains, Option, Some}
use Rattle.std.specs.List.{AllByRecursion, range_with_len}
use Rattle.journal_core.specs.declared.rows.ReadRow.{ReadRow}
use Rattle.journal_core.specs.declared.rows.FillRow.{FillRow}
use Rattle.journal_core.specs.declared.rows.Use.{Use}
use Rattle.journal_core.specs.declared.rows.Use.TheVariants.{Unused, Real as RealUse, Hit, Walked, Faulted}
use Rattle.journal_core.specs.declared.asks.Ask.{Ask}
use Rattle.journal_core.specs.declared.asks.Found.{Found}
use Rattle.journal_core.specs.declared.asks.Found.TheVariants.{Real, Fault, Stop}
use Rattle.journal_core.specs.declared.walks.TrailItem.{TrailItem}
use Rattle.journal_core.specs.declared.walks.TrailItem.TheVariants.{Old, New}
use Rattle.journal_core.specs.Room.{walk_fills}
use Rattle.journal_core.specs.Rows.{Rows}
use Rattle.journal_core.specs.Steps.{rows_below}
use Rattle.journal_core.specs.Covers.{IsCurrent}
use Rattle.journal_core.specs.Turns.{Mark, NoFewer, Turn, Query, query_of}
use Rattle.journal_core.specs.Standing.{fill_reads, AreRows}
use Rattle.journal_core.specs.Resumed.{numbers_of}
use Rattle.journal_core.specs.Fills.{fills_of_query, new_rows}
use Rattle.journal_core.specs.Admitted.{IsReadBy, IsWalkTo, IsRight}
use Rattle.journal_core.specs.Choice.{SameMark, added, ByKind, IsFault, IsStop}

-- the readings with these numbers as items of a walk that began when there were so many reads: a lower number is an old
-- reading, any other a new one
abbrev pub AreItems : List ReadRow → ℕ → List ℕ → List TrailItem → Type 0
AreItems reads from [] [] = Unit {0}
AreItems reads from [] (item ∷ items) = ⊥
AreItems reads from (i ∷ is) [] = ⊥
AreItems reads from (i ∷ is) (Old j ∷ items) = (i < from) × (j ≡ i) × AreItems reads from is items
AreItems reads from (i ∷ is) (New r ∷ items) = (from ≤ i) × (slice_get reads i ≡ Some r) × AreItems reads from is items

-- what a row shows of an answer: a stop has no use
abbrev pub use_of : Found → Use
use_of (Real a used) = used
use_of (Fault cause used) = used
use_of (Stop name value) = Unused

-- the numbers of the readings that a use names, itself or through the fill that it names
abbrev pub named_by : List FillRow → Use → List ℕ
named_by fills Unused = []
named_by fills (RealUse a) = []
named_by fills (Hit i a) = numbers_of fills (Some i)
named_by fills (Walked i a) = numbers_of fills (Some i)
named_by fills (Faulted first count) = range_with_len first count

-- where a use gives a page, the rights in its readings permit the access
abbrev pub IsRightFor : Ask → List ReadRow → Use → Type 0
IsRightFor ask rs Unused = Unit {0}
IsRightFor ask rs (RealUse a) = Unit {0}
IsRightFor ask rs (Hit i a) = IsRight ask rs a
IsRightFor ask rs (Walked i a) = IsRight ask rs a
IsRightFor ask rs (Faulted first count) = Unit {0}

-- a kept entry answers: it is the thread's, from before this answer; its readings are a walk of the ask to the address; and
-- nothing is added
pub record IsHit (q : Query) (rs : List ReadRow) (i real : ℕ) (after : Mark) : Type 0 where
  pub fill : FillRow
  pub is : slice_get q.turn.rows.fills i ≡ Some fill
  pub of_thread : fill.thread ≡ q.turn.thread
  pub below : i < q.before.fills
  pub walk : IsWalkTo q.ask rs real
  pub same : SameMark q.before after

-- A walk answers: its last fill is the thread's, made at this step and by this answer; the fill's readings are a walk of the ask to
-- the address; the read rows that were added are the new ones of these, in order; and each fill that was added, of which there
-- are at most 35, is one that a finished walk of these readings adds.
pub record IsWalked (q : Query) (rs : List ReadRow) (i real : ℕ) (after : Mark) : Type 0 where
  pub fill : FillRow
  pub is : slice_get q.turn.rows.fills i ≡ Some fill
  pub of_thread : fill.thread ≡ q.turn.thread
  pub same_moment : fill.moment ≡ q.turn.step
  pub from : q.before.fills ≤ i
  pub last : after.fills ≡ i + 1
  pub few : after.fills ≤ q.before.fills + walk_fills
  pub walk : IsWalkTo q.ask rs real
  pub items : List TrailItem
  pub are_items : AreItems q.turn.rows.reads q.before.reads (fill_reads fill) items
  pub reads_to : after.reads ≡ q.before.reads + length (new_rows items)
  pub reads : added q.turn.rows.reads q.before.reads after.reads ≡ new_rows items
  pub fills : AllByRecursion (λ f. Contains (fills_of_query q items) f) (added q.turn.rows.fills q.before.fills after.fills)

-- An answer keeps the rule, from so many fills and reads on. The numbers that its use names are of read rows, each made by then
-- and true (`read`); each of these is current (`current`); they are the walk that the use says, which for a fault or a stop is the
-- fresh one, and the rows that it adds are those of this walk (`walk`); and where there is a page, the rights in them permit
-- the access (`right`).
pub record IsAnswer (past : ℕ → ℕ → Option ℕ) (q : Query) (found : Found) (after : Mark) : Type 0 where
  pub readings : List ReadRow
  pub named : AreRows q.turn.rows.reads (named_by q.turn.rows.fills (use_of found)) readings
  pub read : AllByRecursion (IsReadBy past q.turn.step) readings
  pub current : AllByRecursion (IsCurrent q.turn.rows.dones q.turn.thread q.turn.step) readings
  pub walk : ByKind q (IsHit q readings) (IsWalked q readings) (IsFault q) (IsStop q) found after
  pub right : IsRightFor q.ask readings (use_of found)

-- the answers for a step's asks by a relation, in their order, each from where the one before it left off
abbrev pub AreAnswered : (Mark → Ask → Found → Mark → Type 0) → Mark → List Ask → List Found → Mark → Type 0
AreAnswered answers before [] [] after = after ≡ before
AreAnswered answers before [] (found ∷ founds) after = ⊥
AreAnswered answers before (ask ∷ asks) [] after = ⊥
AreAnswered answers before (ask ∷ asks) (found ∷ founds) after =
    (between : Mark) × NoFewer before between × answers before ask found between × AreAnswered answers between asks founds after

-- the three uses of a row whose asks had these answers: the fetch, the first page, the second
abbrev pub uses_of : List Found → List Use
uses_of [] = Unused ∷ Unused ∷ Unused ∷ []
uses_of (a ∷ []) = use_of a ∷ Unused ∷ Unused ∷ []
uses_of (a ∷ b ∷ []) = use_of a ∷ use_of b ∷ Unused ∷ []
uses_of (a ∷ b ∷ c ∷ more) = use_of a ∷ use_of b ∷ use_of c ∷ []

-- how many fills and reads the steps below a number have
abbrev pub mark_at : Rows → ℕ → Mark
mark_at rows n = record { fills = length (rows_below (λ (f : FillRow). f.moment) n rows.fills); reads = length (rows_below (λ (r : ReadRow). r.moment) n rows.reads) }

-- The uses of a step answer these asks by a relation, of which there are at most three, and its read and fill rows are those of
-- these answers and no other.
pub record AnswersUses (answers : Mark → Ask → Found → Mark → Type 0) (v : Turn) (asks : List Ask) (founds : List Found) (uses : List Use) : Type 0 where
  pub few : length asks ≤ 3
  pub answers_are : AreAnswered answers (mark_at v.rows v.step) asks founds (mark_at v.rows (v.step + 1))
  pub shown : uses ≡ uses_of founds

-- the uses of a step keep the rule
abbrev pub KeepsUses : (ℕ → ℕ → Option ℕ) → Turn → List Ask → List Found → List Use → Type 0
KeepsUses past v asks founds uses = AnswersUses (λ before ask found after. IsAnswer past (query_of v (past v.step) before ask) found after) v asks founds uses

-- the uses of a step were chosen so
abbrev pub ChoosesUses : (Query → Found → Mark → Type 0) → (ℕ → Option ℕ) → Turn → List Ask → List Found → List Use → Type 0
ChoosesUses chooses word v asks founds uses = AnswersUses (λ before ask found after. chooses (query_of v word before ask) found after) v asks founds uses
