-- The answers to the asks of an access.
use Rattle.std.specs.Prelude.{◌≡◌, ℕ, ◌*◌, ◌≤◌, List, ◌++◌, length, Option}
use Rattle.std.specs.List.{AllByRecursion}
use Rattle.journal_core.specs.declared.rows.ReadRow.{ReadRow}
use Rattle.journal_core.specs.declared.rows.FillRow.{FillRow}
use Rattle.journal_core.specs.declared.asks.Ask.{Ask}
use Rattle.journal_core.specs.declared.asks.Found.{Found}
use Rattle.journal_core.specs.Past.{word_in}
use Rattle.journal_core.specs.Room.{walk_reads, walk_fills}
use Rattle.journal_core.specs.Rows.{JournalView}
use Rattle.journal_core.specs.Turns.{Mark, Query, query_of, turn_in, mark_of}
use Rattle.journal_core.specs.Answers.{IsAnswer, AreAnswered}
use Rattle.journal_core.specs.Translating.{AreTrue}

-- The answers keep the rule in the journal as it then is, whatever storage was, if its words stand so before the step and the readings
-- of the journal before them are true.
abbrev pub AreAnswers : ℕ → List ℕ → JournalView → JournalView → List Ask → List Found → Type 0
AreAnswers number ram old new asks founds =
    (past : ℕ → ℕ → Option ℕ) → ((at : ℕ) → past (length old.rows.steps) at ≡ word_in ram at) → AreTrue past old.rows →
    AreAnswered (λ before ask found after. IsAnswer past (query_of (turn_in new number (length old.rows.steps)) (past (length old.rows.steps)) before ask) found after) (mark_of old.rows) asks founds (mark_of new.rows)

-- so all readings are true again
abbrev pub StayTrue : List ℕ → JournalView → JournalView → Type 0
StayTrue ram old new =
    (past : ℕ → ℕ → Option ℕ) → ((at : ℕ) → past (length old.rows.steps) at ≡ word_in ram at) → AreTrue past old.rows → AreTrue past new.rows

-- the answers are those that a translator chooses
abbrev pub AreChosen : (Query → Found → Mark → Type 0) → ℕ → List ℕ → JournalView → JournalView → List Ask → List Found → Type 0
AreChosen chooses number ram old new asks founds =
    (word : ℕ → Option ℕ) → ((at : ℕ) → word at ≡ word_in ram at) →
    AreAnswered (λ before ask found after. chooses (query_of (turn_in new number (length old.rows.steps)) word before ask) found after) (mark_of old.rows) asks founds (mark_of new.rows)

-- The rows that the answers added: of at most so many walks, each of the step that is being made; and nothing else changed.
pub record AddsWalks (walks : ℕ) (old new : JournalView) : Type 0 where
  pub reads : List ReadRow
  pub fills : List FillRow
  pub few_reads : length reads ≤ walks * walk_reads
  pub few_fills : length fills ≤ walks * walk_fills
  pub read_moments : AllByRecursion (λ (r : ReadRow). r.moment ≡ length old.rows.steps) reads
  pub fill_moments : AllByRecursion (λ (f : FillRow). f.moment ≡ length old.rows.steps) fills
  pub rows : new ≡ record old { rows = record old.rows { reads = old.rows.reads ++ reads; fills = old.rows.fills ++ fills } }

-- some asks of a thread were answered so
pub record IsAnswered (chooses : Query → Found → Mark → Type 0) (walks number : ℕ) (ram : List ℕ) (asks : List Ask) (old new : JournalView) (founds : List Found) : Type 0 where
  pub adds : AddsWalks walks old new
  pub answers : AreAnswers number ram old new asks founds
  pub truth : StayTrue ram old new
  pub chosen : AreChosen chooses number ram old new asks founds
