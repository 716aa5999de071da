-- Laws of what is kept, each the contract of a function of `kept_laws`.
use Rattle.std.specs.Prelude.{◌≡◌, ℕ, ◌%◌, ◌<◌, ◌≤◌, ◌==◌, List, ◌++◌, length, Option, true}
use Rattle.std.specs.List.{AllByRecursion, IsDistinct}
use Rattle.journal_core.specs.declared.rows.KeyKind.{KeyKind}
use Rattle.journal_core.specs.declared.rows.Key.{Key}
use Rattle.journal_core.specs.declared.rows.ReadRow.{ReadRow}
use Rattle.journal_core.specs.declared.rows.FillRow.{FillRow}
use Rattle.journal_core.specs.declared.rows.Use.{Use}
use Rattle.journal_core.specs.declared.rows.Done.TheVariants.{Ptcr}
use Rattle.journal_core.specs.declared.rows.DoneRow.{DoneRow}
use Rattle.journal_core.specs.declared.asks.Ask.{Ask}
use Rattle.journal_core.specs.declared.asks.Found.{Found}
use Rattle.journal_core.specs.declared.walks.TrailItem.{TrailItem}
use Rattle.journal_core.specs.Room.{walk_fills}
use Rattle.journal_core.specs.Rows.{Rows, JournalView}
use Rattle.journal_core.specs.Turns.{Mark, Turn, Query, query_of, turn_in, turn_later, query_later, mark_of}
use Rattle.journal_core.specs.Covers.{done_covers, IsCurrent, NoneEnds}
use Rattle.journal_core.specs.Following.{IsTrueReading}
use Rattle.journal_core.specs.Standing.{AreNamed, IsStanding, IsStandingKey, IsDeepest}
use Rattle.journal_core.specs.Resumed.{readings}
use Rattle.journal_core.specs.Fills.{fills_of, OldsBelow}
use Rattle.journal_core.specs.Admitted.{IsWalkTo, IsAdmitted}
use Rattle.journal_core.specs.Choice.{IsPermitted, Choice, PlainChoice}
use Rattle.journal_core.specs.Answers.{IsAnswer, AreAnswered, KeepsUses}
use Rattle.journal_core.specs.Early.{PagesChoice}
use Rattle.journal_core.specs.Translating.{IsFillOfWalk, AreTrue, AreFrom, GoesOn, IsWithin, OnlyAdds}

-- two answers for the standing fill of a key are the same
abbrev pub OneFillOfAKeyStands : Type 0
OneFillOfAKeyStands = (v : Turn) (c : ℕ) (key : Key) (x y : Option ℕ) → IsStandingKey v c key x → IsStandingKey v c key y → x ≡ y

-- two answers for the deepest directory of an address are the same
abbrev pub OneDirectoryIsDeepest : Type 0
OneDirectoryIsDeepest = (v : Turn) (c : ℕ) (kind : KeyKind) (lpid pid sought : ℕ) (x y : Option ℕ) →
    IsDeepest v c kind lpid pid sought x → IsDeepest v c kind lpid pid sought y → x ≡ y

-- a reading that is current at n, and that no completion since then ends, is current at m
abbrev pub UncoveredReadingsStayCurrent : Type 0
UncoveredReadingsStayCurrent = (dones : List DoneRow) (t n m : ℕ) (r : ReadRow) → n ≤ m → IsCurrent dones t n r → NoneEnds dones t n m r → IsCurrent dones t m r

-- completions of step n or later change nothing of what is current at n
abbrev pub LaterCompletionsDoNotMatter : Type 0
LaterCompletionsDoNotMatter = (dones more : List DoneRow) (t n : ℕ) (r : ReadRow) → AreFrom n more →
    (IsCurrent dones t n r → IsCurrent (dones ++ more) t n r) × (IsCurrent (dones ++ more) t n r → IsCurrent dones t n r)

-- a change of the partition table covers each reading
abbrev pub AChangeOfTheTableCoversEverything : Type 0
AChangeOfTheTableCoversEverything = (r : ReadRow) → done_covers Ptcr r ≡ true

-- a fill of this number stands, is of this kind, and falls into this set
pub record StandsInSet (v : Turn) (c : ℕ) (kind : KeyKind) (set i : ℕ) : Type 0 where
  pub fill : FillRow
  pub standing : IsStanding v c i fill
  pub of_kind : fill.key.kind ≡ kind
  pub of_set : fill.key.page % 16 ≡ set

-- of numbers of which none comes twice, and which all stand in one set, there are at most four
abbrev pub AtMostFourFillsOfASetStand : Type 0
AtMostFourFillsOfASetStand = (v : Turn) (c : ℕ) (kind : KeyKind) (set : ℕ) (numbers : List ℕ) →
    IsDistinct (λ i j. i == j) numbers → AllByRecursion (StandsInSet v c kind set) numbers → length numbers ≤ 4

-- which of the old fills stand is as it was when a journal goes on
abbrev pub LaterRowsDoNotMatter : Type 0
LaterRowsDoNotMatter = (v : Turn) (new : Rows) (c i : ℕ) (f : FillRow) → GoesOn v.step v.rows new → c ≤ length v.rows.fills → AreNamed v.rows.reads v.rows.fills →
    (IsStanding v c i f → IsStanding (turn_later v new) c i f) × (IsStanding (turn_later v new) c i f → IsStanding v c i f)

-- where the own fill of an ask stands and permits it, was made by a finished walk under the ask's value of PTCR, and its
-- readings are true, these admit the ask to its real address
abbrev pub HitsAreAdmitted : Type 0
HitsAreAdmitted = (past : ℕ → ℕ → Option ℕ) (v : Turn) (c : ℕ) (ask : Ask) (i real : ℕ) (hit : IsPermitted v c ask i real) →
    AllByRecursion (IsTrueReading past) hit.standing.readings → IsFillOfWalk v.rows ask.ptcr hit.fill → IsAdmitted past v ask hit.standing.readings real

-- an answer that keeps the rule keeps it when a journal goes on
abbrev pub LaterRowsKeepAnAnswer : Type 0
LaterRowsKeepAnAnswer = (past : ℕ → ℕ → Option ℕ) (q : Query) (new : Rows) (found : Found) (after : Mark) → GoesOn q.turn.step q.turn.rows new → IsWithin after q.turn.rows →
    IsAnswer past q found after → IsAnswer past (query_later q new) found after

-- so do the answers of several asks
abbrev pub LaterRowsKeepAnswers : Type 0
LaterRowsKeepAnswers = (past : ℕ → ℕ → Option ℕ) (word : ℕ → Option ℕ) (v : Turn) (new : Rows) (before after : Mark) (asks : List Ask) (founds : List Found) → GoesOn v.step v.rows new → IsWithin after v.rows →
    AreAnswered (λ b ask. IsAnswer past (query_of v word b ask)) before asks founds after → AreAnswered (λ b ask. IsAnswer past (query_of (turn_later v new) word b ask)) before asks founds after

-- a journal goes on from another after step n, by reads and fills of later steps and by completions of step n or later
pub record GoesOnAfter (n : ℕ) (old new : Rows) : Type 0 where
  pub on : GoesOn n old new
  pub reads : AllByRecursion (λ (r : ReadRow). n < r.moment) on.more_reads
  pub fills : AllByRecursion (λ (f : FillRow). n < f.moment) on.more_fills

-- the uses of a step that keep the rule keep it when a journal goes on after the step
abbrev pub LaterStepsKeepUses : Type 0
LaterStepsKeepUses = (past : ℕ → ℕ → Option ℕ) (v : Turn) (new : Rows) (asks : List Ask) (founds : List Found) (uses : List Use) → GoesOnAfter v.step v.rows new →
    KeepsUses past v asks founds uses → KeepsUses past (turn_later v new) asks founds uses

-- a walk of an ask to a page, whichever of its readings are old, adds at most 35 fills
abbrev pub FillsAreFew : Type 0
FillsAreFew = (t n : ℕ) (ask : Ask) (reads : List ReadRow) (first : ℕ) (items : List TrailItem) (real : ℕ) → OldsBelow (length reads) items → IsWalkTo ask (readings reads items) real →
    length (fills_of t n ask reads first items) ≤ walk_fills

-- a fill of a finished walk stays one when reads are added
abbrev pub FillsOfWalksStay : Type 0
FillsOfWalksStay = (old new : Rows) (more : List ReadRow) (ptcr : ℕ) (f : FillRow) → new.reads ≡ old.reads ++ more → IsFillOfWalk old ptcr f → IsFillOfWalk new ptcr f

-- the words of storage as it stands are those of this step
abbrev pub AreWords : (ℕ → ℕ → Option ℕ) → Query → Type 0
AreWords past q = (at : ℕ) → q.word at ≡ past q.turn.step at

-- What a journal knows before an answer: its fills' numbers name reads, its reads are true, and each fill that stands for the ask's
-- thread was made by a finished walk under the ask's value of PTCR.
pub record IsReadyFor (past : ℕ → ℕ → Option ℕ) (q : Query) (old : Rows) : Type 0 where
  pub before : q.before ≡ mark_of old
  pub on : GoesOn q.turn.step old q.turn.rows
  pub named : AreNamed old.reads old.fills
  pub reads : AreTrue past old
  pub of_walks : (i : ℕ) (f : FillRow) → IsStanding (turn_later q.turn old) (length old.fills) i f → IsFillOfWalk old q.ask.ptcr f
  pub word : AreWords past q

-- a choice keeps the rule
abbrev pub AChoiceKeepsTheRule : Type 0
AChoiceKeepsTheRule = (past : ℕ → ℕ → Option ℕ) (q : Query) (old : Rows) (found : Found) (after : Mark) → IsReadyFor past q old → IsWithin after q.turn.rows →
    Choice q found after → IsAnswer past q found after

-- so does a choice among pages
abbrev pub APagesChoiceKeepsTheRule : Type 0
APagesChoiceKeepsTheRule = (past : ℕ → ℕ → Option ℕ) (q : Query) (old : Rows) (found : Found) (after : Mark) → IsReadyFor past q old → IsWithin after q.turn.rows →
    PagesChoice q found after → IsAnswer past q found after

-- so does the fresh walk's answer, whatever the journal knows
abbrev pub APlainChoiceKeepsTheRule : Type 0
APlainChoiceKeepsTheRule = (past : ℕ → ℕ → Option ℕ) (q : Query) (found : Found) (after : Mark) → AreWords past q → IsWithin after q.turn.rows →
    PlainChoice q found after → IsAnswer past q found after

-- after an answer that keeps the rule all readings are true, if those before it were
abbrev pub ReadingsAreTrueAgain : Type 0
ReadingsAreTrueAgain = (past : ℕ → ℕ → Option ℕ) (word : ℕ → Option ℕ) (old new : JournalView) (t : ℕ) (ask : Ask) (found : Found) → ((at : ℕ) → word at ≡ past (length old.rows.steps) at) → OnlyAdds old new → AreTrue past old.rows →
    IsAnswer past (query_of (turn_in new t (length old.rows.steps)) word (mark_of old.rows) ask) found (mark_of new.rows) → AreTrue past new.rows
