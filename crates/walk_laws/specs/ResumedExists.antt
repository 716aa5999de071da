-- A walk that uses what is kept exists, if what is kept serves.
use Rattle.std.specs.Prelude.{◌≡◌, ℕ, List, length, Option, Some}
use Rattle.journal_core.specs.declared.rows.KeyKind.{KeyKind}
use Rattle.journal_core.specs.declared.rows.KeyKind.TheVariants.{ProcessDir, PartDir}
use Rattle.journal_core.specs.declared.rows.FillRow.{FillRow}
use Rattle.journal_core.specs.declared.asks.Ask.{Ask}
use Rattle.journal_core.specs.declared.asks.Place.TheVariants.{Space}
use Rattle.journal_core.specs.declared.walks.NestResult.{NestResult}
use Rattle.journal_core.specs.declared.walks.TrailItem.{TrailItem}
use Rattle.journal_core.specs.Rows.{Rows, JournalView}
use Rattle.journal_core.specs.Turns.{next_turn}
use Rattle.journal_core.specs.Places.{place_of}
use Rattle.journal_core.specs.Standing.{IsStanding}
use Rattle.journal_core.specs.Resumed.{KeptAnswers, Resumed, KnowsStanding}
use Rattle.journal_core.specs.KeptAnswers.{known_of}
use Rattle.journal_core.specs.Translating.{IsFillOfWalk}
use Rattle.walk_laws.specs.KeptBegins.{BeginsPart, BeginsProcess}

-- each answer begins the walk that it is given for
pub record AnswersServe (rows : Rows) (directory : KeyKind → ℕ → ℕ → ℕ → Option ℕ) (page : ℕ → ℕ → Option ℕ) (ask : Ask) : Type 0 where
  pub pages : (lpid gra i : ℕ) → page lpid gra ≡ Some i → BeginsPart rows ask.ptcr lpid gra i
  pub parts : (lpid gra i : ℕ) → directory PartDir lpid 0 gra ≡ Some i → BeginsPart rows ask.ptcr lpid gra i
  pub processes : (lpid pid sought i : ℕ) → place_of ask ≡ Space lpid pid sought → directory ProcessDir lpid pid sought ≡ Some i → BeginsProcess rows ask i

-- the ask has a walk that uses what is known
abbrev pub HasResumed : (ℕ → Option ℕ) → ℕ → KeptAnswers → Ask → Type 0
HasResumed word moment a ask = (items : List TrailItem) × (out : NestResult) × Resumed word moment a ask items out

-- an ask has a walk that uses answers that serve
abbrev pub ResumedWalkExists : Type 0
ResumedWalkExists = (word : ℕ → Option ℕ) (moment : ℕ) (rows : Rows) (directory : KeyKind → ℕ → ℕ → ℕ → Option ℕ) (page : ℕ → ℕ → Option ℕ) (ask : Ask) → AnswersServe rows directory page ask →
    HasResumed word moment (known_of rows directory page) ask

-- each fill that now stands for the thread was made by a finished walk under this value of PTCR
abbrev pub AreOfWalks : JournalView → ℕ → ℕ → Type 0
AreOfWalks j t ptcr = (i : ℕ) (f : FillRow) → IsStanding (next_turn j t) (length j.rows.fills) i f → IsFillOfWalk j.rows ptcr f

-- where each fill that now stands for the thread was made by a finished walk under the ask's value of PTCR, the ask has a walk
-- that uses what stands
abbrev pub StandingWalkExists : Type 0
StandingWalkExists = (word : ℕ → Option ℕ) (moment : ℕ) (j : JournalView) (t : ℕ) (a : KeptAnswers) (ask : Ask) → AreOfWalks j t ask.ptcr → KnowsStanding (next_turn j t) (length j.rows.fills) a → HasResumed word moment a ask
