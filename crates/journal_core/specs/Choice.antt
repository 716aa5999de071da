-- Which answer the machine chooses for an ask, and which rows it adds: a relation of the finished journal, of storage as it
-- stands and of the ask alone.
use Rattle.std.specs.Prelude.{◌≡◌, ℕ, ◌+◌, ◌-◌, List, [], ◌∷◌, length, take, drop, map, Option, Some, ◌⊎◌}
use Rattle.journal_core.specs.declared.rows.ReadRow.{ReadRow}
use Rattle.journal_core.specs.declared.rows.FillRow.{FillRow}
use Rattle.journal_core.specs.declared.rows.StopName.{StopName}
use Rattle.journal_core.specs.declared.rows.Use.TheVariants.{Unused, Real as RealUse, Hit, Walked, Faulted}
use Rattle.journal_core.specs.declared.causes.Cause.{Cause}
use Rattle.journal_core.specs.declared.asks.Ask.{Ask}
use Rattle.journal_core.specs.declared.asks.Place.TheVariants.{Real as RealPlace}
use Rattle.journal_core.specs.declared.asks.Found.{Found}
use Rattle.journal_core.specs.declared.asks.Found.TheVariants.{Real, Fault, Stop}
use Rattle.journal_core.specs.declared.walks.NestResult.TheVariants.{Page, Fault as WalkFault, Stop as WalkStop}
use Rattle.journal_core.specs.declared.walks.TrailItem.{TrailItem}
use Rattle.journal_core.specs.declared.walks.TrailItem.TheVariants.{New}
use Rattle.journal_core.specs.Places.{place_of}
use Rattle.journal_core.specs.Following.{Fresh}
use Rattle.journal_core.specs.Turns.{Mark, Turn, Query}
use Rattle.journal_core.specs.Admitted.{IsRight}
use Rattle.journal_core.specs.Standing.{IsStanding}
use Rattle.journal_core.specs.Resumed.{KeptAnswers, Resumed, KnowsStanding}
use Rattle.journal_core.specs.Fills.{own_key, fills_of_query, new_rows}

-- the ask's own fill stands, and its rights permit the access
pub record IsPermitted (v : Turn) (c : ℕ) (ask : Ask) (i real : ℕ) : Type 0 where
  pub fill : FillRow
  pub standing : IsStanding v c i fill
  pub own : own_key (place_of ask) ≡ Some fill.key
  pub permits : IsRight ask standing.readings real

abbrev pub NonePermits : Turn → ℕ → Ask → Type 0
NonePermits v c ask = (i real : ℕ) → IsPermitted v c ask i real → ⊥

-- the walk that uses what is kept does not end in a permitted page
abbrev pub NoneResumes : (ℕ → Option ℕ) → ℕ → KeptAnswers → Ask → Type 0
NoneResumes word n a ask = (items : List TrailItem) (real : ℕ) → Resumed word n a ask items (Page real) → ⊥

-- the rows of a list from a count to a later one
abbrev pub added : {A : Type 0} → List A → ℕ → ℕ → List A
added xs from to = take (to - from) (drop from xs)

-- no row is added
abbrev pub SameMark : Mark → Mark → Type 0
SameMark before after = (after.fills ≡ before.fills) × (after.reads ≡ before.reads)

-- the ask is no real address
abbrev pub IsTranslated : Ask → Type 0
IsTranslated ask = (a : ℕ) → place_of ask ≡ RealPlace a → ⊥

-- An answer for an ask by its kind: a real address is used as it is, and adds nothing; a kept entry, a walk, a fault and a stop
-- are as they are asked to be; and an answer whose use is of another kind cannot be.
abbrev pub ByKind : Query → (hit walked : ℕ → ℕ → Mark → Type 0) → (fault : Cause → ℕ → ℕ → Mark → Type 0) → (stop : StopName → ℕ → Mark → Type 0) → Found → Mark → Type 0
ByKind q hit walked fault stop (Real a (RealUse b)) after = (place_of q.ask ≡ RealPlace a) × (b ≡ a) × SameMark q.before after
ByKind q hit walked fault stop (Real a (Hit i b)) after = IsTranslated q.ask × (b ≡ a) × hit i a after
ByKind q hit walked fault stop (Real a (Walked i b)) after = IsTranslated q.ask × (b ≡ a) × walked i a after
ByKind q hit walked fault stop (Real a (Faulted first count)) after = ⊥
ByKind q hit walked fault stop (Real a Unused) after = ⊥
ByKind q hit walked fault stop (Fault cause (Faulted first count)) after = IsTranslated q.ask × fault cause first count after
ByKind q hit walked fault stop (Fault cause Unused) after = ⊥
ByKind q hit walked fault stop (Fault cause (RealUse b)) after = ⊥
ByKind q hit walked fault stop (Fault cause (Hit i b)) after = ⊥
ByKind q hit walked fault stop (Fault cause (Walked i b)) after = ⊥
ByKind q hit walked fault stop (Stop name value) after = IsTranslated q.ask × stop name value after

-- a kept entry that permits answers, and adds nothing
abbrev pub ChoseHit : Query → ℕ → ℕ → Mark → Type 0
ChoseHit q i real after = IsPermitted q.turn q.before.fills q.ask i real × SameMark q.before after

-- a walk that ended in a page adds its new readings, and then its fills, of which fill i is the last
pub record AddsWalk (q : Query) (items : List TrailItem) (i : ℕ) (after : Mark) : Type 0 where
  pub reads_to : after.reads ≡ q.before.reads + length (new_rows items)
  pub fills_to : after.fills ≡ q.before.fills + length (fills_of_query q items)
  pub reads : added q.turn.rows.reads q.before.reads after.reads ≡ new_rows items
  pub fills : added q.turn.rows.fills q.before.fills after.fills ≡ fills_of_query q items
  pub last : after.fills ≡ i + 1

-- The walk that gave a page: the one that uses what is kept, else the fresh one.
abbrev pub WalkedBy : Query → KeptAnswers → List TrailItem → ℕ → Type 0
WalkedBy q a items real =
    Resumed q.word q.turn.step a q.ask items (Page real) ⊎ (NoneResumes q.word q.turn.step a q.ask × (rs : List ReadRow) × (items ≡ map New rs) × Fresh q.word q.turn.step q.ask rs (Page real))

-- no standing fill permits, and a walk gave a page
pub record ChoseWalk (q : Query) (i real : ℕ) (after : Mark) : Type 0 where
  pub known : KeptAnswers
  pub knows : KnowsStanding q.turn q.before.fills known
  pub none_permits : NonePermits q.turn q.before.fills q.ask
  pub items : List TrailItem
  pub walked : WalkedBy q known items real
  pub adds : AddsWalk q items i after

-- no standing fill permits, and no walk that uses what stands gives a page
pub record NoneServes (q : Query) : Type 0 where
  pub known : KeptAnswers
  pub knows : KnowsStanding q.turn q.before.fills known
  pub none_permits : NonePermits q.turn q.before.fills q.ask
  pub none_resumes : NoneResumes q.word q.turn.step known q.ask

-- the readings of a walk that ended in a fault are added, so many, as the rows from the first on
pub record AddsReads (q : Query) (first count : ℕ) (rs : List ReadRow) (after : Mark) : Type 0 where
  pub first_is : first ≡ q.before.reads
  pub count_is : count ≡ length rs
  pub reads_to : after.reads ≡ q.before.reads + count
  pub fills_to : after.fills ≡ q.before.fills
  pub reads : added q.turn.rows.reads q.before.reads after.reads ≡ rs

-- the fresh walk ends in this fault, and adds its readings alone
pub record IsFault (q : Query) (cause : Cause) (first count : ℕ) (after : Mark) : Type 0 where
  pub readings : List ReadRow
  pub fresh : Fresh q.word q.turn.step q.ask readings (WalkFault cause)
  pub adds : AddsReads q first count readings after

-- the fresh walk ends in this stop, and adds nothing
pub record IsStop (q : Query) (name : StopName) (value : ℕ) (after : Mark) : Type 0 where
  pub readings : List ReadRow
  pub fresh : Fresh q.word q.turn.step q.ask readings (WalkStop name value)
  pub same : SameMark q.before after

-- The answer for an ask and the rows that it adds: for a real address that address; else the standing fill that permits; else the
-- walk that uses what stands, where it gives a page; else the fresh walk.
abbrev pub Choice : Query → Found → Mark → Type 0
Choice q found after =
    ByKind q (ChoseHit q) (ChoseWalk q) (λ cause first count to. NoneServes q × IsFault q cause first count to) (λ name value to. NoneServes q × IsStop q name value to) found after

-- of a list the last element alone
abbrev pub last_of : {A : Type 0} → List A → List A
last_of [] = []
last_of (x ∷ []) = x ∷ []
last_of (x ∷ (y ∷ more)) = last_of (y ∷ more)

-- the fresh walk ended in a page, and adds its readings, and of its fills the last one alone, that of the ask
pub record AddsOwn (q : Query) (i real : ℕ) (after : Mark) : Type 0 where
  pub rs : List ReadRow
  pub fresh : Fresh q.word q.turn.step q.ask rs (Page real)
  pub reads_to : after.reads ≡ q.before.reads + length rs
  pub fills_to : after.fills ≡ q.before.fills + 1
  pub reads : added q.turn.rows.reads q.before.reads after.reads ≡ rs
  pub fills : added q.turn.rows.fills q.before.fills after.fills ≡ last_of (fills_of_query q (map New rs))
  pub last : i ≡ q.before.fills

-- the choice of a machine that keeps nothing: always the fresh walk's answer
abbrev pub PlainChoice : Query → Found → Mark → Type 0
PlainChoice q found after = ByKind q (λ i real to. ⊥) (AddsOwn q) (IsFault q) (IsStop q) found after
