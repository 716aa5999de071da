-- Laws of walks: an ask has exactly one fresh walk and at most one that uses what is kept, a walk has at most so many
-- readings, and the walk of a partition's tree is part of the walk that wants it.
use Rattle.std.specs.Prelude.{◌≡◌, ◌≤◌, ◌↔◌, ◌⊎◌, ℕ, List, [], ◌++◌, length, map, Option, Some}
use Rattle.std.specs.List.{AllByRecursion}
use Rattle.journal_core.specs.declared.rows.ReadRow.{ReadRow}
use Rattle.journal_core.specs.declared.asks.AccessKind.{AccessKind}
use Rattle.journal_core.specs.declared.asks.Rights.{Rights}
use Rattle.journal_core.specs.declared.asks.Denial.{Denial}
use Rattle.journal_core.specs.declared.asks.Ask.{Ask}
use Rattle.journal_core.specs.declared.walks.Goal.{Goal}
use Rattle.journal_core.specs.declared.walks.NestResult.{NestResult}
use Rattle.journal_core.specs.declared.walks.PartResult.{PartResult}
use Rattle.journal_core.specs.declared.walks.PartStage.{PartStage}
use Rattle.journal_core.specs.declared.walks.PartStage.TheVariants.{Ended}
use Rattle.journal_core.specs.declared.walks.TrailItem.{TrailItem}
use Rattle.journal_core.specs.declared.walks.TrailItem.TheVariants.{New}
use Rattle.journal_core.specs.Room.{walk_reads}
use Rattle.journal_core.specs.PartitionWalk.{part_start, part_after, PartFollows, PartitionWalk}
use Rattle.journal_core.specs.Rights.{first_denial}
use Rattle.journal_core.specs.Walk.{Task, inside, enter, stage_after, task_of, start_of}
use Rattle.journal_core.specs.Following.{Follows, Walk, Fresh, FreshPartitionWalk}
use Rattle.journal_core.specs.Admitted.{IsWalkTo, IsRight}
use Rattle.journal_core.specs.Resumed.{KeptAnswers, KnowsNothing, Resumed, readings}
use Rattle.journal_core.specs.Fills.{new_rows}

-- two fresh walks of an ask at one moment, over the same words, have the same readings and the same outcome
abbrev pub FreshWalkIsOne : Type 0
FreshWalkIsOne = (word : ℕ → Option ℕ) (moment : ℕ) (ask : Ask) (rs qs : List ReadRow) (o p : NestResult) → Fresh word moment ask rs o → Fresh word moment ask qs p → (rs ≡ qs) × (o ≡ p)

-- an ask has a fresh walk at each moment, whatever the words are
abbrev pub FreshWalkExists : Type 0
FreshWalkExists = (word : ℕ → Option ℕ) (moment : ℕ) (ask : Ask) → (rs : List ReadRow) × (out : NestResult) × Fresh word moment ask rs out

-- the words stand as these readings have them
abbrev pub StandSo : (ℕ → Option ℕ) → List ReadRow → Type 0
StandSo word rs = AllByRecursion (λ (r : ReadRow). word r.at ≡ Some r.value) rs

abbrev pub addresses : List ReadRow → List ℕ
addresses rs = map (λ (r : ReadRow). r.at) rs

abbrev pub values : List ReadRow → List ℕ
values rs = map (λ (r : ReadRow). r.value) rs

-- two walks of an ask whose words stand as their readings have them, whenever they were read and whatever they sought, have
-- the same addresses, the same values and the same outcome
abbrev pub TrueWalkIsOne : Type 0
TrueWalkIsOne = (deny : Rights → AccessKind → Option Denial) (word : ℕ → Option ℕ) (ask : Ask) (rs qs : List ReadRow) (o p : NestResult) → Walk deny word ask rs o → StandSo word rs → Walk deny word ask qs p → StandSo word qs → (addresses rs ≡ addresses qs) × (values rs ≡ values qs) × (o ≡ p)

-- readings follow the walk of an ask by its rights to a page exactly where they are a walk to it and the rights permit it
abbrev pub PermittedWalkIsWalk : Type 0
PermittedWalkIsWalk = (ask : Ask) (rs : List ReadRow) (real : ℕ) → (Follows (task_of (first_denial ask) ask) (start_of (first_denial ask) ask) rs × IsRight ask rs real) ↔ (IsWalkTo ask rs real × IsRight ask rs real)

-- two walks of one guest real address in a partition's tree whose words stand as their readings have them have the same
-- addresses, the same values and the same outcome
abbrev pub TruePartitionWalkIsOne : Type 0
TruePartitionWalkIsOne = (word : ℕ → Option ℕ) (ptcr lpid gra : ℕ) (rs qs : List ReadRow) (o p : PartResult) → PartitionWalk word ptcr lpid gra rs o → StandSo word rs → PartitionWalk word ptcr lpid gra qs p → StandSo word qs → (addresses rs ≡ addresses qs) × (values rs ≡ values qs) × (o ≡ p)

-- two fresh walks of one guest real address in a partition's tree, at one moment over the same words, are the same
abbrev pub FreshPartitionWalkIsOne : Type 0
FreshPartitionWalkIsOne = (word : ℕ → Option ℕ) (moment ptcr lpid gra : ℕ) (rs qs : List ReadRow) (o p : PartResult) → FreshPartitionWalk word moment ptcr lpid gra rs o → FreshPartitionWalk word moment ptcr lpid gra qs p → (rs ≡ qs) × (o ≡ p)

-- readings that follow the walk of an ask are at most 36, whatever the rights refuse
abbrev pub WalkIsShort : Type 0
WalkIsShort = (deny : Rights → AccessKind → Option Denial) (ask : Ask) (rs : List ReadRow) → Follows (task_of deny ask) (start_of deny ask) rs → length rs ≤ walk_reads

-- readings that follow the walk of a partition's tree are at most 5
abbrev pub PartitionWalkIsShort : Type 0
PartitionWalkIsShort = (ptcr lpid gra : ℕ) (rs : List ReadRow) → PartFollows lpid gra (part_start ptcr lpid) rs → length rs ≤ 5

-- two walks of an ask that use the same answers, at one moment over the same words, have the same items and the same outcome
abbrev pub ResumedWalkIsOne : Type 0
ResumedWalkIsOne = (word : ℕ → Option ℕ) (moment : ℕ) (known : KeptAnswers) (ask : Ask) (xs ys : List TrailItem) (o p : NestResult) → Resumed word moment known ask xs o → Resumed word moment known ask ys p → (xs ≡ ys) × (o ≡ p)

-- the readings of a walk that uses what is kept, old and new, are a walk of the ask
abbrev pub ResumedWalkIsWalk : Type 0
ResumedWalkIsWalk = (word : ℕ → Option ℕ) (moment : ℕ) (known : KeptAnswers) (ask : Ask) (items : List TrailItem) (out : NestResult) → Resumed word moment known ask items out → Walk (first_denial ask) word ask (readings known.reads items) out

-- where nothing is kept, the items of a walk that uses what is kept are all new, and they are the readings of the fresh walk
abbrev pub NothingKeptIsFresh : Type 0
NothingKeptIsFresh = (word : ℕ → Option ℕ) (moment : ℕ) (known : KeptAnswers) (ask : Ask) (items : List TrailItem) (out : NestResult) → KnowsNothing known → Resumed word moment known ask items out ↔ ((items ≡ map New (new_rows items)) × Fresh word moment ask (new_rows items) out)

-- a walk that may use what is kept, and used nothing of it, is the fresh walk
abbrev pub NothingUsedIsFresh : Type 0
NothingUsedIsFresh = (word : ℕ → Option ℕ) (moment : ℕ) (known : KeptAnswers) (ask : Ask) (rs : List ReadRow) (out : NestResult) → Resumed word moment known ask (map New rs) out → Fresh word moment ask rs out

-- Readings that follow the walk of a partition's tree also follow each walk that enters the tree for some goal, and lead it
-- to where it stands inside.
abbrev pub PartitionWalkIsInside : Type 0
PartitionWalkIsInside = (k : Task) (goal : Goal) (gra : ℕ) (rs : List ReadRow) → PartFollows k.lpid gra (part_start k.ask.ptcr k.lpid) rs → Follows k (enter k goal gra) rs × (stage_after k (enter k goal gra) rs ≡ inside k goal gra (part_after k.lpid gra (part_start k.ask.ptcr k.lpid) rs))

-- readings begin with those of a partition's walk from where it stands, and if there are later ones it has ended
pub record BeginsWithPart (lpid gra : ℕ) (s : PartStage) (rs : List ReadRow) : Type 0 where
  pub part : List ReadRow
  pub later : List ReadRow
  pub parts : rs ≡ part ++ later
  pub follows : PartFollows lpid gra s part
  pub ended : (later ≡ []) ⊎ ((out : PartResult) × (part_after lpid gra s part ≡ Ended out))

-- readings that follow a walk that enters a partition's tree begin with a walk of that tree
abbrev pub EnteredWalkBeginsWithPart : Type 0
EnteredWalkBeginsWithPart = (k : Task) (goal : Goal) (gra : ℕ) (rs : List ReadRow) → Follows k (enter k goal gra) rs → BeginsWithPart k.lpid gra (part_start k.ask.ptcr k.lpid) rs
