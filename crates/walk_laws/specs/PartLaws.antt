-- Laws of the walk of a guest real address that begins with what is kept.
use Rattle.std.specs.Prelude.{◌≡◌, ◌≤◌, ◌↔◌, ℕ, List, [], ◌++◌, length, map, Option}
use Rattle.journal_core.specs.declared.walks.NestResult.{NestResult}
use Rattle.journal_core.specs.declared.walks.PartResult.{PartResult}
use Rattle.journal_core.specs.declared.walks.PartStage.TheVariants.{Ended}
use Rattle.journal_core.specs.declared.walks.Goal.{Goal}
use Rattle.journal_core.specs.declared.walks.TrailItem.{TrailItem}
use Rattle.journal_core.specs.declared.walks.TrailItem.TheVariants.{New}
use Rattle.journal_core.specs.PartitionWalk.{PartitionWalk}
use Rattle.journal_core.specs.Walk.{Task, inside, enter}
use Rattle.journal_core.specs.Following.{FreshPartitionWalk}
use Rattle.journal_core.specs.Resumed.{KeptAnswers, KnowsNothing, ResumesFrom, readings}
use Rattle.journal_core.specs.Fills.{new_rows}
use Rattle.journal_core.specs.PartResumed.{PartResumed}

-- where nothing is kept, it is the fresh walk, and its items are all new
abbrev pub NothingKeptIsFreshPart : Type 0
NothingKeptIsFreshPart = (word : ℕ → Option ℕ) (moment : ℕ) (a : KeptAnswers) (ptcr lpid gra : ℕ) (items : List TrailItem) (out : PartResult) → KnowsNothing a →
    PartResumed word moment a ptcr lpid gra items out ↔ ((items ≡ map New (new_rows items)) × FreshPartitionWalk word moment ptcr lpid gra (new_rows items) out)

-- two of given answers, at one moment over the same words, have the same items and the same outcome
abbrev pub PartResumedIsOne : Type 0
PartResumedIsOne = (word : ℕ → Option ℕ) (moment : ℕ) (a : KeptAnswers) (ptcr lpid gra : ℕ) (xs ys : List TrailItem) (o p : PartResult) → PartResumed word moment a ptcr lpid gra xs o → PartResumed word moment a ptcr lpid gra ys p → (xs ≡ ys) × (o ≡ p)

-- its readings, old and new, are a walk of the address
abbrev pub PartResumedIsWalk : Type 0
PartResumedIsWalk = (word : ℕ → Option ℕ) (moment : ℕ) (a : KeptAnswers) (ptcr lpid gra : ℕ) (items : List TrailItem) (out : PartResult) → PartResumed word moment a ptcr lpid gra items out → PartitionWalk word ptcr lpid gra (readings a.reads items) out

-- it has at most five items
abbrev pub PartResumedIsShort : Type 0
PartResumedIsShort = (word : ℕ → Option ℕ) (moment : ℕ) (a : KeptAnswers) (ptcr lpid gra : ℕ) (items : List TrailItem) (out : PartResult) → PartResumed word moment a ptcr lpid gra items out → length items ≤ 5

-- in a walk that enters the tree for some goal, it stands for its part: the walk goes on from where its outcome leads
abbrev pub PartResumedIsInside : Type 0
PartResumedIsInside = (word : ℕ → Option ℕ) (moment : ℕ) (a : KeptAnswers) (k : Task) (goal : Goal) (gra : ℕ) (items later : List TrailItem) (out : PartResult) (o : NestResult) →
    PartResumed word moment a k.ask.ptcr k.lpid gra items out → ResumesFrom word moment a k (inside k goal gra (Ended out)) [] later o → ResumesFrom word moment a k (enter k goal gra) [] (items ++ later) o
