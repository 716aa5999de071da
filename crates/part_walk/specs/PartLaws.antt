-- Laws of what a partition's walk that begins with what is kept adds to a trail.
use Rattle.std.specs.Prelude.{◌≡◌, ◌≤◌, ◌↔◌, ℕ, ◌+◌, List, length, Option}
use Rattle.journal_core.specs.declared.walks.PartResult.{PartResult}
use Rattle.journal_core.specs.declared.walks.TrailItem.{TrailItem}
use Rattle.journal_core.specs.PartitionWalk.{PartitionWalk}
use Rattle.journal_core.specs.Resumed.{KeptAnswers, KnowsNothing, readings}
use Rattle.part_walk.specs.Adds.{AddsPart, AddsFreshWalk}

-- where nothing is kept, it is the fresh walk
abbrev pub NothingKeptAddsFresh : Type 0
NothingKeptAddsFresh = (word : ℕ → Option ℕ) (moment : ℕ) (a : KeptAnswers) (ptcr lpid gra : ℕ) (before after : List TrailItem) (out : PartResult) → KnowsNothing a →
    AddsPart word moment a ptcr lpid gra before after out ↔ AddsFreshWalk word moment ptcr lpid gra before after out

-- two of given answers, at one moment over the same words and after the same items, have the same items and the same outcome
abbrev pub AddedPartIsOne : Type 0
AddedPartIsOne = (word : ℕ → Option ℕ) (moment : ℕ) (a : KeptAnswers) (ptcr lpid gra : ℕ) (before xs ys : List TrailItem) (o p : PartResult) → AddsPart word moment a ptcr lpid gra before xs o → AddsPart word moment a ptcr lpid gra before ys p → (xs ≡ ys) × (o ≡ p)

-- the readings of what it adds, old and new, are a walk of the address
abbrev pub AddedPartIsWalk : Type 0
AddedPartIsWalk = (word : ℕ → Option ℕ) (moment : ℕ) (a : KeptAnswers) (ptcr lpid gra : ℕ) (before after : List TrailItem) (out : PartResult) (h : AddsPart word moment a ptcr lpid gra before after out) → PartitionWalk word ptcr lpid gra (readings a.reads h.items) out

-- it adds at most five items
abbrev pub AddedPartIsShort : Type 0
AddedPartIsShort = (word : ℕ → Option ℕ) (moment : ℕ) (a : KeptAnswers) (ptcr lpid gra : ℕ) (before after : List TrailItem) (out : PartResult) → AddsPart word moment a ptcr lpid gra before after out → length after ≤ length before + 5
