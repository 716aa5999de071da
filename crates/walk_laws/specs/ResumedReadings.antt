-- The readings of a walk that resumes at what stands are current and true.
use Rattle.std.specs.Prelude.{ℕ, List, Option}
use Rattle.std.specs.List.{AllByRecursion}
use Rattle.journal_core.specs.declared.asks.Ask.{Ask}
use Rattle.journal_core.specs.declared.walks.NestResult.{NestResult}
use Rattle.journal_core.specs.declared.walks.TrailItem.{TrailItem}
use Rattle.journal_core.specs.Turns.{Turn}
use Rattle.journal_core.specs.Covers.{IsCurrent}
use Rattle.journal_core.specs.Following.{IsTrueReading}
use Rattle.journal_core.specs.Resumed.{KeptAnswers, KnowsStanding, Resumed, readings}

-- all its readings, old and new, are current when it is made
abbrev pub ResumedReadingsAreCurrent : Type 0
ResumedReadingsAreCurrent = (word : ℕ → Option ℕ) (v : Turn) (c : ℕ) (a : KeptAnswers) (ask : Ask) (items : List TrailItem) (out : NestResult) → KnowsStanding v c a → Resumed word v.step a ask items out → AllByRecursion (IsCurrent v.rows.dones v.thread v.step) (readings a.reads items)

-- they are true, if those of the journal are
abbrev pub ResumedReadingsAreTrue : Type 0
ResumedReadingsAreTrue = (past : ℕ → ℕ → Option ℕ) (n : ℕ) (a : KeptAnswers) (ask : Ask) (items : List TrailItem) (out : NestResult) → AllByRecursion (IsTrueReading past) a.reads → Resumed (past n) n a ask items out → AllByRecursion (IsTrueReading past) (readings a.reads items)
