-- In which ranges the numbers of a walk lie.
use Rattle.std.specs.Prelude.{◌≡◌, ℕ, ◌^◌, ◌<◌}
use Rattle.journal_core.specs.declared.asks.Place.{Place}
use Rattle.journal_core.specs.declared.asks.Place.TheVariants.{Real}
use Rattle.journal_core.specs.declared.causes.Cause.{Cause}
use Rattle.journal_core.specs.declared.causes.Cause.TheVariants.{DataStorage, DataSegment, InstStorage, InstSegment, Alignment, Program, Decrementer, HypDecrementer, SystemCall, HypDataStorage, HypInstStorage, HypAssist, HypDoorbell}
use Rattle.journal_core.specs.declared.walks.Goal.{Goal}
use Rattle.journal_core.specs.declared.walks.Goal.TheVariants.{ForEntry, ForTable, ForResult, ForGuest}
use Rattle.journal_core.specs.declared.walks.NestResult.{NestResult}
use Rattle.journal_core.specs.declared.walks.NestResult.TheVariants.{Page, Fault, Stop}
use Rattle.journal_core.specs.declared.walks.Stage.{Stage}
use Rattle.journal_core.specs.declared.walks.Stage.TheVariants.{SecondWord, PartEntry, PartTable, ProcessEntry, ProcessTable, Over}
use Rattle.part_walk.specs.Ranges.{IsTable}

abbrev pub IsGoal : Goal → Type 0
IsGoal ForEntry = Unit {0}
IsGoal (ForTable n) = IsTable n
IsGoal ForResult = Unit {0}
IsGoal ForGuest = Unit {0}

-- a doubleword and a word
abbrev pub IsDoubleword : ℕ → Type 0
IsDoubleword n = n < 2 ^ 64

abbrev pub IsWord : ℕ → Type 0
IsWord n = n < 2 ^ 32

-- the numbers of a storage interrupt fit their registers
abbrev pub IsSmallCause : Cause → Type 0
IsSmallCause (DataStorage dar dsisr) = IsDoubleword dar × IsWord dsisr
IsSmallCause (DataSegment dar) = IsDoubleword dar
IsSmallCause (InstStorage why) = IsWord why
IsSmallCause InstSegment = Unit {0}
IsSmallCause (HypDataStorage hdar hdsisr asdr) = IsDoubleword hdar × IsWord hdsisr × IsDoubleword asdr
IsSmallCause (HypInstStorage why asdr) = IsWord why × IsDoubleword asdr
IsSmallCause (Alignment dar) = ⊥
IsSmallCause (Program why) = ⊥
IsSmallCause Decrementer = ⊥
IsSmallCause HypDecrementer = ⊥
IsSmallCause (SystemCall lev) = ⊥
IsSmallCause (HypAssist heir) = ⊥
IsSmallCause HypDoorbell = ⊥

-- a real address is below 2 ^ 57, and a storage interrupt's numbers fit their registers
abbrev pub IsSmallOutcome : NestResult → Type 0
IsSmallOutcome (Page real) = real < 2 ^ 57
IsSmallOutcome (Fault cause) = IsSmallCause cause
IsSmallOutcome (Stop name value) = IsDoubleword value

-- a walk stands here with numbers in their ranges
abbrev pub IsInRange : Stage → Type 0
IsInRange (SecondWord at) = at < 2 ^ 62
IsInRange (PartEntry goal gra at) = IsGoal goal × (at < 2 ^ 61)
IsInRange (PartTable goal gra n) = IsGoal goal × IsTable n
IsInRange (ProcessEntry at) = Unit {0}
IsInRange (ProcessTable n at) = IsTable n
IsInRange (Over out) = IsSmallOutcome out

-- a place whose addresses are translated
abbrev pub IsTranslatedPlace : Place → Type 0
IsTranslatedPlace place = (a : ℕ) → place ≡ Real a → ⊥
