-- How many readings a walk can still make.
use Rattle.std.specs.Prelude.{ℕ, ◌+◌, ◌-◌, ◌*◌}
use Rattle.journal_core.specs.declared.walks.Goal.{Goal}
use Rattle.journal_core.specs.declared.walks.Goal.TheVariants.{ForEntry, ForTable, ForResult, ForGuest}
use Rattle.journal_core.specs.declared.walks.PartStage.{PartStage}
use Rattle.journal_core.specs.declared.walks.PartStage.TheVariants.{Entry, Tree, Ended}
use Rattle.journal_core.specs.declared.walks.Stage.{Stage}
use Rattle.journal_core.specs.declared.walks.Stage.TheVariants.{SecondWord, PartEntry, PartTable, ProcessEntry, ProcessTable, Over}

-- how many readings a partition's walk can still make
abbrev pub part_left : PartStage → ℕ
part_left (Entry at) = 5
part_left (Tree n) = 1 + (4 - n.level)
part_left (Ended out) = 0

-- how many readings a walk can still make after a partition's walk
abbrev pub left_for : Goal → ℕ
left_for ForEntry = 30
left_for (ForTable n) = 6 + 6 * (4 - n.level)
left_for ForResult = 0
left_for ForGuest = 0

-- how many readings a walk can still make
abbrev pub reads_left : Stage → ℕ
reads_left (SecondWord at) = 36
reads_left (PartEntry goal gra at) = 5 + left_for goal
reads_left (PartTable goal gra n) = 1 + (4 - n.level) + left_for goal
reads_left (ProcessEntry at) = 30
reads_left (ProcessTable n at) = 6 + 6 * (4 - n.level)
reads_left (Over out) = 0
