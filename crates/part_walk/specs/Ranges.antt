-- In which ranges the numbers of a partition's walk lie.
use Rattle.std.specs.Prelude.{◌≡◌, ◌+◌, ◌%◌, ◌^◌, ◌<◌, ◌≤◌}
use Rattle.journal_core.specs.declared.walks.Node.{Node}
use Rattle.journal_core.specs.declared.walks.PartResult.{PartResult}
use Rattle.journal_core.specs.declared.walks.PartResult.TheVariants.{Leaf, Fault, Stop}
use Rattle.journal_core.specs.declared.walks.PartStage.{PartStage}
use Rattle.journal_core.specs.declared.walks.PartStage.TheVariants.{Entry, Tree, Ended}

-- a table that is read
pub record IsTable (n : Node) : Type 0 where
  pub base_small : n.base < 2 ^ 60
  pub base_even : n.base % 2 ^ 8 ≡ 0
  pub size_from : 5 ≤ n.size
  pub size_to : n.size ≤ 16
  pub rest : n.size + 12 ≤ n.left
  pub left_to : n.left ≤ 52
  pub level_from : 1 ≤ n.level
  pub level_to : n.level ≤ 4

-- a leaf's page is a multiple of 4 KiB below 2 ^ 57, and has 4 KiB to 1 GiB
abbrev pub IsSmallResult : PartResult → Type 0
IsSmallResult (Leaf page low att eaa r c) = (page < 2 ^ 57) × (page % 2 ^ 12 ≡ 0) × (12 ≤ low) × (low ≤ 30)
IsSmallResult (Fault kind) = Unit {0}
IsSmallResult (Stop name value) = Unit {0}

-- a walk stands here with numbers in their ranges
abbrev pub IsInRange : PartStage → Type 0
IsInRange (Entry at) = at < 2 ^ 61
IsInRange (Tree n) = IsTable n
IsInRange (Ended out) = IsSmallResult out

-- so it does in a tree or at its end, and not before it
abbrev pub IsInRangeOfTree : PartStage → Type 0
IsInRangeOfTree (Entry at) = ⊥
IsInRangeOfTree (Tree n) = IsTable n
IsInRangeOfTree (Ended out) = IsSmallResult out
