-- What kept readings serve: they begin the walk of each address of their key.
use Rattle.std.specs.Prelude.{◌≡◌, ℕ, ◌≤◌, List, Some, slice_get}
use Rattle.journal_core.specs.declared.rows.KeyKind.TheVariants.{ProcessDir, PartDir}
use Rattle.journal_core.specs.declared.rows.ReadRow.{ReadRow}
use Rattle.journal_core.specs.declared.rows.FillRow.{FillRow}
use Rattle.journal_core.specs.declared.asks.Ask.{Ask}
use Rattle.journal_core.specs.declared.asks.Place.TheVariants.{Space}
use Rattle.journal_core.specs.declared.walks.NestResult.{NestResult}
use Rattle.journal_core.specs.declared.walks.PartResult.TheVariants.{Leaf, Fault, Stop}
use Rattle.journal_core.specs.declared.walks.PartStage.{PartStage}
use Rattle.journal_core.specs.declared.walks.PartStage.TheVariants.{Entry, Tree, Ended}
use Rattle.journal_core.specs.declared.walks.Stage.{Stage}
use Rattle.journal_core.specs.declared.walks.Stage.TheVariants.{Over}
use Rattle.journal_core.specs.Room.{walk_reads}
use Rattle.journal_core.specs.Rows.{Rows, JournalView}
use Rattle.journal_core.specs.Places.{place_of}
use Rattle.journal_core.specs.PartitionWalk.{part_start, part_after, PartFollows}
use Rattle.journal_core.specs.Rights.{first_denial}
use Rattle.journal_core.specs.Walk.{stage_after, task_of, start_of}
use Rattle.journal_core.specs.Following.{Follows}
use Rattle.journal_core.specs.Standing.{AreRows, fill_reads}
use Rattle.journal_core.specs.Translating.{IsKeptDirectory, IsKeptPage}

-- a walk of a partition's tree has come into the tree, or to a leaf of it
abbrev pub IsInTree : PartStage → Type 0
IsInTree (Entry at) = ⊥
IsInTree (Tree n) = Unit {0}
IsInTree (Ended (Leaf page low att eaa r c)) = Unit {0}
IsInTree (Ended (Fault kind)) = ⊥
IsInTree (Ended (Stop name value)) = ⊥

-- a walk that stands here is not over
abbrev pub IsUnderWay : Stage → Type 0
IsUnderWay s = (out : NestResult) → s ≡ Over out → ⊥

-- the readings of fill i begin the walk of this guest real address, and lead into the tree or to a leaf
pub record BeginsPart (rows : Rows) (ptcr lpid gra i : ℕ) : Type 0 where
  pub fill : FillRow
  pub is : slice_get rows.fills i ≡ Some fill
  pub few : fill.count ≤ 5
  pub rs : List ReadRow
  pub named : AreRows rows.reads (fill_reads fill) rs
  pub follows : PartFollows lpid gra (part_start ptcr lpid) rs
  pub in_tree : IsInTree (part_after lpid gra (part_start ptcr lpid) rs)

-- the readings of fill i begin the walk of this ask, and do not end it
pub record BeginsProcess (rows : Rows) (ask : Ask) (i : ℕ) : Type 0 where
  pub fill : FillRow
  pub is : slice_get rows.fills i ≡ Some fill
  pub few : fill.count ≤ walk_reads
  pub rs : List ReadRow
  pub named : AreRows rows.reads (fill_reads fill) rs
  pub follows : Follows (task_of (first_denial ask) ask) (start_of (first_denial ask) ask) rs
  pub under_way : IsUnderWay (stage_after (task_of (first_denial ask) ask) (start_of (first_denial ask) ask) rs)

-- a kept directory of a partition's tree begins the walk of each guest real address of its key
abbrev pub KeptDirectoryBeginsPart : Type 0
KeptDirectoryBeginsPart = (j : JournalView) (t ptcr lpid gra i : ℕ) → IsKeptDirectory j t ptcr PartDir lpid 0 gra i → BeginsPart j.rows ptcr lpid gra i

-- so does a kept guest page
abbrev pub KeptPageBeginsPart : Type 0
KeptPageBeginsPart = (j : JournalView) (t ptcr lpid gra i : ℕ) → IsKeptPage j t ptcr lpid gra i → BeginsPart j.rows ptcr lpid gra i

-- a kept directory of a process's tree begins the walk of each ask of an address of its key, whatever its access and state
abbrev pub KeptDirectoryBeginsProcess : Type 0
KeptDirectoryBeginsProcess = (j : JournalView) (t lpid pid sought i : ℕ) (ask : Ask) → place_of ask ≡ Space lpid pid sought → IsKeptDirectory j t ask.ptcr ProcessDir lpid pid sought i → BeginsProcess j.rows ask i
