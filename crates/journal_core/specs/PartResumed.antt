-- The walk of a guest real address in a partition's tree that begins with what is kept.
use Rattle.std.specs.Prelude.{◌≡◌, ℕ, List, ◌++◌, map, Option}
use Rattle.std.specs.List.{AllByRecursion}
use Rattle.journal_core.specs.declared.rows.ReadRow.{ReadRow}
use Rattle.journal_core.specs.declared.rows.KeyKind.TheVariants.{PartDir}
use Rattle.journal_core.specs.declared.walks.PartResult.{PartResult}
use Rattle.journal_core.specs.declared.walks.PartStage.{PartStage}
use Rattle.journal_core.specs.declared.walks.TrailItem.{TrailItem}
use Rattle.journal_core.specs.declared.walks.TrailItem.TheVariants.{Old, New}
use Rattle.journal_core.specs.PartitionWalk.{part_start, part_after, PartFollows, PartEndsAt}
use Rattle.journal_core.specs.Following.{IsNew}
use Rattle.journal_core.specs.Standing.{AreRows}
use Rattle.journal_core.specs.Resumed.{KeptAnswers, kept_reads}

-- the numbers that are kept for a guest real address: those of its guest page, else of its directory
abbrev pub kept_for : KeptAnswers → ℕ → ℕ → List ℕ
kept_for a lpid gra = kept_reads a.fills (a.page lpid gra) (a.directory PartDir lpid 0 gra)

-- a finished walk from where it stands, all of it read now
pub record PartFreshFrom (word : ℕ → Option ℕ) (moment lpid gra : ℕ) (s : PartStage) (rs : List ReadRow) (out : PartResult) : Type 0 where
  pub follows : PartFollows lpid gra s rs
  pub new : AllByRecursion (IsNew word moment gra) rs
  pub ends : PartEndsAt word gra (part_after lpid gra s rs) out

-- a finished walk of a guest real address in a partition's tree, with this outcome: it takes what is kept, and reads the rest
-- now
pub record PartResumed (word : ℕ → Option ℕ) (moment : ℕ) (a : KeptAnswers) (ptcr lpid gra : ℕ) (items : List TrailItem) (out : PartResult) : Type 0 where
  pub taken : List ReadRow
  pub rs : List ReadRow
  pub items_are : items ≡ map Old (kept_for a lpid gra) ++ map New rs
  pub named : AreRows a.reads (kept_for a lpid gra) taken
  pub follows : PartFollows lpid gra (part_start ptcr lpid) taken
  pub rest : PartFreshFrom word moment lpid gra (part_after lpid gra (part_start ptcr lpid) taken) rs out
