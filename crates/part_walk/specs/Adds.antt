-- What a partition's walk adds to a trail.
use Rattle.std.specs.Prelude.{◌≡◌, ℕ, ◌≤◌, Bool, true, false, List, [], ◌∷◌, ◌++◌, length, map, Option, Some, slice_get}
use Rattle.journal_core.specs.declared.rows.ReadRow.{ReadRow}
use Rattle.journal_core.specs.declared.rows.FillRow.{FillRow}
use Rattle.journal_core.specs.declared.walks.PartResult.{PartResult}
use Rattle.journal_core.specs.declared.walks.PartStage.{PartStage}
use Rattle.journal_core.specs.declared.walks.TrailItem.{TrailItem}
use Rattle.journal_core.specs.declared.walks.TrailItem.TheVariants.{Old, New}
use Rattle.journal_core.specs.Rows.{Rows}
use Rattle.journal_core.specs.PartitionWalk.{part_start, part_next, part_after, PartFollows, IsPartRead}
use Rattle.journal_core.specs.Standing.{AreRows, fill_reads}
use Rattle.journal_core.specs.Resumed.{KeptAnswers, numbers_of}
use Rattle.journal_core.specs.Following.{FreshPartitionWalk}
use Rattle.journal_core.specs.PartResumed.{kept_for, PartFreshFrom, PartResumed}

-- an item is a reading that was kept
abbrev pub is_old : TrailItem → Bool
is_old (Old i) = true
is_old (New r) = false

-- a walk that takes the readings of these numbers from one stage on stands at another
abbrev pub PartReplays : List ReadRow → ℕ → ℕ → PartStage → List ℕ → PartStage → Type 0
PartReplays reads lpid gra s [] last = last ≡ s
PartReplays reads lpid gra s (i ∷ is) last = (r : ReadRow) × (slice_get reads i ≡ Some r) × IsPartRead lpid gra s r × PartReplays reads lpid gra (part_next lpid gra s r.value) is last

pub record CanReplay (reads : List ReadRow) (lpid gra : ℕ) (s : PartStage) (is : List ℕ) : Type 0 where
  pub last : PartStage
  pub replays : PartReplays reads lpid gra s is last

-- fill i is there, and a walk that begins here may take its readings
pub record CanTake (rows : Rows) (ptcr lpid gra i : ℕ) : Type 0 where
  pub fill : FillRow
  pub is : slice_get rows.fills i ≡ Some fill
  pub few : fill.count ≤ 36
  pub short : length (fill_reads fill) ≤ 5
  pub replays : CanReplay rows.reads lpid gra (part_start ptcr lpid) (fill_reads fill)

-- a walk takes the readings of fill i from its beginning
pub record TakesFill (rows : Rows) (ptcr lpid gra i : ℕ) (last : PartStage) (before after : List TrailItem) : Type 0 where
  pub appended : after ≡ before ++ map Old (numbers_of rows.fills (Some i))
  pub replays : PartReplays rows.reads lpid gra (part_start ptcr lpid) (numbers_of rows.fills (Some i)) last

-- a walk took what is kept for it, and stands here
pub record PartBegins (a : KeptAnswers) (ptcr lpid gra : ℕ) (last : PartStage) (before after : List TrailItem) : Type 0 where
  pub appended : after ≡ before ++ map Old (kept_for a lpid gra)
  pub taken : List ReadRow
  pub named : AreRows a.reads (kept_for a lpid gra) taken
  pub follows : PartFollows lpid gra (part_start ptcr lpid) taken
  pub leads : last ≡ part_after lpid gra (part_start ptcr lpid) taken

-- the trail is what it was, followed by the rest of a walk from a stage on, read now
pub record AddsFresh (word : ℕ → Option ℕ) (moment lpid gra : ℕ) (s : PartStage) (before after : List TrailItem) (out : PartResult) : Type 0 where
  pub rs : List ReadRow
  pub appended : after ≡ before ++ map New rs
  pub fresh : PartFreshFrom word moment lpid gra s rs out

-- the trail is what it was, followed by a walk that begins with what is kept
pub record AddsPart (word : ℕ → Option ℕ) (moment : ℕ) (a : KeptAnswers) (ptcr lpid gra : ℕ) (before after : List TrailItem) (out : PartResult) : Type 0 where
  pub items : List TrailItem
  pub appended : after ≡ before ++ items
  pub resumed : PartResumed word moment a ptcr lpid gra items out

-- the trail is what it was, followed by the fresh walk
pub record AddsFreshWalk (word : ℕ → Option ℕ) (moment ptcr lpid gra : ℕ) (before after : List TrailItem) (out : PartResult) : Type 0 where
  pub rs : List ReadRow
  pub appended : after ≡ before ++ map New rs
  pub fresh : FreshPartitionWalk word moment ptcr lpid gra rs out
