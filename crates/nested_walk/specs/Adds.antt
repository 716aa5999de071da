-- What a walk takes in place of reading, and what it adds to a trail.
use Rattle.std.specs.Prelude.{◌≡◌, ℕ, ◌≤◌, List, [], ◌++◌, length, map, Option, Some, slice_get}
use Rattle.journal_core.specs.declared.rows.ReadRow.{ReadRow}
use Rattle.journal_core.specs.declared.rows.FillRow.{FillRow}
use Rattle.journal_core.specs.declared.asks.Ask.{Ask}
use Rattle.journal_core.specs.declared.walks.NestResult.{NestResult}
use Rattle.journal_core.specs.declared.walks.Stage.{Stage}
use Rattle.journal_core.specs.declared.walks.TrailItem.{TrailItem}
use Rattle.journal_core.specs.declared.walks.TrailItem.TheVariants.{Old, New}
use Rattle.journal_core.specs.Rows.{Rows}
use Rattle.journal_core.specs.Walk.{Task}
use Rattle.journal_core.specs.Following.{Fresh}
use Rattle.journal_core.specs.Standing.{fill_reads}
use Rattle.journal_core.specs.Resumed.{KeptAnswers, due, ResumesFrom}
use Rattle.journal_core.specs.Takes.{Replays}
use Rattle.journal_core.specs.WalkLeft.{reads_left}

pub record CanReplay (reads : List ReadRow) (k : Task) (s : Stage) (is : List ℕ) : Type 0 where
  pub last : Stage
  pub replays : Replays reads k s is last

-- fill i is there, and a walk that stands here may take its readings
pub record CanTake (rows : Rows) (k : Task) (s : Stage) (i : ℕ) : Type 0 where
  pub fill : FillRow
  pub is : slice_get rows.fills i ≡ Some fill
  pub few : fill.count ≤ 36
  pub replays : CanReplay rows.reads k s (fill_reads fill)

-- a walk takes the readings of these numbers
pub record TakesNumbers (reads : List ReadRow) (k : Task) (s last : Stage) (is : List ℕ) (before after : List TrailItem) : Type 0 where
  pub appended : after ≡ before ++ map Old is
  pub replays : Replays reads k s is last

-- a walk takes what is due where it stands, and then nothing is due
pub record Takes (a : KeptAnswers) (k : Task) (s last : Stage) (before after : List TrailItem) : Type 0 where
  pub is : List ℕ
  pub due_is : due a k s [] ≡ is
  pub takes : TakesNumbers a.reads k s last is before after
  pub none : due a k last [] ≡ []

-- the trail is what it was, followed by a walk from a stage on that uses what is kept
pub record AddsWalk (word : ℕ → Option ℕ) (moment : ℕ) (a : KeptAnswers) (k : Task) (s : Stage) (before after : List TrailItem) (out : NestResult) : Type 0 where
  pub items : List TrailItem
  pub appended : after ≡ before ++ items
  pub walk : ResumesFrom word moment a k s [] items out
  pub few : length items ≤ reads_left s

-- a trail has exactly the readings of the fresh walk of an ask
pub record IsFreshTrail (word : ℕ → Option ℕ) (moment : ℕ) (ask : Ask) (items : List TrailItem) (out : NestResult) : Type 0 where
  pub rs : List ReadRow
  pub items_are : items ≡ map New rs
  pub fresh : Fresh word moment ask rs out
