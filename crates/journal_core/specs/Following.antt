-- Walks of asks, as relations on finished lists of readings: which readings follow a walk, which are true, and which are
-- new.
use Rattle.std.specs.Prelude.{◌≡◌, ℕ, ◌-◌, List, [], ◌∷◌, Option, Some, None, if◌then◌else◌}
use Rattle.journal_core.specs.declared.rows.Role.{Role}
use Rattle.journal_core.specs.declared.rows.Role.TheVariants.{Pate, Prte, ProcessDir, ProcessLeaf}
use Rattle.journal_core.specs.declared.rows.ReadRow.{ReadRow}
use Rattle.journal_core.specs.declared.rows.StopName.TheVariants.{NoStorage}
use Rattle.journal_core.specs.declared.asks.AccessKind.{AccessKind}
use Rattle.journal_core.specs.declared.asks.Rights.{Rights}
use Rattle.journal_core.specs.declared.asks.Denial.{Denial}
use Rattle.journal_core.specs.declared.asks.Ask.{Ask}
use Rattle.std.specs.List.{AllByRecursion}
use Rattle.journal_core.specs.declared.walks.PartResult.{PartResult}
use Rattle.journal_core.specs.declared.walks.Node.{Node}
use Rattle.journal_core.specs.declared.walks.NestResult.{NestResult}
use Rattle.journal_core.specs.declared.walks.NestResult.TheVariants.{Stop}
use Rattle.journal_core.specs.declared.walks.Stage.{Stage}
use Rattle.journal_core.specs.declared.walks.Stage.TheVariants.{SecondWord, PartEntry, PartTable, ProcessEntry, ProcessTable, Over}
use Rattle.journal_core.specs.PartitionWalk.{IsEntryRead, IsTreeRead, SameOver, root_bits, is_leaf, entry_at, PartitionWalk}
use Rattle.journal_core.specs.Rights.{first_denial}
use Rattle.journal_core.specs.Walk.{Task, next, stage_after, task_of, start_of}

-- a reading of the second doubleword of a partition's entry; what it sought is not compared
pub record IsSecondRead (k : Task) (at : ℕ) (r : ReadRow) : Type 0 where
  pub same_role : r.role ≡ Pate
  pub same_lpid : r.lpid ≡ k.lpid
  pub same_pid : r.pid ≡ k.pid
  pub same_level : r.level ≡ 0
  pub same_left : r.left ≡ 0
  pub same_at : r.at ≡ at

-- a reading of a process's entry
pub record IsProcessEntryRead (k : Task) (at : ℕ) (r : ReadRow) : Type 0 where
  pub same_role : r.role ≡ Prte
  pub same_lpid : r.lpid ≡ k.lpid
  pub same_pid : r.pid ≡ k.pid
  pub same_sought : SameOver r.left r.sought k.address
  pub same_level : r.level ≡ 0
  pub same_left : r.left ≡ root_bits r.value
  pub same_at : r.at ≡ at

-- the role of an entry of a process's tree
abbrev pub process_role : ℕ → Role
process_role v = if is_leaf v then ProcessLeaf else ProcessDir

-- a reading of an entry of a process's tree
pub record IsProcessRead (k : Task) (n : Node) (at : ℕ) (r : ReadRow) : Type 0 where
  pub same_role : r.role ≡ process_role r.value
  pub same_lpid : r.lpid ≡ k.lpid
  pub same_pid : r.pid ≡ k.pid
  pub same_sought : SameOver r.left r.sought k.address
  pub same_level : r.level ≡ n.level
  pub same_left : r.left ≡ n.left - n.size
  pub same_at : r.at ≡ at

-- a reading that a walk may make where it stands
abbrev pub IsRead : Task → Stage → ReadRow → Type 0
IsRead k (SecondWord at) r = IsSecondRead k at r
IsRead k (PartEntry goal gra at) r = IsEntryRead k.lpid gra at r
IsRead k (PartTable goal gra n) r = IsTreeRead k.lpid gra n r
IsRead k (ProcessEntry at) r = IsProcessEntryRead k at r
IsRead k (ProcessTable n at) r = IsProcessRead k n at r
IsRead k (Over out) r = ⊥

-- each reading is one that the walk may make where it then stands
abbrev pub Follows : Task → Stage → List ReadRow → Type 0
Follows k s [] = Unit {0}
Follows k s (r ∷ rs) = IsRead k s r × Follows k (next k s r.value) rs

-- the word that is to be read next is not in storage
abbrev pub IsGap : (ℕ → Option ℕ) → ℕ → NestResult → Type 0
IsGap word at out = (word at ≡ None) × (out ≡ Stop NoStorage at)

-- a walk that stands here is over with this outcome
abbrev pub EndsAt : (ℕ → Option ℕ) → Stage → NestResult → Type 0
EndsAt word (SecondWord at) out = IsGap word at out
EndsAt word (PartEntry goal gra at) out = IsGap word at out
EndsAt word (PartTable goal gra n) out = IsGap word (entry_at gra n) out
EndsAt word (ProcessEntry at) out = IsGap word at out
EndsAt word (ProcessTable n at) out = IsGap word at out
EndsAt word (Over o) out = out ≡ o

-- a finished walk from where it stands, over storage whose words are these; of them it matters only which are there
pub record WalksFrom (word : ℕ → Option ℕ) (k : Task) (s : Stage) (rs : List ReadRow) (out : NestResult) : Type 0 where
  pub follows : Follows k s rs
  pub ends : EndsAt word (stage_after k s rs) out

-- the walk of an ask that these readings follow, under given rights
abbrev pub Walk : (Rights → AccessKind → Option Denial) → (ℕ → Option ℕ) → Ask → List ReadRow → NestResult → Type 0
Walk deny word ask rs out = WalksFrom word (task_of deny ask) (start_of deny ask) rs out

-- a reading is true: its word stood so at its moment
abbrev pub IsTrueReading : (ℕ → ℕ → Option ℕ) → ReadRow → Type 0
IsTrueReading past r = past r.moment r.at ≡ Some r.value

-- the address that a reading made here seeks
abbrev pub sought_at : Task → Stage → ℕ
sought_at k (SecondWord at) = k.address
sought_at k (PartEntry goal gra at) = gra
sought_at k (PartTable goal gra n) = gra
sought_at k (ProcessEntry at) = k.address
sought_at k (ProcessTable n at) = k.address
sought_at k (Over out) = k.address

-- a reading made now, of storage as it stands, that carries the very address that is walked
pub record IsNew (word : ℕ → Option ℕ) (moment sought : ℕ) (r : ReadRow) : Type 0 where
  pub stands : word r.at ≡ Some r.value
  pub same_moment : r.moment ≡ moment
  pub same_sought : r.sought ≡ sought

-- all readings from here on are new
abbrev pub AreNew : (ℕ → Option ℕ) → ℕ → Task → Stage → List ReadRow → Type 0
AreNew word moment k s [] = Unit {0}
AreNew word moment k s (r ∷ rs) = IsNew word moment (sought_at k s) r × AreNew word moment k (next k s r.value) rs

-- the fresh walk from where it stands
pub record FreshFrom (word : ℕ → Option ℕ) (moment : ℕ) (k : Task) (s : Stage) (rs : List ReadRow) (out : NestResult) : Type 0 where
  pub walk : WalksFrom word k s rs out
  pub new : AreNew word moment k s rs

-- the fresh walk of an ask, over storage as it stands
abbrev pub Fresh : (ℕ → Option ℕ) → ℕ → Ask → List ReadRow → NestResult → Type 0
Fresh word moment ask rs out = FreshFrom word moment (task_of (first_denial ask) ask) (start_of (first_denial ask) ask) rs out

-- the fresh walk of a guest real address in a partition's tree: all its readings are new
pub record FreshPartitionWalk (word : ℕ → Option ℕ) (moment ptcr lpid gra : ℕ) (rs : List ReadRow) (out : PartResult) : Type 0 where
  pub walk : PartitionWalk word ptcr lpid gra rs out
  pub new : AllByRecursion (IsNew word moment gra) rs
