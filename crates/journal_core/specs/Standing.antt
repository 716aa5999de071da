-- Which fills stand, and which of them answer.
use Rattle.std.specs.Prelude.{◌≡◌, ℕ, ◌+◌, ◌/◌, ◌%◌, ◌^◌, ◌<◌, ◌≤◌, List, [], ◌∷◌, take, drop, Option, Some, None, Bool, ◌&&◌, ◌==◌, slice_get, count_by}
use Rattle.std.specs.List.{AllByRecursion}
use Rattle.journal_core.specs.declared.rows.KeyKind.{KeyKind}
use Rattle.journal_core.specs.declared.rows.KeyKind.TheVariants.{Translation, GuestPage, ProcessDir, PartDir}
use Rattle.journal_core.specs.declared.rows.Key.{Key}
use Rattle.journal_core.specs.declared.rows.ReadRow.{ReadRow}
use Rattle.journal_core.specs.declared.rows.FillRow.{FillRow}
use Rattle.journal_core.specs.Room.{walk_reads}
use Rattle.journal_core.specs.Turns.{Turn}
use Rattle.journal_core.specs.Covers.{IsCurrent}

-- the kinds of directories
abbrev pub IsDirectoryKind : KeyKind → Type 0
IsDirectoryKind Translation = ⊥
IsDirectoryKind GuestPage = ⊥
IsDirectoryKind ProcessDir = Unit {0}
IsDirectoryKind PartDir = Unit {0}

-- the key of an address that leaves so many bits
abbrev pub key_of : KeyKind → ℕ → ℕ → ℕ → ℕ → Key
key_of kind lpid pid left address = record { kind = kind; lpid = lpid; pid = pid; left = left; page = address / 2 ^ left }

-- the numbers of a fill's readings, in the order of the walk
abbrev pub fill_reads : FillRow → List ℕ
fill_reads f = take f.count f.reads

-- these numbers name these read rows
abbrev pub AreRows : List ReadRow → List ℕ → List ReadRow → Type 0
AreRows reads [] [] = Unit {0}
AreRows reads [] (r ∷ rs) = ⊥
AreRows reads (i ∷ is) [] = ⊥
AreRows reads (i ∷ is) (r ∷ rs) = (slice_get reads i ≡ Some r) × AreRows reads is rs

-- a fill's numbers name read rows, none of them later than the fill
pub record IsNamed (reads : List ReadRow) (f : FillRow) : Type 0 where
  pub readings : List ReadRow
  pub named : AreRows reads (fill_reads f) readings
  pub made : AllByRecursion (λ (r : ReadRow). r.moment ≤ f.moment) readings

-- each fill's numbers do so
abbrev pub AreNamed : List ReadRow → List FillRow → Type 0
AreNamed reads fills = AllByRecursion (IsNamed reads) fills

-- each fill has at most as many readings as a walk
abbrev pub AreShort : List FillRow → Type 0
AreShort fills = AllByRecursion (λ (f : FillRow). f.count ≤ walk_reads) fills

abbrev pub kind_number : KeyKind → ℕ
kind_number Translation = 0
kind_number GuestPage = 1
kind_number ProcessDir = 2
kind_number PartDir = 3

-- of one thread, one kind and one of the sixteen sets, which is the page modulo 16
abbrev pub is_same_set : FillRow → FillRow → Bool
is_same_set f g = (f.thread == g.thread) && ((kind_number f.key.kind == kind_number g.key.kind) && (f.key.page % 16 == g.key.page % 16))

-- Fill i, which is f, stands in a turn before fill number c: it is the thread's, not below the floor and below c; no later one has
-- its key; fewer than four later ones fell into its set; and its readings are current.
pub record IsStanding (v : Turn) (c i : ℕ) (f : FillRow) : Type 0 where
  pub is : slice_get v.rows.fills i ≡ Some f
  pub of_thread : f.thread ≡ v.thread
  pub from_floor : v.floor ≤ i
  pub below : i < c
  pub last : (j : ℕ) → i < j → j < c → (g : FillRow) → slice_get v.rows.fills j ≡ Some g → g.thread ≡ v.thread → g.key ≡ f.key → ⊥
  pub few : count_by (is_same_set f) (drop (i + 1) (take c v.rows.fills)) < 4
  pub readings : List ReadRow
  pub named : AreRows v.rows.reads (fill_reads f) readings
  pub current : AllByRecursion (IsCurrent v.rows.dones v.thread v.step) readings

-- fill i stands and has this key
pub record IsStandingFill (v : Turn) (c : ℕ) (key : Key) (i : ℕ) : Type 0 where
  pub fill : FillRow
  pub standing : IsStanding v c i fill
  pub of_key : fill.key ≡ key

-- the standing fill of a key, or none
abbrev pub IsStandingKey : Turn → ℕ → Key → Option ℕ → Type 0
IsStandingKey v c key (Some i) = IsStandingFill v c key i
IsStandingKey v c key None = (j : ℕ) (g : FillRow) → IsStanding v c j g → g.key ≡ key → ⊥

-- the standing guest page of a guest real address, or none
abbrev pub IsStandingPage : Turn → ℕ → ℕ → ℕ → Option ℕ → Type 0
IsStandingPage v c lpid gra answer = IsStandingKey v c (key_of GuestPage lpid 0 12 gra) answer

-- a fill is of this kind, partition and process, and of the page in which an address lies
pub record IsFor (kind : KeyKind) (lpid pid sought : ℕ) (f : FillRow) : Type 0 where
  pub of_kind : f.key.kind ≡ kind
  pub of_lpid : f.key.lpid ≡ lpid
  pub of_pid : f.key.pid ≡ pid
  pub of_page : f.key.page ≡ sought / 2 ^ f.key.left

-- fill i stands for an address, and none that does leaves fewer bits
pub record IsDeepestFill (v : Turn) (c : ℕ) (kind : KeyKind) (lpid pid sought i : ℕ) : Type 0 where
  pub fill : FillRow
  pub standing : IsStanding v c i fill
  pub for_it : IsFor kind lpid pid sought fill
  pub least : (j : ℕ) (g : FillRow) → IsStanding v c j g → IsFor kind lpid pid sought g → fill.key.left ≤ g.key.left

-- of the standing directories for an address the one that leaves the fewest bits, or none
abbrev pub IsDeepest : Turn → ℕ → KeyKind → ℕ → ℕ → ℕ → Option ℕ → Type 0
IsDeepest v c kind lpid pid sought (Some i) = IsDeepestFill v c kind lpid pid sought i
IsDeepest v c kind lpid pid sought None = (j : ℕ) (g : FillRow) → IsStanding v c j g → IsFor kind lpid pid sought g → ⊥
