-- There is a fresh walk from each stage.
use Rattle.std.proofs.Common.{◌≡◌, ℕ, zero, suc, ◌<◌, ◌≤◌, List, [], ◌∷◌, arith, refl, Option, Some, None}
use Rattle.journal_core.specs.declared.rows.ReadRow.{ReadRow}
use Rattle.journal_core.specs.declared.rows.StopName.TheVariants.{NoStorage}
use Rattle.journal_core.specs.declared.asks.Ask.{Ask}
use Rattle.journal_core.specs.declared.walks.NestResult.{NestResult}
use Rattle.journal_core.specs.declared.walks.NestResult.TheVariants.{Stop}
use Rattle.journal_core.specs.declared.walks.Stage.{Stage}
use Rattle.journal_core.specs.declared.walks.Stage.TheVariants.{SecondWord, PartEntry, PartTable, ProcessEntry, ProcessTable, Over}
use Rattle.journal_core.specs.Rights.{first_denial}
use Rattle.journal_core.specs.Walk.{Task, next, task_of, start_of}
use Rattle.journal_core.specs.Following.{IsRead, EndsAt, IsNew, sought_at, Fresh, FreshFrom}
use Rattle.journal_core.specs.WalkPlaces.{read_at, row_at}
use Rattle.walk_laws.proofs.WalkBounds.{reads_left, next-left}

-- a walk that stands here is not over
abbrev pub IsOpen : Stage → Type 0
IsOpen (SecondWord at) = Unit {0}
IsOpen (PartEntry goal gra at) = Unit {0}
IsOpen (PartTable goal gra n) = Unit {0}
IsOpen (ProcessEntry at) = Unit {0}
IsOpen (ProcessTable n at) = Unit {0}
IsOpen (Over o) = ⊥

pub row-reads : (k : Task) (moment : ℕ) (s : Stage) (v : ℕ) → IsOpen s → IsRead k s (row_at k moment s v)
row-reads k moment (SecondWord at) v h = record { same_role = refl; same_lpid = refl; same_pid = refl; same_level = refl; same_left = refl; same_at = refl }
row-reads k moment (PartEntry goal gra at) v h = record { same_role = refl; same_lpid = refl; same_pid = refl; same_sought = refl; same_level = refl; same_left = refl; same_at = refl }
row-reads k moment (PartTable goal gra n) v h = record { same_role = refl; same_lpid = refl; same_pid = refl; same_sought = refl; same_level = refl; same_left = refl; same_at = refl }
row-reads k moment (ProcessEntry at) v h = record { same_role = refl; same_lpid = refl; same_pid = refl; same_sought = refl; same_level = refl; same_left = refl; same_at = refl }
row-reads k moment (ProcessTable n at) v h = record { same_role = refl; same_lpid = refl; same_pid = refl; same_sought = refl; same_level = refl; same_left = refl; same_at = refl }
row-reads k moment (Over o) v h = absurd h

pub row-new : (word : ℕ → Option ℕ) (k : Task) (moment : ℕ) (s : Stage) (v : ℕ) → IsOpen s → word (read_at s) ≡ Some v → IsNew word moment (sought_at k s) (row_at k moment s v)
row-new word k moment (SecondWord at) v h is = record { stands = is; same_moment = refl; same_sought = refl }
row-new word k moment (PartEntry goal gra at) v h is = record { stands = is; same_moment = refl; same_sought = refl }
row-new word k moment (PartTable goal gra n) v h is = record { stands = is; same_moment = refl; same_sought = refl }
row-new word k moment (ProcessEntry at) v h is = record { stands = is; same_moment = refl; same_sought = refl }
row-new word k moment (ProcessTable n at) v h is = record { stands = is; same_moment = refl; same_sought = refl }
row-new word k moment (Over o) v h is = absurd h

pub row-value : (k : Task) (moment : ℕ) (s : Stage) (v : ℕ) → (row_at k moment s v).value ≡ v
row-value k moment (SecondWord at) v = refl
row-value k moment (PartEntry goal gra at) v = refl
row-value k moment (PartTable goal gra n) v = refl
row-value k moment (ProcessEntry at) v = refl
row-value k moment (ProcessTable n at) v = refl
row-value k moment (Over o) v = refl

pub ends-gap : (word : ℕ → Option ℕ) (s : Stage) → IsOpen s → word (read_at s) ≡ None → EndsAt word s (Stop NoStorage (read_at s))
ends-gap word (SecondWord at) h is = (is, refl)
ends-gap word (PartEntry goal gra at) h is = (is, refl)
ends-gap word (PartTable goal gra n) h is = (is, refl)
ends-gap word (ProcessEntry at) h is = (is, refl)
ends-gap word (ProcessTable n at) h is = (is, refl)
ends-gap word (Over o) h is = absurd h

-- each value leaves fewer readings
pub next-fewer : (k : Task) (s : Stage) (v : ℕ) → IsOpen s → reads_left (next k s v) < reads_left s
next-fewer k s v h = rw (row-value k 0 s v) at (next-left k s (row_at k 0 s v) (row-reads k 0 s v h))

-- a walk that is not over has a reading left
pub open-left : (s : Stage) → IsOpen s → 0 < reads_left s
open-left (SecondWord at) h = omega arith
open-left (PartEntry goal gra at) h = omega arith
open-left (PartTable goal gra n) h = omega arith
open-left (ProcessEntry at) h = omega arith
open-left (ProcessTable n at) h = omega arith
open-left (Over o) h = absurd h

-- there is a fresh walk
pub record HasFreshWalk (word : ℕ → Option ℕ) (moment : ℕ) (k : Task) (s : Stage) : Type 0 where
  pub rs : List ReadRow
  pub out : NestResult
  pub fresh : FreshFrom word moment k s rs out

has-over : (word : ℕ → Option ℕ) (moment : ℕ) (k : Task) (s : Stage) (out : NestResult) → EndsAt word s out → HasFreshWalk word moment k s
has-over word moment k s out h = record { rs = []; out = out; fresh = record { walk = record { follows = tt; ends = h }; new = tt } }

has-more : (word : ℕ → Option ℕ) (moment : ℕ) (k : Task) (s : Stage) (r : ReadRow) → IsRead k s r → IsNew word moment (sought_at k s) r → HasFreshWalk word moment k (next k s r.value) → HasFreshWalk word moment k s
has-more word moment k s r reads new rest = record { rs = r ∷ rest.rs; out = rest.out; fresh = record { walk = record { follows = (reads, rest.fresh.walk.follows); ends = rest.fresh.walk.ends }; new = (new, rest.fresh.new) } }

-- the word that is read next is there or it is not
has-either : (word : ℕ → Option ℕ) (moment : ℕ) (k : Task) (s : Stage) (w : Option ℕ) → IsOpen s → word (read_at s) ≡ w → ((v : ℕ) → HasFreshWalk word moment k (next k s v)) → HasFreshWalk word moment k s
has-either word moment k s None h is rest = has-over word moment k s (Stop NoStorage (read_at s)) (ends-gap word s h is)
has-either word moment k s (Some v) h is rest = has-more word moment k s (row_at k moment s v) (row-reads k moment s v h) (row-new word k moment s v h is) (rest ((row_at k moment s v).value))

-- a walk is over, or it is not
has-open : (word : ℕ → Option ℕ) (moment : ℕ) (k : Task) (s : Stage) → (IsOpen s → HasFreshWalk word moment k s) → HasFreshWalk word moment k s
has-open word moment k (SecondWord at) h = h tt
has-open word moment k (PartEntry goal gra at) h = h tt
has-open word moment k (PartTable goal gra n) h = h tt
has-open word moment k (ProcessEntry at) h = h tt
has-open word moment k (ProcessTable n at) h = h tt
has-open word moment k (Over o) h = has-over word moment k (Over o) o refl

none_left : {X : Type 0} (s : Stage) → IsOpen s → reads_left s ≤ 0 → X
none_left s h few = (let no : ⊥ = omega (arith, few, open-left s h) in absurd no)

fresh-from : (most : ℕ) (word : ℕ → Option ℕ) (moment : ℕ) (k : Task) (s : Stage) → reads_left s ≤ most → HasFreshWalk word moment k s
fresh-from zero word moment k s few = has-open word moment k s (λ h. none_left s h few)
fresh-from (suc most) word moment k s few = has-open word moment k s (λ h. has-either word moment k s (word (read_at s)) h refl (λ v. fresh-from most word moment k (next k s v) (omega (arith, few, next-fewer k s v h))))

-- there is a fresh walk from each stage
pub fresh-exists : (word : ℕ → Option ℕ) (moment : ℕ) (k : Task) (s : Stage) → HasFreshWalk word moment k s
fresh-exists word moment k s = fresh-from (reads_left s) word moment k s (omega arith)

pub ask-fresh-exists : (word : ℕ → Option ℕ) (moment : ℕ) (ask : Ask) → (rs : List ReadRow) × (out : NestResult) × Fresh word moment ask rs out
ask-fresh-exists word moment ask =
    let h : HasFreshWalk word moment (task_of (first_denial ask) ask) (start_of (first_denial ask) ask) = fresh-exists word moment (task_of (first_denial ask) ask) (start_of (first_denial ask) ask) in
    (h.rs, h.out, h.fresh)
