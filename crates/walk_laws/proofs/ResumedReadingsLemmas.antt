-- What holds of all kept readings and of all new ones holds of those of a walk that resumes.
use Rattle.std.proofs.Common.{◌≡◌, ℕ, ◌<◌, List, [], ◌∷◌, ◌++◌, Option, Some, None, Bool, false, arith, ap, sym, ◌∙◌, subst, slice_get}
use Rattle.std.specs.Prelude.{option_to_list, nat_le, ◌&&◌}
use Rattle.std.specs.List.{AllByRecursion}
use Rattle.std.proofs.lemmas.Bool.Decides.{nat_tests}
use Rattle.journal_core.specs.declared.rows.ReadRow.{ReadRow}
use Rattle.journal_core.specs.declared.rows.FillRow.{FillRow}
use Rattle.journal_core.specs.declared.rows.DoneRow.{DoneRow}
use Rattle.journal_core.specs.declared.rows.KeyKind.{KeyKind}
use Rattle.journal_core.specs.declared.rows.KeyKind.TheVariants.{ProcessDir, PartDir}
use Rattle.journal_core.specs.declared.asks.Ask.{Ask}
use Rattle.journal_core.specs.declared.asks.Place.{Place}
use Rattle.journal_core.specs.declared.asks.Place.TheVariants.{Real, GuestReal, Space, Segment}
use Rattle.journal_core.specs.declared.walks.NestResult.{NestResult}
use Rattle.journal_core.specs.declared.walks.Stage.{Stage}
use Rattle.journal_core.specs.declared.walks.Stage.TheVariants.{SecondWord, PartEntry, PartTable, ProcessEntry, ProcessTable, Over}
use Rattle.journal_core.specs.declared.walks.TrailItem.{TrailItem}
use Rattle.journal_core.specs.declared.walks.TrailItem.TheVariants.{Old, New}
use Rattle.journal_core.specs.Places.{place_of}
use Rattle.journal_core.specs.Covers.{IsCurrent, ends_reading, reaches, done_covers}
use Rattle.journal_core.specs.Rights.{first_denial}
use Rattle.journal_core.specs.Walk.{Task, next, task_of, start_of}
use Rattle.journal_core.specs.Following.{IsNew, IsTrueReading, sought_at}
use Rattle.journal_core.specs.Turns.{Turn}
use Rattle.journal_core.specs.Standing.{AreRows, fill_reads, IsStanding, IsStandingPage, IsDeepest}
use Rattle.journal_core.specs.Resumed.{KeptAnswers, KnowsStanding, due, owed_at, kept_reads, numbers_of, numbers_in, ResumesFrom, Resumed, readings}
use Rattle.journal_core.specs.PartResumed.{kept_for}
use Rattle.journal_core.proofs.StandingStays.{all_get}

-- these numbers name rows of which it holds
record AreAll (P : ReadRow → Type 0) (reads : List ReadRow) (is : List ℕ) : Type 0 where
  rs : List ReadRow
  named : AreRows reads is rs
  all : AllByRecursion P rs

none_all : (P : ReadRow → Type 0) (reads : List ReadRow) → AreAll P reads []
none_all P reads = record { rs = []; named = tt; all = tt }

record FirstAll (P : ReadRow → Type 0) (reads : List ReadRow) (i : ℕ) (is : List ℕ) : Type 0 where
  row : ReadRow
  at : slice_get reads i ≡ Some row
  holds : P row
  rest : AreAll P reads is

first_all : (P : ReadRow → Type 0) (reads : List ReadRow) (i : ℕ) (is : List ℕ) (rs : List ReadRow) → AreRows reads (i ∷ is) rs → AllByRecursion P rs → FirstAll P reads i is
first_all P reads i is [] named all = absurd named
first_all P reads i is (r ∷ rs) named all = record { row = r; at = named.0; holds = all.0; rest = record { rs = rs; named = named.1; all = all.1 } }

same_row : (a b : ReadRow) → Some a ≡ Some b → a ≡ b
same_row a b e = cc

due_all : (P : ReadRow → Type 0) (a : KeptAnswers) (k : Task) (s : Stage) (owed : List ℕ) → ((lpid gra : ℕ) → AreAll P a.reads (kept_for a lpid gra)) → AreAll P a.reads owed → AreAll P a.reads (due a k s owed)
due_all P a k s (i ∷ is) kept h = h
due_all P a k (SecondWord at) [] kept h = h
due_all P a k (PartEntry goal gra at) [] kept h = kept k.lpid gra
due_all P a k (PartTable goal gra n) [] kept h = h
due_all P a k (ProcessEntry at) [] kept h = h
due_all P a k (ProcessTable n at) [] kept h = h
due_all P a k (Over o) [] kept h = h

all_readings : (P : ReadRow → Type 0) (word : ℕ → Option ℕ) (n : ℕ) (a : KeptAnswers) (k : Task) (s : Stage) (owed : List ℕ) (items : List TrailItem) (out : NestResult) → ((sought : ℕ) (r : ReadRow) → IsNew word n sought r → P r) → ((lpid gra : ℕ) → AreAll P a.reads (kept_for a lpid gra)) → AreAll P a.reads owed
    → ResumesFrom word n a k s owed items out → AllByRecursion P (readings a.reads items)
all_readings P word n a k s owed [] out new kept h walk = tt
all_readings P word n a k s owed (New r ∷ items) out new kept h walk = (new (sought_at k s) r walk.2, all_readings P word n a k (next k s r.value) [] items out new kept (none_all P a.reads) walk.3)
all_readings P word n a k s owed (Old i ∷ items) out new kept h walk =
    let d : AreAll P a.reads (due a k s owed) = due_all P a k s owed kept h in
    let f : FirstAll P a.reads i walk.0 = first_all P a.reads i walk.0 d.rs (subst (λ is. AreRows a.reads is d.rs) walk.2 d.named) d.all in
    let same : f.row ≡ walk.1 = same_row f.row walk.1 (sym f.at ∙ walk.3) in
    let later : AllByRecursion P (readings a.reads items) = all_readings P word n a k (next k s walk.1.value) walk.0 items out new kept f.rest walk.5 in
    subst (λ o. AllByRecursion P (option_to_list o ++ readings a.reads items)) (sym walk.3) (subst P same f.holds, later)

-- what is made now is current
pub new_current : (dones : List DoneRow) (t n : ℕ) (r : ReadRow) → r.moment ≡ n → IsCurrent dones t n r
unfolding ends_reading
new_current dones t n r now = record { made = omega (arith, now); kept = all_kept dones }
  where
    before : (m s : ℕ) (b : Bool) → s < m → (nat_le m s && b) ≡ false
    before m s b h = grind (arith, nat_tests)

    none : (d : DoneRow) → d.step < n → ends_reading t r d ≡ false
    none d h = before r.moment d.step (reaches d t && done_covers d.what r) (omega (arith, h, now))

    all_kept : (ds : List DoneRow) → AllByRecursion (λ d. (d.step < n) → ends_reading t r d ≡ false) ds
    all_kept [] = tt
    all_kept (d ∷ ds) = (none d, all_kept ds)

-- what holds of the readings of each standing fill holds of those of one
abbrev pub StandingAll : (ReadRow → Type 0) → Turn → ℕ → Type 0
StandingAll P v c = (i : ℕ) (f : FillRow) (h : IsStanding v c i f) → AllByRecursion P h.readings

standing_all : (P : ReadRow → Type 0) (v : Turn) (c i : ℕ) (f : FillRow) (reads : List ReadRow) (fills : List FillRow) → reads ≡ v.rows.reads → fills ≡ v.rows.fills → StandingAll P v c → IsStanding v c i f → AreAll P reads (numbers_of fills (Some i))
standing_all P v c i f reads fills same_reads same_fills on h =
    let numbers : numbers_of fills (Some i) ≡ fill_reads f = ap (λ fs. numbers_in (slice_get fs i)) same_fills ∙ ap numbers_in h.is in
    record { rs = h.readings; named = subst (λ is. AreRows reads is h.readings) (sym numbers) (subst (λ rs. AreRows rs (fill_reads f) h.readings) (sym same_reads) h.named); all = on i f h }

directory_all : (P : ReadRow → Type 0) (v : Turn) (c : ℕ) (a : KeptAnswers) (kind : KeyKind) (lpid pid sought : ℕ) (o : Option ℕ) → StandingAll P v c → KnowsStanding v c a → IsDeepest v c kind lpid pid sought o → AreAll P a.reads (numbers_of a.fills o)
directory_all P v c a kind lpid pid sought None on knows h = none_all P a.reads
directory_all P v c a kind lpid pid sought (Some i) on knows h = standing_all P v c i h.fill a.reads a.fills knows.reads knows.fills on h.standing

page_all : (P : ReadRow → Type 0) (v : Turn) (c : ℕ) (a : KeptAnswers) (lpid gra : ℕ) (o : Option ℕ) → StandingAll P v c → KnowsStanding v c a → IsStandingPage v c lpid gra o → AreAll P a.reads (kept_reads a.fills o (a.directory PartDir lpid 0 gra))
page_all P v c a lpid gra (Some i) on knows h = standing_all P v c i h.fill a.reads a.fills knows.reads knows.fills on h.standing
page_all P v c a lpid gra None on knows h = directory_all P v c a PartDir lpid 0 gra (a.directory PartDir lpid 0 gra) on knows (knows.directories PartDir lpid 0 gra tt)

owed_all : (P : ReadRow → Type 0) (v : Turn) (c : ℕ) (a : KeptAnswers) (p : Place) → StandingAll P v c → KnowsStanding v c a → AreAll P a.reads (owed_at a p)
owed_all P v c a (Real x) on knows = none_all P a.reads
owed_all P v c a (GuestReal lpid x) on knows = none_all P a.reads
owed_all P v c a (Space lpid pid x) on knows = directory_all P v c a ProcessDir lpid pid x (a.directory ProcessDir lpid pid x) on knows (knows.directories ProcessDir lpid pid x tt)
owed_all P v c a Segment on knows = none_all P a.reads

-- what holds of the readings of each standing fill, and of each new one, holds of those of a walk that uses what stands
pub resumed_all : (P : ReadRow → Type 0) (word : ℕ → Option ℕ) (v : Turn) (c : ℕ) (a : KeptAnswers) (ask : Ask) (items : List TrailItem) (out : NestResult) → StandingAll P v c → ((sought : ℕ) (r : ReadRow) → IsNew word v.step sought r → P r) → KnowsStanding v c a → Resumed word v.step a ask items out →
    AllByRecursion P (readings a.reads items)
resumed_all P word v c a ask items out on new knows h =
    all_readings P word v.step a (task_of (first_denial ask) ask) (start_of (first_denial ask) ask) (owed_at a (place_of ask)) items out new
    (λ lpid gra. page_all P v c a lpid gra (a.page lpid gra) on knows (knows.pages lpid gra)) (owed_all P v c a (place_of ask) on knows) h

pub resumed_current : (word : ℕ → Option ℕ) (v : Turn) (c : ℕ) (a : KeptAnswers) (ask : Ask) (items : List TrailItem) (out : NestResult) → KnowsStanding v c a → Resumed word v.step a ask items out → AllByRecursion (IsCurrent v.rows.dones v.thread v.step) (readings a.reads items)
resumed_current word v c a ask items out knows h =
    resumed_all (IsCurrent v.rows.dones v.thread v.step) word v c a ask items out (λ i f s. s.current) (λ sought r new. new_current v.rows.dones v.thread v.step r new.same_moment) knows h

-- a walk's old items name rows of the journal
all_true : (past : ℕ → ℕ → Option ℕ) (n : ℕ) (a : KeptAnswers) (k : Task) (s : Stage) (owed : List ℕ) (items : List TrailItem) (out : NestResult) → AllByRecursion (IsTrueReading past) a.reads → ResumesFrom (past n) n a k s owed items out → AllByRecursion (IsTrueReading past) (readings a.reads items)
all_true past n a k s owed [] out true_rows walk = tt
all_true past n a k s owed (New r ∷ items) out true_rows walk =
    (subst (λ m. past m r.at ≡ Some r.value) (sym walk.2.same_moment) walk.2.stands, all_true past n a k (next k s r.value) [] items out true_rows walk.3)
all_true past n a k s owed (Old i ∷ items) out true_rows walk =
    subst (λ o. AllByRecursion (IsTrueReading past) (option_to_list o ++ readings a.reads items)) (sym walk.3)
    (all_get (IsTrueReading past) a.reads i walk.1 true_rows walk.3, all_true past n a k (next k s walk.1.value) walk.0 items out true_rows walk.5)

pub resumed_true : (past : ℕ → ℕ → Option ℕ) (n : ℕ) (a : KeptAnswers) (ask : Ask) (items : List TrailItem) (out : NestResult) → AllByRecursion (IsTrueReading past) a.reads → Resumed (past n) n a ask items out → AllByRecursion (IsTrueReading past) (readings a.reads items)
resumed_true past n a ask items out true_rows h = all_true past n a (task_of (first_denial ask) ask) (start_of (first_denial ask) ask) (owed_at a (place_of ask)) items out true_rows h
