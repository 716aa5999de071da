-- A walk that uses answers that serve exists.
use Rattle.std.proofs.Common.{◌≡◌, ℕ, zero, suc, ◌<◌, ◌≤◌, List, [], ◌∷◌, ◌++◌, map, length, Option, Some, None, arith, ap, sym, ◌∙◌, refl, subst}
use Rattle.journal_core.specs.declared.rows.ReadRow.{ReadRow}
use Rattle.journal_core.specs.declared.rows.KeyKind.{KeyKind}
use Rattle.journal_core.specs.declared.rows.KeyKind.TheVariants.{GuestPage, ProcessDir, PartDir}
use Rattle.journal_core.specs.declared.rows.StopName.TheVariants.{NoStorage}
use Rattle.journal_core.specs.declared.asks.Ask.{Ask}
use Rattle.journal_core.specs.declared.asks.Place.{Place}
use Rattle.journal_core.specs.declared.asks.Place.TheVariants.{Real, GuestReal, Space, Segment}
use Rattle.journal_core.specs.declared.walks.Goal.{Goal}
use Rattle.journal_core.specs.declared.walks.Goal.TheVariants.{ForGuest}
use Rattle.journal_core.specs.declared.walks.NestResult.{NestResult}
use Rattle.journal_core.specs.declared.walks.NestResult.TheVariants.{Stop}
use Rattle.journal_core.specs.declared.walks.PartStage.TheVariants.{Entry}
use Rattle.journal_core.specs.declared.walks.Stage.{Stage}
use Rattle.journal_core.specs.declared.walks.Stage.TheVariants.{SecondWord, PartEntry, PartTable, ProcessEntry, ProcessTable, Over}
use Rattle.journal_core.specs.declared.walks.TrailItem.{TrailItem}
use Rattle.journal_core.specs.declared.walks.TrailItem.TheVariants.{Old, New}
use Rattle.journal_core.specs.Rows.{Rows, JournalView}
use Rattle.journal_core.specs.Turns.{next_turn}
use Rattle.journal_core.specs.Places.{place_of}
use Rattle.journal_core.specs.PartitionWalk.{part_start, part_after, PartFollows}
use Rattle.journal_core.specs.Rights.{first_denial}
use Rattle.journal_core.specs.Walk.{Task, next, inside, enter, stage_after, process_start, start_at, task_at}
use Rattle.journal_core.specs.WalkPlaces.{read_at, row_at}
use Rattle.journal_core.specs.WalkLeft.{reads_left}
use Rattle.journal_core.specs.Following.{Follows}
use Rattle.journal_core.specs.Standing.{AreRows, fill_reads, key_of, IsStandingKey, IsDeepest}
use Rattle.journal_core.specs.Resumed.{KeptAnswers, due, owed_at, ResumesFrom, KnowsStanding, kept_reads, numbers_of, numbers_in}
use Rattle.journal_core.specs.KeptAnswers.{known_of}
use Rattle.journal_core.specs.PartResumed.{kept_for}
use Rattle.walk_laws.specs.KeptBegins.{BeginsPart, BeginsProcess, KeptDirectoryBeginsPart, KeptPageBeginsPart, KeptDirectoryBeginsProcess}
use Rattle.journal_core.specs.Takes.{Replays, IsBegun}
use Rattle.walk_laws.specs.ResumedExists.{AnswersServe, HasResumed, AreOfWalks}
use Rattle.walk_laws.proofs.WalkExists.{IsOpen, open-left, row-reads, row-new, row-value, ends-gap, next-fewer}
use Rattle.walk_laws.proofs.Begun.{next-begun, enter-begun, process_start-begun}
use Rattle.walk_laws.proofs.TakesLemmas.{inside_replays, none_after, replays_few, take_all, take_due, replays_begin}

record HasWalk (word : ℕ → Option ℕ) (n : ℕ) (a : KeptAnswers) (k : Task) (s : Stage) : Type 0 where
  items : List TrailItem
  out : NestResult
  walk : ResumesFrom word n a k s [] items out

-- what is kept for a partition's walk begins it
record KeptBegins (a : KeptAnswers) (ptcr lpid gra : ℕ) : Type 0 where
  rs : List ReadRow
  named : AreRows a.reads (kept_for a lpid gra) rs
  follows : PartFollows lpid gra (part_start ptcr lpid) rs

as_fill : (rows : Rows) (directory : KeyKind → ℕ → ℕ → ℕ → Option ℕ) (page : ℕ → ℕ → Option ℕ) (ptcr lpid gra i : ℕ) → kept_for (known_of rows directory page) lpid gra ≡ numbers_of rows.fills (Some i) → BeginsPart rows ptcr lpid gra i → KeptBegins (known_of rows directory page) ptcr lpid gra
as_fill rows directory page ptcr lpid gra i is h =
    let numbers : kept_for (known_of rows directory page) lpid gra ≡ fill_reads h.fill = is ∙ ap numbers_in h.is in
    record { rs = h.rs; named = subst (λ ns. AreRows rows.reads ns h.rs) (sym numbers) h.named; follows = h.follows }

kept_begins : (rows : Rows) (directory : KeyKind → ℕ → ℕ → ℕ → Option ℕ) (page : ℕ → ℕ → Option ℕ) (ask : Ask) (lpid gra : ℕ) (x y : Option ℕ) → AnswersServe rows directory page ask → page lpid gra ≡ x → directory PartDir lpid 0 gra ≡ y → KeptBegins (known_of rows directory page) ask.ptcr lpid gra
kept_begins rows directory page ask lpid gra (Some i) y serve e f = as_fill rows directory page ask.ptcr lpid gra i (ap (λ o. kept_reads rows.fills o (directory PartDir lpid 0 gra)) e) (serve.pages lpid gra i e)
kept_begins rows directory page ask lpid gra None (Some i) serve e f =
    as_fill rows directory page ask.ptcr lpid gra i (ap (λ o. kept_reads rows.fills o (directory PartDir lpid 0 gra)) e ∙ ap (λ o. kept_reads rows.fills None o) f) (serve.parts lpid gra i f)
kept_begins rows directory page ask lpid gra None None serve e f =
    let none : kept_for (known_of rows directory page) lpid gra ≡ [] = ap (λ o. kept_reads rows.fills o (directory PartDir lpid 0 gra)) e ∙ ap (λ o. kept_reads rows.fills None o) f in
    record { rs = []; named = subst (λ ns. AreRows rows.reads ns []) (sym none) tt; follows = tt }

-- from each stage what is due is taken, and then nothing is due
record HasTaken (a : KeptAnswers) (k : Task) (s : Stage) : Type 0 where
  is : List ℕ
  due_is : due a k s [] ≡ is
  last : Stage
  replays : Replays a.reads k s is last
  none : due a k last [] ≡ []

at_entry : (a : KeptAnswers) (k : Task) (goal : Goal) (gra at : ℕ) → part_start k.ask.ptcr k.lpid ≡ Entry at → KeptBegins a k.ask.ptcr k.lpid gra → HasTaken a k (PartEntry goal gra at)
unfolding inside
at_entry a k goal gra at begun b =
    let follows : PartFollows k.lpid gra (Entry at) b.rs = subst (λ s. PartFollows k.lpid gra s b.rs) begun b.follows in
    record {
      is = kept_for a k.lpid gra;
      due_is = refl;
      last = inside k goal gra (part_after k.lpid gra (Entry at) b.rs);
      replays = inside_replays a.reads k goal gra (Entry at) (kept_for a k.lpid gra) b.rs b.named follows;
      none = none_after a k goal gra at (kept_for a k.lpid gra) b.rs refl b.named follows;
    }

taken : (rows : Rows) (directory : KeyKind → ℕ → ℕ → ℕ → Option ℕ) (page : ℕ → ℕ → Option ℕ) (k : Task) (s : Stage) → AnswersServe rows directory page k.ask → IsBegun k s → HasTaken (known_of rows directory page) k s
taken rows directory page k (PartEntry goal gra at) serve begun = at_entry (known_of rows directory page) k goal gra at begun (kept_begins rows directory page k.ask k.lpid gra (page k.lpid gra) (directory PartDir k.lpid 0 gra) serve refl refl)
taken rows directory page k (SecondWord at) serve begun = record { is = []; due_is = refl; last = SecondWord at; replays = refl; none = refl }
taken rows directory page k (PartTable goal gra n) serve begun = record { is = []; due_is = refl; last = PartTable goal gra n; replays = refl; none = refl }
taken rows directory page k (ProcessEntry at) serve begun = record { is = []; due_is = refl; last = ProcessEntry at; replays = refl; none = refl }
taken rows directory page k (ProcessTable n at) serve begun = record { is = []; due_is = refl; last = ProcessTable n at; replays = refl; none = refl }
taken rows directory page k (Over o) serve begun = record { is = []; due_is = refl; last = Over o; replays = refl; none = refl }

over_walk : (word : ℕ → Option ℕ) (n : ℕ) (a : KeptAnswers) (k : Task) (o : NestResult) → HasWalk word n a k (Over o)
over_walk word n a k o = record { items = []; out = o; walk = (refl, refl) }

gap_walk : (word : ℕ → Option ℕ) (n : ℕ) (a : KeptAnswers) (k : Task) (s : Stage) → IsOpen s → due a k s [] ≡ [] → word (read_at s) ≡ None → HasWalk word n a k s
gap_walk word n a k s opened none gap = record { items = []; out = Stop NoStorage (read_at s); walk = (none, ends-gap word s opened gap) }

more_walk : (word : ℕ → Option ℕ) (n : ℕ) (a : KeptAnswers) (k : Task) (s : Stage) (v : ℕ) → IsOpen s → due a k s [] ≡ [] → word (read_at s) ≡ Some v → HasWalk word n a k (next k s v) → HasWalk word n a k s
more_walk word n a k s v opened none stands h =
    let q : ReadRow = row_at k n s v in
    let rest : ResumesFrom word n a k (next k s q.value) [] h.items h.out = subst (λ x. ResumesFrom word n a k (next k s x) [] h.items h.out) (sym (row-value k n s v)) h.walk in
    record { items = New q ∷ h.items; out = h.out; walk = (none, row-reads k n s v opened, row-new word k n s v opened stands, rest) }

-- where nothing is due the walk reads, if the walks after it are there
reads_on : (word : ℕ → Option ℕ) (n : ℕ) (a : KeptAnswers) (k : Task) (s : Stage) (o : Option ℕ) → IsOpen s → due a k s [] ≡ [] → word (read_at s) ≡ o → ((v : ℕ) → HasWalk word n a k (next k s v)) → HasWalk word n a k s
reads_on word n a k s None opened none is later = gap_walk word n a k s opened none is
reads_on word n a k s (Some v) opened none is later = more_walk word n a k s v opened none is (later v)

here_on : (word : ℕ → Option ℕ) (n : ℕ) (a : KeptAnswers) (k : Task) (s : Stage) → due a k s [] ≡ [] → (IsOpen s → (v : ℕ) → HasWalk word n a k (next k s v)) → HasWalk word n a k s
here_on word n a k (SecondWord at) none later = reads_on word n a k (SecondWord at) (word at) tt none refl (later tt)
here_on word n a k (PartEntry goal gra at) none later = reads_on word n a k (PartEntry goal gra at) (word at) tt none refl (later tt)
here_on word n a k (PartTable goal gra m) none later = reads_on word n a k (PartTable goal gra m) (word (read_at (PartTable goal gra m))) tt none refl (later tt)
here_on word n a k (ProcessEntry at) none later = reads_on word n a k (ProcessEntry at) (word at) tt none refl (later tt)
here_on word n a k (ProcessTable m at) none later = reads_on word n a k (ProcessTable m at) (word at) tt none refl (later tt)
here_on word n a k (Over o) none later = over_walk word n a k o

with_taken : (word : ℕ → Option ℕ) (n : ℕ) (a : KeptAnswers) (k : Task) (s : Stage) (t : HasTaken a k s) → HasWalk word n a k t.last → HasWalk word n a k s
with_taken word n a k s t h = record { items = map Old t.is ++ h.items; out = h.out; walk = take_due word n a k s t.is t.last h.items h.out t.due_is t.replays h.walk }

taken_fewer : (a : KeptAnswers) (k : Task) (s : Stage) (t : HasTaken a k s) → reads_left t.last ≤ reads_left s
taken_fewer a k s t = omega (arith, replays_few a.reads k s t.is t.last t.replays)

exists_from : (fuel : ℕ) (word : ℕ → Option ℕ) (n : ℕ) (rows : Rows) (directory : KeyKind → ℕ → ℕ → ℕ → Option ℕ) (page : ℕ → ℕ → Option ℕ) (k : Task) (s : Stage) → AnswersServe rows directory page k.ask → IsBegun k s → reads_left s ≤ fuel → HasWalk word n (known_of rows directory page) k s
exists_from zero word n rows directory page k s serve begun few =
    let t : HasTaken (known_of rows directory page) k s = taken rows directory page k s serve begun in
    let fewer : reads_left t.last ≤ reads_left s = taken_fewer (known_of rows directory page) k s t in
    with_taken word n (known_of rows directory page) k s t (here_on word n (known_of rows directory page) k t.last t.none (λ opened v. absurd (none_left (reads_left t.last) (reads_left s) fewer few (open-left t.last opened))))
  where
    none_left : (x y : ℕ) → x ≤ y → y ≤ 0 → 0 < x → ⊥
    none_left x y h g l = omega (arith, h, g, l)
exists_from (suc fuel) word n rows directory page k s serve begun few =
    let t : HasTaken (known_of rows directory page) k s = taken rows directory page k s serve begun in
    let fewer : reads_left t.last ≤ reads_left s = taken_fewer (known_of rows directory page) k s t in
    with_taken word n (known_of rows directory page) k s t (here_on word n (known_of rows directory page) k t.last t.none
    (λ opened v. exists_from fuel word n rows directory page k (next k t.last v) serve (next-begun k t.last v) (one_less (reads_left (next k t.last v)) (reads_left t.last) (reads_left s) fuel (next-fewer k t.last v opened) fewer few)))
  where
    one_less : (x y z n : ℕ) → x < y → y ≤ z → z ≤ suc n → x ≤ n
    one_less x y z n h g l = omega (arith, h, g, l)

from_stage : (word : ℕ → Option ℕ) (n : ℕ) (rows : Rows) (directory : KeyKind → ℕ → ℕ → ℕ → Option ℕ) (page : ℕ → ℕ → Option ℕ) (k : Task) (s : Stage) → AnswersServe rows directory page k.ask → IsBegun k s → HasWalk word n (known_of rows directory page) k s
from_stage word n rows directory page k s serve begun = exists_from (reads_left s) word n rows directory page k s serve begun (omega arith)

-- the walk of a process's address, by its directory
by_directory : (word : ℕ → Option ℕ) (n : ℕ) (rows : Rows) (directory : KeyKind → ℕ → ℕ → ℕ → Option ℕ) (page : ℕ → ℕ → Option ℕ) (ask : Ask) (lpid pid x : ℕ) (o : Option ℕ) → place_of ask ≡ Space lpid pid x → AnswersServe rows directory page ask → directory ProcessDir lpid pid x ≡ o →
    (items : List TrailItem) × (out : NestResult) × ResumesFrom word n (known_of rows directory page) (task_at (first_denial ask) ask (Space lpid pid x)) (process_start (task_at (first_denial ask) ask (Space lpid pid x))) (numbers_of rows.fills o) items out
by_directory word n rows directory page ask lpid pid x None place serve e =
    (let h : HasWalk word n (known_of rows directory page) (task_at (first_denial ask) ask (Space lpid pid x)) (process_start (task_at (first_denial ask) ask (Space lpid pid x))) = from_stage word n rows directory page (task_at (first_denial ask) ask (Space lpid pid x)) _ serve (process_start-begun (task_at (first_denial ask) ask (Space lpid pid x))) in (h.items, h.out, h.walk))
by_directory word n rows directory page ask lpid pid x (Some i) place serve e =
    let k : Task = task_at (first_denial ask) ask (Space lpid pid x) in
    let b : BeginsProcess rows ask i = serve.processes lpid pid x i place e in
    let follows : Follows k (process_start k) b.rs = subst (λ p. Follows (task_at (first_denial ask) ask p) (start_at (task_at (first_denial ask) ask p) p) b.rs) place b.follows in
    let last : Stage = stage_after k (process_start k) b.rs in
    let went : Replays rows.reads k (process_start k) (fill_reads b.fill) last = replays_begin rows.reads k (process_start k) (fill_reads b.fill) b.rs b.named follows in
    let numbers : numbers_of rows.fills (Some i) ≡ fill_reads b.fill = ap numbers_in b.is in
    let h : HasWalk word n (known_of rows directory page) k last = from_stage word n rows directory page k last serve (along k (process_start k) b.rs (process_start-begun k)) in
    (map Old (numbers_of rows.fills (Some i)) ++ h.items, h.out, take_all word n (known_of rows directory page) k (process_start k) (numbers_of rows.fills (Some i)) last h.items h.out (subst (λ ns. Replays rows.reads k (process_start k) ns last) (sym numbers) went) h.walk)
  where
    along : (k : Task) (s : Stage) (rs : List ReadRow) → IsBegun k s → IsBegun k (stage_after k s rs)
    along k s [] h = h
    along k s (r ∷ rs) h = along k (next k s r.value) rs (next-begun k s r.value)

at_place : (word : ℕ → Option ℕ) (n : ℕ) (rows : Rows) (directory : KeyKind → ℕ → ℕ → ℕ → Option ℕ) (page : ℕ → ℕ → Option ℕ) (ask : Ask) (p : Place) → place_of ask ≡ p → AnswersServe rows directory page ask →
    (items : List TrailItem) × (out : NestResult) × ResumesFrom word n (known_of rows directory page) (task_at (first_denial ask) ask p) (start_at (task_at (first_denial ask) ask p) p) (owed_at (known_of rows directory page) p) items out
at_place word n rows directory page ask (Real a) place serve = ([], _, (refl, refl))
at_place word n rows directory page ask Segment place serve = ([], _, (refl, refl))
at_place word n rows directory page ask (GuestReal lpid a) place serve =
    let k : Task = task_at (first_denial ask) ask (GuestReal lpid a) in
    let h : HasWalk word n (known_of rows directory page) k (enter k ForGuest a) = from_stage word n rows directory page k (enter k ForGuest a) serve (enter-begun k ForGuest a) in
    (h.items, h.out, h.walk)
at_place word n rows directory page ask (Space lpid pid x) place serve = by_directory word n rows directory page ask lpid pid x (directory ProcessDir lpid pid x) place serve refl

-- an ask has a walk that uses answers that serve
pub resumed_exists : (word : ℕ → Option ℕ) (n : ℕ) (rows : Rows) (directory : KeyKind → ℕ → ℕ → ℕ → Option ℕ) (page : ℕ → ℕ → Option ℕ) (ask : Ask) → AnswersServe rows directory page ask → HasResumed word n (known_of rows directory page) ask
resumed_exists word n rows directory page ask serve = at_place word n rows directory page ask (place_of ask) refl serve

-- what stands serves, if it was made by finished walks, and such walks begin those of their keys
serves : KeptDirectoryBeginsPart → KeptPageBeginsPart → KeptDirectoryBeginsProcess → (j : JournalView) (t : ℕ) (a : KeptAnswers) (ask : Ask) → AreOfWalks j t ask.ptcr → KnowsStanding (next_turn j t) (length j.rows.fills) a → AnswersServe j.rows a.directory a.page ask
serves part page process j t a ask of_walks knows = record {
  pages = λ lpid gra i e. (
      let s : IsStandingKey (next_turn j t) (length j.rows.fills) (key_of GuestPage lpid 0 12 gra) (Some i) = subst (IsStandingKey (next_turn j t) (length j.rows.fills) (key_of GuestPage lpid 0 12 gra)) e (knows.pages lpid gra) in
      page j t ask.ptcr lpid gra i (record { fill = s.fill; standing = s.standing; of_key = s.of_key; of_walk = of_walks i s.fill s.standing }));
  parts = λ lpid gra i e. (
      let s : IsDeepest (next_turn j t) (length j.rows.fills) PartDir lpid 0 gra (Some i) = subst (IsDeepest (next_turn j t) (length j.rows.fills) PartDir lpid 0 gra) e (knows.directories PartDir lpid 0 gra tt) in
      part j t ask.ptcr lpid gra i (record { fill = s.fill; standing = s.standing; for_it = s.for_it; of_walk = of_walks i s.fill s.standing }));
  processes = λ lpid pid sought i place e. (
      let s : IsDeepest (next_turn j t) (length j.rows.fills) ProcessDir lpid pid sought (Some i) = subst (IsDeepest (next_turn j t) (length j.rows.fills) ProcessDir lpid pid sought) e (knows.directories ProcessDir lpid pid sought tt) in
      process j t lpid pid sought i ask place (record { fill = s.fill; standing = s.standing; for_it = s.for_it; of_walk = of_walks i s.fill s.standing }));
}

-- so an ask has a walk that uses what stands
pub standing_exists : KeptDirectoryBeginsPart → KeptPageBeginsPart → KeptDirectoryBeginsProcess → (word : ℕ → Option ℕ) (n : ℕ) (j : JournalView) (t : ℕ) (a : KeptAnswers) (ask : Ask) → AreOfWalks j t ask.ptcr → KnowsStanding (next_turn j t) (length j.rows.fills) a → HasResumed word n a ask
standing_exists part page process word n j t a ask of_walks knows =
    let h : HasResumed word n (known_of j.rows a.directory a.page) ask = resumed_exists word n j.rows a.directory a.page ask (serves part page process j t a ask of_walks knows) in
    subst (λ xs. HasResumed word n (record { reads = xs; fills = a.fills; directory = a.directory; page = a.page }) ask) (sym knows.reads)
    (subst (λ fs. HasResumed word n (record { reads = j.rows.reads; fills = fs; directory = a.directory; page = a.page }) ask) (sym knows.fills) h)
