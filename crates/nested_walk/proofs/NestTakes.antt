-- A walk that takes what is due and goes on.
use Rattle.std.proofs.Common.{◌≡◌, ℕ, ◌<◌, ◌≤◌, ◌+◌, List, [], ◌∷◌, ◌++◌, map, length, Option, Some, None, arith, ap, sym, ◌∙◌, refl, subst, append_assoc, length-append}
use Rattle.std.proofs.lemmas.List.{length-map, append-nil}
use Rattle.std.specs.Prelude.{◌↔◌}
use Rattle.journal_core.specs.declared.rows.ReadRow.{ReadRow}
use Rattle.journal_core.specs.declared.rows.StopName.TheVariants.{NoStorage}
use Rattle.journal_core.specs.declared.asks.Ask.{Ask}
use Rattle.journal_core.specs.declared.asks.Place.{Place}
use Rattle.journal_core.specs.declared.asks.Place.TheVariants.{Real, GuestReal, Space, Segment}
use Rattle.journal_core.specs.declared.walks.Goal.{Goal}
use Rattle.journal_core.specs.declared.walks.Goal.TheVariants.{ForGuest}
use Rattle.journal_core.specs.declared.walks.NestResult.{NestResult}
use Rattle.journal_core.specs.declared.walks.NestResult.TheVariants.{Stop}
use Rattle.journal_core.specs.declared.walks.PartStage.{PartStage}
use Rattle.journal_core.specs.declared.walks.PartStage.TheVariants.{Entry}
use Rattle.journal_core.specs.declared.walks.Stage.{Stage}
use Rattle.journal_core.specs.declared.walks.Stage.TheVariants.{SecondWord, PartEntry, PartTable, ProcessEntry, ProcessTable, Over}
use Rattle.journal_core.specs.declared.walks.TrailItem.{TrailItem}
use Rattle.journal_core.specs.declared.walks.TrailItem.TheVariants.{Old, New}
use Rattle.journal_core.specs.Rows.{Rows}
use Rattle.journal_core.specs.Places.{place_of}
use Rattle.journal_core.specs.PartitionWalk.{part_start, part_after, PartFollows}
use Rattle.journal_core.specs.Rights.{first_denial}
use Rattle.journal_core.specs.Walk.{Task, next, inside, stage_after, process_start, start_at, task_at}
use Rattle.journal_core.specs.WalkPlaces.{read_at, row_at}
use Rattle.journal_core.specs.Following.{IsRead, Follows, Fresh}
use Rattle.journal_core.specs.Fills.{new_rows}
use Rattle.journal_core.specs.Standing.{fill_reads}
use Rattle.journal_core.specs.Resumed.{KeptAnswers, KnowsNothing, due, owed_at, ResumesFrom, Resumed}
use Rattle.journal_core.specs.WalkLeft.{reads_left}
use Rattle.journal_core.specs.PartResumed.{kept_for}
use Rattle.journal_core.specs.Takes.{Replays, IsBegun}
use Rattle.walk_laws.specs.KeptBegins.{IsUnderWay, BeginsProcess}
use Rattle.walk_laws.proofs.Begun.{enter-begun, process_start-begun}
use Rattle.walk_laws.proofs.WalkBounds.{next-left, start_at-left}
use Rattle.walk_laws.proofs.WalkExists.{IsOpen, row-reads, row-new, row-value, ends-gap, next-fewer}
use Rattle.walk_laws.proofs.ResumedLemmas.{nothing_kept}
use Rattle.walk_laws.proofs.TakesLemmas.{inside_replays, none_after, replays_few, take_all, take_due, replays_begin}
use Rattle.part_walk.specs.Adds.{PartBegins}
use Rattle.nested_walk.specs.declared.targets.Target.{Target}
use Rattle.nested_walk.specs.Targets.{task_for, target_at, nest_word}
use Rattle.nested_walk.specs.Adds.{CanReplay, CanTake, TakesNumbers, Takes, AddsWalk, IsFreshTrail}

some_injective : {A : Type 0} {x y : A} → Some x ≡ Some y → x ≡ y
some_injective e = cc

none_is_some : {A : Type 0} {x : A} → None ≡ Some x → ⊥
none_is_some e = cc

entry_takes : (a : KeptAnswers) (k : Task) (goal : Goal) (gra at : ℕ) (p : PartStage) (before mid : List TrailItem) → part_start k.ask.ptcr k.lpid ≡ Entry at → PartBegins a k.ask.ptcr k.lpid gra p before mid → Takes a k (PartEntry goal gra at) (inside k goal gra p) before mid
unfolding inside
entry_takes a k goal gra at p before mid begun b =
    let follows : PartFollows k.lpid gra (Entry at) b.taken = subst (λ s. PartFollows k.lpid gra s b.taken) begun b.follows in
    let there : p ≡ part_after k.lpid gra (Entry at) b.taken = b.leads ∙ ap (λ s. part_after k.lpid gra s b.taken) begun in
    let went : Replays a.reads k (PartEntry goal gra at) (kept_for a k.lpid gra) (inside k goal gra (part_after k.lpid gra (Entry at) b.taken)) = inside_replays a.reads k goal gra (Entry at) (kept_for a k.lpid gra) b.taken b.named follows in
    let none : due a k (inside k goal gra (part_after k.lpid gra (Entry at) b.taken)) [] ≡ [] = none_after a k goal gra at (kept_for a k.lpid gra) b.taken refl b.named follows in
    record {
      is = kept_for a k.lpid gra;
      due_is = refl;
      takes = record { appended = b.appended; replays = subst (λ x. Replays a.reads k (PartEntry goal gra at) (kept_for a k.lpid gra) (inside k goal gra x)) (sym there) went };
      none = subst (λ x. due a k (inside k goal gra x) [] ≡ []) (sym there) none;
    }

pub kept_takes : (a : KeptAnswers) (k : Task) (s last : Stage) (goal : Goal) (gra at : ℕ) (p : PartStage) (before mid : List TrailItem) → s ≡ PartEntry goal gra at → last ≡ inside k goal gra p → IsBegun k s → PartBegins a k.ask.ptcr k.lpid gra p before mid → Takes a k s last before mid
kept_takes a k s last goal gra at p before mid is there begun b =
    let begun_here : part_start k.ask.ptcr k.lpid ≡ Entry at = subst (IsBegun k) is begun in
    subst (λ x. Takes a k x last before mid) (sym is) (subst (λ x. Takes a k (PartEntry goal gra at) x before mid) (sym there) (entry_takes a k goal gra at p before mid begun_here b))

pub replay_room : (reads : List ReadRow) (k : Task) (s : Stage) (is : List ℕ) (before : List TrailItem) → CanReplay reads k s is → length before + reads_left s ≤ 36 → length before + length is ≤ 36
replay_room reads k s is before h room = omega (arith, replays_few reads k s is h.last h.replays, room)

pub numbers_room : (reads : List ReadRow) (k : Task) (s last : Stage) (is : List ℕ) (before after : List TrailItem) → TakesNumbers reads k s last is before after → length after + reads_left last ≤ length before + reads_left s
numbers_room reads k s last is before after t = (let few : length is + reads_left last ≤ reads_left s = replays_few reads k s is last t.replays in rw t.appended (rw length-append (rw length-map (omega (arith, few)))))

pub takes_room : (a : KeptAnswers) (k : Task) (s last : Stage) (before after : List TrailItem) → Takes a k s last before after → length after + reads_left last ≤ length before + reads_left s
takes_room a k s last before after t = numbers_room a.reads k s last t.is before after t.takes

few_both : (is : List ℕ) (items : List TrailItem) (b c : ℕ) → length is + b ≤ c → length items ≤ b → length (map Old is ++ items) ≤ c
few_both is items b c h g = rw length-append (rw length-map (omega arith))

pub adds_taken : (word : ℕ → Option ℕ) (n : ℕ) (a : KeptAnswers) (k : Task) (s last : Stage) (before mid after : List TrailItem) (out : NestResult) → Takes a k s last before mid → AddsWalk word n a k last mid after out → AddsWalk word n a k s before after out
adds_taken word n a k s last before mid after out t h =
    let few : length t.is + reads_left last ≤ reads_left s = replays_few a.reads k s t.is last t.takes.replays in
    record {
      items = map Old t.is ++ h.items;
      appended = h.appended ∙ ap (λ (xs : List TrailItem). xs ++ h.items) t.takes.appended ∙ append_assoc before (map Old t.is) h.items;
      walk = take_due word n a k s t.is last h.items out t.due_is t.takes.replays h.walk;
      few = few_both t.is h.items (reads_left last) (reads_left s) few h.few;
    }

is_open : (s : Stage) (at : ℕ) → nest_word s ≡ Some at → IsOpen s
is_open (SecondWord x) at is = tt
is_open (PartEntry goal gra x) at is = tt
is_open (PartTable goal gra n) at is = tt
is_open (ProcessEntry x) at is = tt
is_open (ProcessTable n x) at is = tt
is_open (Over out) at is = absurd (none_is_some is)

pub under_way : (s : Stage) (at : ℕ) → nest_word s ≡ Some at → IsUnderWay s
under_way s at is out over = subst IsOpen over (is_open s at is)

here_is : (s : Stage) (at : ℕ) → nest_word s ≡ Some at → at ≡ read_at s
here_is (SecondWord x) at is = sym (some_injective is)
here_is (PartEntry goal gra x) at is = sym (some_injective is)
here_is (PartTable goal gra n) at is = sym (some_injective is)
here_is (ProcessEntry x) at is = sym (some_injective is)
here_is (ProcessTable n x) at is = sym (some_injective is)
here_is (Over out) at is = absurd (none_is_some is)

open_there : (s : Stage) → IsUnderWay s → IsOpen s
open_there (SecondWord at) h = tt
open_there (PartEntry goal gra at) h = tt
open_there (PartTable goal gra n) h = tt
open_there (ProcessEntry at) h = tt
open_there (ProcessTable n at) h = tt
open_there (Over out) h = h out refl

pub step_fewer : (k : Task) (s : Stage) (v : ℕ) → IsUnderWay s → reads_left (next k s v) < reads_left s
step_fewer k s v h = next-fewer k s v (open_there s h)

pub adds_over : (word : ℕ → Option ℕ) (n : ℕ) (a : KeptAnswers) (k : Task) (s : Stage) (out : NestResult) (before : List TrailItem) → s ≡ Over out → AddsWalk word n a k s before before out
adds_over word n a k s out before is = subst (λ x. AddsWalk word n a k x before before out) (sym is) (record { items = []; appended = sym (append-nil before); walk = (refl, refl); few = omega arith })

pub adds_gap : (word : ℕ → Option ℕ) (n : ℕ) (a : KeptAnswers) (k : Task) (s : Stage) (at : ℕ) (before : List TrailItem) → nest_word s ≡ Some at → due a k s [] ≡ [] → word at ≡ None → AddsWalk word n a k s before before (Stop NoStorage at)
adds_gap word n a k s at before there none gap =
    let is : at ≡ read_at s = here_is s at there in
    record { items = []; appended = sym (append-nil before); walk = (none, rw is (ends-gap word s (is_open s at there) (rw is at gap))); few = omega arith }

pub adds_more : (word : ℕ → Option ℕ) (n : ℕ) (a : KeptAnswers) (k : Task) (s onward : Stage) (v at : ℕ) (before mid after : List TrailItem) (out : NestResult) → nest_word s ≡ Some at → due a k s [] ≡ [] → word at ≡ Some v → onward ≡ next k s v → mid ≡ before ++ New (row_at k n s v) ∷ []
    → AddsWalk word n a k onward mid after out → AddsWalk word n a k s before after out
adds_more word n a k s onward v at before mid after out there none stands step pushed h =
    let q : ReadRow = row_at k n s v in
    let opened : IsOpen s = is_open s at there in
    let is : at ≡ read_at s = here_is s at there in
    let reads : IsRead k s q = row-reads k n s v opened in
    let goes : onward ≡ next k s q.value = rw (row-value k n s v) step in
    let fewer : reads_left (next k s q.value) < reads_left s = next-left k s q reads in
    let few : length h.items ≤ reads_left (next k s q.value) = rw goes at h.few in
    record {
      items = New q ∷ h.items;
      appended = h.appended ∙ ap (λ (xs : List TrailItem). xs ++ h.items) pushed ∙ append_assoc before (New q ∷ []) h.items;
      walk = (none, reads, row-new word k n s v opened (rw is at stands), rw goes at h.walk);
      few = omega arith;
    }

pub can_take : (rows : Rows) (ask : Ask) (lpid pid address i : ℕ) (s : Stage) → place_of ask ≡ Space lpid pid address → s ≡ process_start (task_at (first_denial ask) ask (Space lpid pid address)) → BeginsProcess rows ask i → CanTake rows (task_at (first_denial ask) ask (Space lpid pid address)) s i
can_take rows ask lpid pid address i s place is h =
    let k : Task = task_at (first_denial ask) ask (Space lpid pid address) in
    let follows : Follows k (process_start k) h.rs = subst (λ p. Follows (task_at (first_denial ask) ask p) (start_at (task_at (first_denial ask) ask p) p) h.rs) place h.follows in
    record {
      fill = h.fill;
      is = h.is;
      few = h.few;
      replays = subst (λ x. CanReplay rows.reads k x (fill_reads h.fill)) (sym is) (record { last = stage_after k (process_start k) h.rs; replays = replays_begin rows.reads k (process_start k) (fill_reads h.fill) h.rs h.named follows });
    }

-- where nothing is kept the trail is that of the fresh walk
pub fresh_trail : (word : ℕ → Option ℕ) (n : ℕ) (a : KeptAnswers) (ask : Ask) (items : List TrailItem) (out : NestResult) → KnowsNothing a → Resumed word n a ask items out → IsFreshTrail word n ask items out
fresh_trail word n a ask items out none h =
    let both : Resumed word n a ask items out ↔ ((items ≡ map New (new_rows items)) × Fresh word n ask (new_rows items) out) = nothing_kept word n a ask items out none in
    let fresh : (items ≡ map New (new_rows items)) × Fresh word n ask (new_rows items) out = both.0 h in
    record { rs = new_rows items; items_are = fresh.0; fresh = fresh.1 }

pub record IsWhole (word : ℕ → Option ℕ) (n : ℕ) (a : KeptAnswers) (ask : Ask) (after : List TrailItem) (out : NestResult) : Type 0 where
  pub resumed : Resumed word n a ask after out
  pub few : length after ≤ 36

-- the task of a target is that of its ask
task_is : (ask : Ask) (p : Place) → task_for (target_at ask p) ≡ task_at (first_denial ask) ask p
task_is ask (Real a) = refl
task_is ask (GuestReal lpid a) = refl
task_is ask (Space lpid pid a) = refl
task_is ask Segment = refl

pub same_task : (ask : Ask) (p : Place) (x : Target) → x ≡ target_at ask p → task_for x ≡ task_at (first_denial ask) ask p
same_task ask p x is = ap task_for is ∙ task_is ask p

-- a walk from its beginning, with what it took there
walk_from_start : (word : ℕ → Option ℕ) (n : ℕ) (a : KeptAnswers) (ask : Ask) (p : Place) (k : Task) (here : Stage) (before mid after : List TrailItem) (out : NestResult) → before ≡ [] → TakesNumbers a.reads k (start_at k p) here (owed_at a p) before mid → AddsWalk word n a k here mid after out
    → ResumesFrom word n a k (start_at k p) (owed_at a p) after out × (length after ≤ 36)
walk_from_start word n a ask p k here before mid after out empty t h =
    let owed : List ℕ = owed_at a p in
    let items : after ≡ map Old owed ++ h.items = h.appended ∙ ap (λ (xs : List TrailItem). xs ++ h.items) (t.appended ∙ ap (λ (xs : List TrailItem). xs ++ map Old owed) empty) in
    let walk : ResumesFrom word n a k (start_at k p) owed (map Old owed ++ h.items) out = take_all word n a k (start_at k p) owed here h.items out t.replays h.walk in
    let few : length owed + reads_left here ≤ reads_left (start_at k p) = replays_few a.reads k (start_at k p) owed here t.replays in
    let start : reads_left (start_at k p) ≤ 36 = start_at-left k p in
    (subst (λ xs. ResumesFrom word n a k (start_at k p) owed xs out) (sym items) walk, rw items (few_both owed h.items (reads_left here) 36 (omega (arith, few, start)) h.few))

pub whole_walk : (word : ℕ → Option ℕ) (n : ℕ) (a : KeptAnswers) (ask : Ask) (p : Place) (x : Target) (here : Stage) (before mid after : List TrailItem) (out : NestResult) → p ≡ place_of ask → x ≡ target_at ask p → before ≡ [] → TakesNumbers a.reads (task_for x) (start_at (task_for x) p) here (owed_at a p) before mid
    → AddsWalk word n a (task_for x) here mid after out → IsWhole word n a ask after out
whole_walk word n a ask p x here before mid after out place target empty t h =
    let both : ResumesFrom word n a (task_for x) (start_at (task_for x) p) (owed_at a p) after out × (length after ≤ 36) = walk_from_start word n a ask p (task_for x) here before mid after out empty t h in
    let of_ask : ResumesFrom word n a (task_at (first_denial ask) ask p) (start_at (task_at (first_denial ask) ask p) p) (owed_at a p) after out = subst (λ k. ResumesFrom word n a k (start_at k p) (owed_at a p) after out) (same_task ask p x target) both.0 in
    record {
      resumed = subst (λ p. ResumesFrom word n a (task_at (first_denial ask) ask p) (start_at (task_at (first_denial ask) ask p) p) (owed_at a p) after out) place of_ask;
      few = both.1;
    }

pub begin_room : (reads : List ReadRow) (k : Task) (p : Place) (here : Stage) (is : List ℕ) (before mid : List TrailItem) → before ≡ [] → TakesNumbers reads k (start_at k p) here is before mid → length mid + reads_left here ≤ 36
begin_room reads k p here is before mid empty t =
    let room : length mid + reads_left here ≤ length before + reads_left (start_at k p) = numbers_room reads k (start_at k p) here is before mid t in
    let start : reads_left (start_at k p) ≤ 36 = start_at-left k p in
    let none : length before ≡ 0 = ap length empty in
    omega (arith, room, start, none)

pub start_begun : (k : Task) (p : Place) → IsBegun k (start_at k p)
start_begun k (Real a) = tt
start_begun k (GuestReal lpid a) = enter-begun k ForGuest a
start_begun k (Space lpid pid a) = process_start-begun k
start_begun k Segment = tt

pub nothing_owed : (a : KeptAnswers) (p : Place) → ((lpid pid x : ℕ) → p ≡ Space lpid pid x → ⊥) → owed_at a p ≡ []
nothing_owed a (Real x) never = refl
nothing_owed a (GuestReal lpid x) never = refl
nothing_owed a (Space lpid pid x) never = absurd (never lpid pid x refl)
nothing_owed a Segment never = refl

pub takes_nothing : (reads : List ReadRow) (k : Task) (s last : Stage) (is : List ℕ) (before : List TrailItem) → is ≡ [] → last ≡ s → TakesNumbers reads k s last is before before
takes_nothing reads k s last is before none same = subst (λ ns. TakesNumbers reads k s last ns before before) (sym none) (record { appended = sym (append-nil before); replays = same })
