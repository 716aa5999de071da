-- What a fresh walk says of its readings, of its ask and of the fill that it adds for the ask.
use Rattle.std.proofs.Common.{◌≡◌, ℕ, ◌+◌, ◌≤◌, List, [], ◌∷◌, ◌++◌, length, map, Option, Some, Bool, true, false, arith, ap, sym, ◌∙◌, refl, subst, append_assoc, length-append}
use Rattle.std.specs.Prelude.{slice_get}
use Rattle.std.proofs.lemmas.List.FromFn.{length-range_with_len}
use Rattle.std.specs.List.{range_with_len, AllByRecursion}
use Rattle.std.proofs.lemmas.List.{append-nil}
use Rattle.journal_core.specs.declared.rows.Key.{Key}
use Rattle.journal_core.specs.declared.rows.ReadRow.{ReadRow}
use Rattle.journal_core.specs.declared.asks.Ask.{Ask}
use Rattle.journal_core.specs.declared.asks.AccessKind.{AccessKind}
use Rattle.journal_core.specs.declared.asks.Rights.{Rights}
use Rattle.journal_core.specs.declared.asks.Denial.{Denial}
use Rattle.journal_core.specs.declared.asks.Place.{Place}
use Rattle.journal_core.specs.declared.asks.Place.TheVariants.{Real, GuestReal, Space, Segment}
use Rattle.journal_core.specs.declared.walks.Goal.TheVariants.{ForGuest}
use Rattle.journal_core.specs.declared.walks.NestResult.{NestResult}
use Rattle.journal_core.specs.declared.walks.NestResult.TheVariants.{Page, Fault}
use Rattle.journal_core.specs.declared.walks.Stage.{Stage}
use Rattle.journal_core.specs.declared.walks.Stage.TheVariants.{SecondWord, PartEntry, Over}
use Rattle.journal_core.specs.declared.walks.TrailItem.TheVariants.{New}
use Rattle.journal_core.specs.Places.{place_of}
use Rattle.journal_core.specs.PartitionWalk.{part_start, has_entry}
use Rattle.journal_core.specs.Rights.{first_denial}
use Rattle.journal_core.specs.Walk.{Task, next, stage_after, inside, enter, process_start, start_at, task_at, task_of, start_of, never_denied}
use Rattle.journal_core.specs.Following.{IsTrueReading, Fresh}
use Rattle.journal_core.specs.Covers.{IsCurrent}
use Rattle.journal_core.specs.Turns.{Turn}
use Rattle.journal_core.specs.Standing.{AreRows, fill_reads}
use Rattle.journal_core.specs.Fills.{own_key, found_at, NumberedItem, number_items, new_rows, SoFar, taking, first_found, fills_for, fills_from, fills_of, fill_of}
use Rattle.journal_core.specs.Admitted.{IsReadBy, IsWalkTo, IsRight, IsAdmitted}
use Rattle.journal_core.specs.Choice.{IsTranslated, last_of}
use Rattle.walk_laws.specs.OwnFill.{level_from, own_level, fresh_fill}
use Rattle.walk_laws.proofs.WalkBounds.{walk-few}
use Rattle.journal_core.proofs.StandingStays.{all_mapped}
use Rattle.walk_laws.proofs.FreedWalks.{permitted_walks}
use Rattle.walk_laws.proofs.AlikeWalks.{no_way}
use Rattle.walk_laws.proofs.ResumedReadingsLemmas.{new_current}
use Rattle.walk_laws.proofs.AnsweringWalks.{page_ends, all_new}
use Rattle.walk_laws.proofs.LedFills.{reads_of_fill as fill_has}

-- the readings of a fill are those that it was made of
pub reads_of_fill : (t n : ℕ) (key : Key) (level : ℕ) (is : List ℕ) → length is ≤ 36 → fill_reads (fill_of t n key level is) ≡ is
reads_of_fill = fill_has

at_seam : {X : Type 0} (xs : List X) (x : X) (ys : List X) → slice_get (xs ++ x ∷ ys) (length xs) ≡ Some x
at_seam [] x ys = refl
at_seam (y ∷ xs) x ys = at_seam xs x ys

-- the numbers from the seam on name the later rows
pub named_after : (before rs : List ReadRow) → AreRows (before ++ rs) (range_with_len (length before) (length rs)) rs
named_after before [] = tt
named_after before (r ∷ rs) = (
  at_seam before r rs,
  subst (λ xs. AreRows xs (range_with_len (length before + 1) (length rs)) rs) (append_assoc before (r ∷ []) rs)
      (subst (λ n. AreRows ((before ++ r ∷ []) ++ rs) (range_with_len n (length rs)) rs) (length-append before (r ∷ [])) (named_after (before ++ r ∷ []) rs)),
)

-- the readings of a fresh walk are at most 36
pub fresh_few : (word : ℕ → Option ℕ) (n : ℕ) (ask : Ask) (rs : List ReadRow) (out : NestResult) → Fresh word n ask rs out → length rs ≤ 36
fresh_few word n ask rs out h = walk-few (first_denial ask) ask rs h.walk.follows

-- they are of now
pub fresh_moments : (word : ℕ → Option ℕ) (n : ℕ) (ask : Ask) (rs : List ReadRow) (out : NestResult) → Fresh word n ask rs out → AllByRecursion (λ (r : ReadRow). r.moment ≡ n) rs
fresh_moments word n ask rs out h = all_new (λ (r : ReadRow). r.moment ≡ n) word n (task_of (first_denial ask) ask) (start_of (first_denial ask) ask) rs (λ sought r new. new.same_moment) h.new

-- true, if the words are those of now
pub fresh_true : (past : ℕ → ℕ → Option ℕ) (word : ℕ → Option ℕ) (n : ℕ) (ask : Ask) (rs : List ReadRow) (out : NestResult) → ((at : ℕ) → word at ≡ past n at) → Fresh word n ask rs out → AllByRecursion (IsTrueReading past) rs
fresh_true past word n ask rs out now h =
    all_new (IsTrueReading past) word n (task_of (first_denial ask) ask) (start_of (first_denial ask) ask) rs (λ sought r new. subst (λ m. past m r.at ≡ Some r.value) (sym new.same_moment) (sym (now r.at) ∙ new.stands)) h.new

-- and current
pub fresh_current : (word : ℕ → Option ℕ) (v : Turn) (ask : Ask) (rs : List ReadRow) (out : NestResult) → Fresh word v.step ask rs out → AllByRecursion (IsCurrent v.rows.dones v.thread v.step) rs
fresh_current word v ask rs out h =
    all_mapped (λ (r : ReadRow). r.moment ≡ v.step) (IsCurrent v.rows.dones v.thread v.step) (λ r e. new_current v.rows.dones v.thread v.step r e) rs (fresh_moments word v.step ask rs out h)

pub fresh_right : (word : ℕ → Option ℕ) (n : ℕ) (ask : Ask) (rs : List ReadRow) (real : ℕ) → Fresh word n ask rs (Page real) → IsRight ask rs real
fresh_right word n ask rs real h = page_ends word (stage_after (task_of (first_denial ask) ask) (start_of (first_denial ask) ask) rs) real h.walk.ends

pub fresh_walk : (word : ℕ → Option ℕ) (n : ℕ) (ask : Ask) (rs : List ReadRow) (real : ℕ) → Fresh word n ask rs (Page real) → IsWalkTo ask rs real
fresh_walk word n ask rs real h = permitted_walks ask rs real h.walk.follows (fresh_right word n ask rs real h)

-- a fresh walk to a page admits its ask
pub fresh_admits : (past : ℕ → ℕ → Option ℕ) (word : ℕ → Option ℕ) (v : Turn) (ask : Ask) (rs : List ReadRow) (real : ℕ) → ((at : ℕ) → word at ≡ past v.step at) → Fresh word v.step ask rs (Page real) → IsAdmitted past v ask rs real
fresh_admits past word v ask rs real now h = record {
  read = both rs (fresh_moments word v.step ask rs (Page real) h) (fresh_true past word v.step ask rs (Page real) now h);
  current = fresh_current word v ask rs (Page real) h;
  walk = fresh_walk word v.step ask rs real h;
  right = fresh_right word v.step ask rs real h;
}
  where
    both : (xs : List ReadRow) → AllByRecursion (λ (r : ReadRow). r.moment ≡ v.step) xs → AllByRecursion (IsTrueReading past) xs → AllByRecursion (IsReadBy past v.step) xs
    both [] a b = tt
    both (x ∷ xs) a b = (((let e : x.moment ≡ v.step = a.0 in omega (arith, e)), b.0), both xs a.1 b.1)

-- a walk of an ask that is translated does not begin in a page
part_begins : (k : Task) (gra real : ℕ) (b : Bool) → has_entry k.ask.ptcr k.lpid ≡ b → enter k ForGuest gra ≡ Over (Page real) → ⊥
unfolding inside part_start
part_begins k gra real true e h = (let h2 : PartEntry ForGuest gra _ ≡ Over (Page real) = rw e at h in cc)
part_begins k gra real false e h = (let h2 : Over (Fault _) ≡ Over (Page real) = rw e at h in cc)

process_begins : (k : Task) (real : ℕ) (b : Bool) → has_entry k.ask.ptcr k.lpid ≡ b → process_start k ≡ Over (Page real) → ⊥
unfolding process_start
process_begins k real true e h = (let h2 : SecondWord _ ≡ Over (Page real) = rw e at h in cc)
process_begins k real false e h = (let h2 : Over (Fault _) ≡ Over (Page real) = rw e at h in cc)

begins : (deny : Rights → AccessKind → Option Denial) (ask : Ask) (p : Place) (real : ℕ) → ((a : ℕ) → p ≡ Real a → ⊥) → start_at (task_at deny ask p) p ≡ Over (Page real) → ⊥
begins deny ask (Real a) real away h = away a refl
begins deny ask (GuestReal lpid a) real away h = part_begins (task_at deny ask (GuestReal lpid a)) a real (has_entry ask.ptcr lpid) refl h
begins deny ask (Space lpid pid a) real away h = process_begins (task_at deny ask (Space lpid pid a)) real (has_entry ask.ptcr lpid) refl h
begins deny ask Segment real away h = cc

-- so a walk to a page of an ask that is translated has a reading
pub walk_some : (ask : Ask) (real : ℕ) → IsTranslated ask → IsWalkTo ask [] real → ⊥
walk_some ask real away h = begins never_denied ask (place_of ask) real away h.leads

pub fresh_some : (word : ℕ → Option ℕ) (n : ℕ) (ask : Ask) (real : ℕ) → IsTranslated ask → Fresh word n ask [] (Page real) → ⊥
fresh_some word n ask real away h = walk_some ask real away (fresh_walk word n ask [] real h)

-- and the ask has a key of its own
own_key_at : (ask : Ask) (p : Place) (rs : List ReadRow) (real : ℕ) → ((a : ℕ) → p ≡ Real a → ⊥) → stage_after (task_at never_denied ask p) (start_at (task_at never_denied ask p) p) rs ≡ Over (Page real) → (key : Key) × (own_key p ≡ Some key)
own_key_at ask (Real a) rs real away leads = absurd (away a refl)
own_key_at ask (GuestReal lpid a) rs real away leads = (_, refl)
own_key_at ask (Space lpid pid a) rs real away leads = (_, refl)
own_key_at ask Segment rs real away leads = absurd (no_way (task_at never_denied ask Segment) _ rs real tt leads)

pub has_own_key : (ask : Ask) (rs : List ReadRow) (real : ℕ) → IsTranslated ask → IsWalkTo ask rs real → (key : Key) × (own_key (place_of ask) ≡ Some key)
has_own_key ask rs real away h = own_key_at ask (place_of ask) rs real away h.leads

pub new_rows_of : (rs : List ReadRow) → new_rows (map New rs) ≡ rs
new_rows_of [] = refl
new_rows_of (r ∷ rs) = ap (λ (xs : List ReadRow). r ∷ xs) (new_rows_of rs)

-- a list whose last element is alone
last_behind : {X : Type 0} (xs ys : List X) (z : X) → last_of ys ≡ z ∷ [] → last_of (xs ++ ys) ≡ z ∷ []
last_behind [] ys z e = e
last_behind (x ∷ []) [] z e = absurd (let h : ⊥ = cc in h)
last_behind (x ∷ []) (y ∷ ys) z e = e
last_behind (x ∷ (w ∷ xs)) ys z e = last_behind (w ∷ xs) ys z e

-- the last fill of a walk all of whose readings are new is the ask's own
last_from : (t n : ℕ) (k : Task) (own : Key) (s : Stage) (reads : List ReadRow) (x : SoFar) (first : ℕ) (rs : List ReadRow) →
    last_of (fills_from t n k (Some own) s x (number_items reads first (map New rs))) ≡ fill_of t n own (level_from k s x.level rs) (x.numbers ++ range_with_len first (length rs)) ∷ []
last_from t n k own s reads x first [] = ap (λ is. fill_of t n own x.level is ∷ []) (sym (append-nil x.numbers))
last_from t n k own s reads x first (r ∷ rs) =
    let item : NumberedItem = record { number = first; row = r; is_new = true } in
    let taken : SoFar = taking s x item in
    let found : List Key = first_found (Some own) x.keys true (found_at k s r) in
    let more : SoFar = record taken { keys = x.keys ++ found } in
    last_behind (fills_for t n taken r.level found) (fills_from t n k (Some own) (next k s r.value) more (number_items reads (first + 1) (map New rs))) _
    (last_from t n k own (next k s r.value) reads more (first + 1) rs ∙ ap (λ is. fill_of t n own (level_from k (next k s r.value) taken.level rs) is ∷ []) (append_assoc x.numbers (first ∷ []) (range_with_len (first + 1) (length rs))))

pub last_own : (t n : ℕ) (ask : Ask) (key : Key) (reads : List ReadRow) (first : ℕ) (rs : List ReadRow) → own_key (place_of ask) ≡ Some key → last_of (fills_of t n ask reads first (map New rs)) ≡ fresh_fill t n ask key first rs ∷ []
last_own t n ask key reads first rs own =
    ap (λ o. last_of (fills_from t n (task_of never_denied ask) o (start_of never_denied ask) (record { numbers = []; part = []; keys = []; level = 0 }) (number_items reads first (map New rs)))) own
    ∙ last_from t n (task_of never_denied ask) key (start_of never_denied ask) reads (record { numbers = []; part = []; keys = []; level = 0 }) first rs

-- it names the readings of the walk
pub own_named : (word : ℕ → Option ℕ) (t n : ℕ) (ask : Ask) (key : Key) (before rs : List ReadRow) (out : NestResult) → Fresh word n ask rs out → AreRows (before ++ rs) (fill_reads (fresh_fill t n ask key (length before) rs)) rs
own_named word t n ask key before rs out h =
    subst (λ is. AreRows (before ++ rs) is rs)
    (sym (reads_of_fill t n key (own_level ask rs) (range_with_len (length before) (length rs)) (subst (λ m. m ≤ 36) (sym (length-range_with_len (length before) (length rs))) (fresh_few word n ask rs out h)))) (named_after before rs)
