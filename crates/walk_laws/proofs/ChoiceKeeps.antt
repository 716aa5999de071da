-- A choice keeps the rule of a step.
use Rattle.std.proofs.Common.{◌≡◌, ℕ, zero, suc, ◌+◌, ◌-◌, ◌<◌, ◌≤◌, List, [], ◌∷◌, ◌++◌, length, take, drop, map, Option, Some, None, arith, ap, sym, ◌∙◌, refl, subst, length-append}
use Rattle.std.specs.Prelude.{slice_get, option_to_list, Contains}
use Rattle.std.specs.List.{range_with_len, AllByRecursion}
use Rattle.std.proofs.lemmas.List.{append_assoc, append-nil}
use Rattle.std.proofs.lemmas.List.Elements.{Contains-append_right}
use Rattle.journal_core.specs.declared.rows.StopName.{StopName}
use Rattle.journal_core.specs.declared.rows.Key.{Key}
use Rattle.journal_core.specs.declared.rows.ReadRow.{ReadRow}
use Rattle.journal_core.specs.declared.rows.FillRow.{FillRow}
use Rattle.journal_core.specs.declared.rows.Use.TheVariants.{Unused, Real as RealUse, Hit, Walked, Faulted}
use Rattle.journal_core.specs.declared.causes.Cause.{Cause}
use Rattle.journal_core.specs.declared.asks.Ask.{Ask}
use Rattle.journal_core.specs.declared.asks.Place.{Place}
use Rattle.journal_core.specs.declared.asks.Place.TheVariants.{Real as RealPlace, GuestReal, Space, Segment}
use Rattle.journal_core.specs.declared.asks.Found.{Found}
use Rattle.journal_core.specs.declared.asks.Found.TheVariants.{Real, Fault, Stop}
use Rattle.journal_core.specs.declared.walks.NestResult.TheVariants.{Page}
use Rattle.journal_core.specs.declared.walks.Stage.{Stage}
use Rattle.journal_core.specs.declared.walks.Stage.TheVariants.{Over}
use Rattle.journal_core.specs.declared.walks.TrailItem.{TrailItem}
use Rattle.journal_core.specs.declared.walks.TrailItem.TheVariants.{Old, New}
use Rattle.journal_core.specs.Rows.{Rows}
use Rattle.journal_core.specs.Places.{place_of}
use Rattle.journal_core.specs.Covers.{IsCurrent}
use Rattle.journal_core.specs.Rights.{first_denial}
use Rattle.journal_core.specs.Walk.{Task, next, stage_after, task_at, start_at, task_of, start_of, never_denied}
use Rattle.journal_core.specs.Following.{IsTrueReading}
use Rattle.journal_core.specs.Turns.{Mark, Query, turn_later}
use Rattle.journal_core.specs.Standing.{fill_reads, AreRows, IsStanding}
use Rattle.journal_core.specs.Resumed.{numbers_in, readings}
use Rattle.journal_core.specs.Fills.{own_key, NumberedItem, as_old, number_items, new_rows, fill_of, SoFar, taking, first_found, found_at, fills_for, own_fill, fills_from, nothing_so_far, fills_of_query, OldsBelow}
use Rattle.journal_core.specs.Admitted.{IsRight, IsAdmitted}
use Rattle.journal_core.specs.Choice.{IsPermitted, IsTranslated, added, ByKind, ChoseHit, ChoseWalk, NoneServes, AddsOwn, last_of, IsFault, IsStop, Choice, PlainChoice, NonePermits}
use Rattle.journal_core.specs.Early.{PagesChoice}
use Rattle.journal_core.specs.Answers.{AreItems, IsAnswer}
use Rattle.journal_core.specs.Translating.{IsWithin}
use Rattle.walk_laws.specs.KeptLaws.{AreWords, IsReadyFor}
use Rattle.walk_laws.proofs.AlikeWalks.{no_way}
use Rattle.walk_laws.proofs.WalkBounds.{walk-few}
use Rattle.journal_core.proofs.StandingStays.{standing_goes_back}
use Rattle.walk_laws.proofs.KeptPart.{hit_admitted, read_by}
use Rattle.walk_laws.proofs.LedFills.{reads_of_fill}
use Rattle.walk_laws.proofs.LedFound.{AreNumbered, rows_in}
use Rattle.walk_laws.proofs.LedWalks.{StandFrom, stand_from, numbered, rows_are, rows_count}
use Rattle.walk_laws.proofs.FewFills.{at_most_35}
use Rattle.walk_laws.proofs.ResumedReadingsLemmas.{new_current}
use Rattle.walk_laws.proofs.AnsweringWalks.{AnsweringWalk, standing_true, new_true, all_new, fresh_answers, walked_answers}

numbers : List NumberedItem → List ℕ
numbers items = map (λ (item : NumberedItem). item.number) items

-- a walk's fills end with the ask's own, which has all the numbers
record EndsWithOwn (t n : ℕ) (own : Option Key) (x : SoFar) (items : List NumberedItem) (fills : List FillRow) : Type 0 where
  front : List FillRow
  last : SoFar
  is : fills ≡ front ++ own_fill t n last own
  all : last.numbers ≡ x.numbers ++ numbers items

ends_with_own : (t n : ℕ) (k : Task) (own : Option Key) (s : Stage) (x : SoFar) (items : List NumberedItem) → EndsWithOwn t n own x items (fills_from t n k own s x items)
unfolding numbers
ends_with_own t n k own s x [] = record { front = []; last = x; is = refl; all = sym (append-nil x.numbers) }
ends_with_own t n k own s x (item ∷ items) =
    let taken : SoFar = taking s x item in
    let found : List Key = first_found own x.keys item.is_new (found_at k s item.row) in
    let more : SoFar = record taken { keys = x.keys ++ found } in
    let rest : EndsWithOwn t n own more items (fills_from t n k own (next k s item.row.value) more items) = ends_with_own t n k own (next k s item.row.value) more items in
    let these : List FillRow = fills_for t n taken item.row.level found in
    record {
      front = these ++ rest.front;
      last = rest.last;
      is = ap (λ xs. these ++ xs) rest.is ∙ sym (append_assoc these rest.front (own_fill t n rest.last own));
      all = rest.all ∙ append_assoc x.numbers (item.number ∷ []) (numbers items);
    }

-- the ask has a key of its own
record HasOwn (place : Place) : Type 0 where
  key : Key
  is : own_key place ≡ Some key

has_own_at : (ask : Ask) (p : Place) (rs : List ReadRow) (real : ℕ) → ((a : ℕ) → p ≡ RealPlace a → ⊥) → stage_after (task_at never_denied ask p) (start_at (task_at never_denied ask p) p) rs ≡ Over (Page real) → HasOwn p
has_own_at ask (RealPlace a) rs real away leads = absurd (away a refl)
has_own_at ask (GuestReal lpid a) rs real away leads = record { key = _; is = refl }
has_own_at ask (Space lpid pid a) rs real away leads = record { key = _; is = refl }
has_own_at ask Segment rs real away leads = absurd (no_way (task_at never_denied ask Segment) _ rs real tt leads)

get_dropped : {X : Type 0} (xs : List X) (from i : ℕ) → slice_get (drop from xs) i ≡ slice_get xs (from + i)
get_dropped xs zero i = ap (slice_get xs) (none i)
  where
    none : (i : ℕ) → i ≡ 0 + i
    none i = omega arith
get_dropped [] (suc from) i = refl
get_dropped (x ∷ xs) (suc from) i = get_dropped xs from i ∙ ap (slice_get (x ∷ xs)) (one_more from i)
  where
    one_more : (from i : ℕ) → suc (from + i) ≡ suc from + i
    one_more from i = omega arith

some_taken : {X : Type 0} (xs : List X) (m i : ℕ) (x : X) → slice_get (take m xs) i ≡ Some x → slice_get xs i ≡ Some x
some_taken [] zero i x e = e
some_taken [] (suc m) i x e = e
some_taken (y ∷ xs) zero i x e = absurd (none e)
  where
    none : None ≡ Some x → ⊥
    none e = cc
some_taken (y ∷ xs) (suc m) zero x e = e
some_taken (y ∷ xs) (suc m) (suc i) x e = some_taken xs m i x e

get_last : {X : Type 0} (xs : List X) (x : X) → slice_get (xs ++ x ∷ []) (length xs) ≡ Some x
get_last [] x = refl
get_last (y ∷ xs) x = get_last xs x

last_added : {X : Type 0} (xs front : List X) (x : X) (from to : ℕ) → added xs from to ≡ front ++ x ∷ [] → slice_get xs (from + length front) ≡ Some x
last_added xs front x from to e = sym (get_dropped xs from (length front)) ∙ some_taken (drop from xs) (to - from) (length front) x (ap (λ ys. slice_get ys (length front)) e ∙ get_last front x)

pub last_of_end : {X : Type 0} (xs : List X) (x : X) → last_of (xs ++ x ∷ []) ≡ x ∷ []
last_of_end [] x = refl
last_of_end (y ∷ []) x = refl
last_of_end (y ∷ (z ∷ xs)) x = last_of_end (z ∷ xs) x

named_numbers : (reads : List ReadRow) (items : List NumberedItem) → AreNumbered reads items → AreRows reads (numbers items) (rows_in items)
unfolding numbers
named_numbers reads [] h = tt
named_numbers reads (item ∷ items) h = (h.0, named_numbers reads items h.1)

numbers_count : (items : List NumberedItem) → length (numbers items) ≡ length items
unfolding numbers
numbers_count [] = refl
numbers_count (item ∷ items) = ap suc (numbers_count items)

some_there : (reads : List ReadRow) (i : ℕ) → i < length reads → (r : ReadRow) × (slice_get reads i ≡ Some r)
some_there [] i below = absurd (omega (arith, below))
some_there (r ∷ reads) zero below = (r, refl)
some_there (r ∷ reads) (suc i) below = some_there reads i (omega (arith, below))

-- the numbers of a walk's items are those of its old and new readings
items_are : (reads : List ReadRow) (from first : ℕ) (items : List TrailItem) → from ≤ first → from ≤ length reads → OldsBelow from items → StandFrom reads first (new_rows items) → AreItems reads from (numbers (number_items reads first items)) items
unfolding numbers
items_are reads from first [] above within olds h = tt
items_are reads from first (New r ∷ items) above within olds h = (above, h.0, items_are reads from (first + 1) items (omega (arith, above)) within olds h.1)
items_are reads from first (Old j ∷ items) above within olds h =
    let there : (r : ReadRow) × (slice_get reads j ≡ Some r) = some_there reads j (omega (arith, olds.0, within)) in
    subst (λ o. AreItems reads from (map (λ (item : NumberedItem). item.number) (map (as_old j) (option_to_list o) ++ number_items reads first items)) (Old j ∷ items)) (sym there.1)
    (olds.0, refl, items_are reads from first items above within olds.1 h)

-- each element of a list is in it
pub contains_self : {X : Type 0} (xs ys : List X) → AllByRecursion (λ x. Contains (ys ++ xs) x) xs
contains_self [] ys = tt
contains_self (x ∷ xs) ys = (Contains-append_right ys (x ∷ xs) x (zero, omega arith, refl), subst (λ zs. AllByRecursion (λ y. Contains zs y) xs) (append_assoc ys (x ∷ []) xs) (contains_self xs (ys ++ x ∷ [])))

-- what a walk that gave a page adds, when the last of its fills stands at i
record AddsItems (q : Query) (items : List TrailItem) (own : FillRow) (i : ℕ) (after : Mark) : Type 0 where
  reads_to : after.reads ≡ q.before.reads + length (new_rows items)
  reads : added q.turn.rows.reads q.before.reads after.reads ≡ new_rows items
  is : slice_get q.turn.rows.fills i ≡ Some own
  from : q.before.fills ≤ i
  last : after.fills ≡ i + 1
  few : after.fills ≤ q.before.fills + 35
  fills : AllByRecursion (λ f. Contains (fills_of_query q items) f) (added q.turn.rows.fills q.before.fills after.fills)

-- the ask's own fill of a walk: its key, and all the readings
record IsOwnFill (q : Query) (items : List TrailItem) (own : FillRow) : Type 0 where
  thread : own.thread ≡ q.turn.thread
  moment : own.moment ≡ q.turn.step
  reads : fill_reads own ≡ numbers (number_items q.turn.rows.reads q.before.reads items)
  front : List FillRow
  ends : fills_of_query q items ≡ front ++ own ∷ []

taken_new : (from m : ℕ) → m ≡ from + m - from
taken_new from m = omega arith

new_stand : (q : Query) (items : List TrailItem) (after : Mark) → after.reads ≡ q.before.reads + length (new_rows items) → added q.turn.rows.reads q.before.reads after.reads ≡ new_rows items → StandFrom q.turn.rows.reads q.before.reads (new_rows items)
new_stand q items after to e =
    stand_from q.turn.rows.reads q.before.reads (new_rows items)
    (ap (λ m. take m (drop q.before.reads q.turn.rows.reads)) (taken_new q.before.reads (length (new_rows items)) ∙ ap (λ m. m - q.before.reads) (sym to)) ∙ e)

own_of : (past : ℕ → ℕ → Option ℕ) (q : Query) (items : List TrailItem) (real : ℕ) → IsTranslated q.ask → AnsweringWalk past q items real → (own : FillRow) × IsOwnFill q items own
own_of past q items real away w =
    let t : ℕ = q.turn.thread in
    let n : ℕ = q.turn.step in
    let rows : List ReadRow = q.turn.rows.reads in
    let ns : List NumberedItem = number_items rows q.before.reads items in
    let key : HasOwn (place_of q.ask) = has_own_at q.ask (place_of q.ask) (readings rows items) real away w.walk.leads in
    let e : EndsWithOwn t n (own_key (place_of q.ask)) nothing_so_far ns (fills_of_query q items) = ends_with_own t n (task_of never_denied q.ask) (own_key (place_of q.ask)) (start_of never_denied q.ask) nothing_so_far ns in
    let few : length (readings rows items) ≤ 36 = walk-few never_denied q.ask (readings rows items) w.walk.follows in
    let count : length (numbers ns) ≡ length (readings rows items) = numbers_count ns ∙ (sym (rows_count ns) ∙ ap (λ (xs : List ReadRow). length xs) (rows_are rows q.before.reads items)) in
    let short : length e.last.numbers ≤ 36 = subst (λ xs. length xs ≤ 36) (sym e.all) (omega (arith, few, count)) in (
      fill_of t n key.key e.last.level e.last.numbers,
      record {
        thread = refl;
        moment = refl;
        reads = reads_of_fill t n key.key e.last.level e.last.numbers short ∙ e.all;
        front = e.front;
        ends = e.is ∙ ap (λ o. e.front ++ own_fill t n e.last o) key.is;
      },
    )

-- a walk that answers, and adds so, keeps the rule
walked_keeps : (past : ℕ → ℕ → Option ℕ) (q : Query) (items : List TrailItem) (own : FillRow) (i a b : ℕ) (after : Mark) → IsWithin after q.turn.rows → IsTranslated q.ask → b ≡ a → AnsweringWalk past q items a → IsOwnFill q items own → AddsItems q items own i after →
    IsAnswer past q (Real a (Walked i b)) after
walked_keeps past q items own i a b after within away same w o h =
    let rows : List ReadRow = q.turn.rows.reads in
    let ns : List NumberedItem = number_items rows q.before.reads items in
    let stand : StandFrom rows q.before.reads (new_rows items) = new_stand q items after h.reads_to h.reads in
    let named : AreRows rows (numbers ns) (readings rows items) = subst (AreRows rows (numbers ns)) (rows_are rows q.before.reads items) (named_numbers rows ns (numbered rows q.before.reads items stand)) in
    let named_own : AreRows rows (fill_reads own) (readings rows items) = subst (λ is. AreRows rows is (readings rows items)) (sym o.reads) named in
    let inside : q.before.reads ≤ length rows = omega (arith, h.reads_to, within.reads) in
    record {
      readings = readings rows items;
      named = subst (λ f. AreRows rows (numbers_in f) (readings rows items)) (sym h.is) named_own;
      read = w.read;
      current = w.current;
      walk = (
        away,
        same,
        record {
          fill = own;
          is = h.is;
          of_thread = o.thread;
          same_moment = o.moment;
          from = h.from;
          last = h.last;
          few = h.few;
          walk = w.walk;
          items = items;
          are_items = subst (λ is. AreItems rows q.before.reads is items) (sym o.reads) (items_are rows q.before.reads q.before.reads items (omega arith) inside w.olds stand);
          reads_to = h.reads_to;
          reads = h.reads;
          fills = h.fills;
        },
      );
      right = subst (λ x. IsRight q.ask (readings rows items) x) (sym same) w.right;
    }

olds_longer : (m n : ℕ) (items : List TrailItem) → m ≤ n → OldsBelow m items → OldsBelow n items
olds_longer m n [] above h = tt
olds_longer m n (Old i ∷ items) above h = (omega (arith, above, h.0), olds_longer m n items above h.1)
olds_longer m n (New r ∷ items) above h = olds_longer m n items above h

chose_walk_keeps : (past : ℕ → ℕ → Option ℕ) (q : Query) (old : Rows) (i a b : ℕ) (after : Mark) → IsReadyFor past q old → IsWithin after q.turn.rows → IsTranslated q.ask → b ≡ a → ChoseWalk q i a after → IsAnswer past q (Real a (Walked i b)) after
chose_walk_keeps past q old i a b after ready within away same h =
    let rows : List ReadRow = q.turn.rows.reads in
    let w : AnsweringWalk past q h.items a = walked_answers past q old h.known h.items a ready h.knows h.walked in
    let o : (own : FillRow) × IsOwnFill q h.items own = own_of past q h.items a away w in
    let fills : added q.turn.rows.fills q.before.fills after.fills ≡ o.1.front ++ o.0 ∷ [] = h.adds.fills ∙ o.1.ends in
    let count : length (fills_of_query q h.items) ≡ length o.1.front + 1 = ap (λ (xs : List FillRow). length xs) o.1.ends ∙ length-append o.1.front (o.0 ∷ []) in
    let at : i ≡ q.before.fills + length o.1.front = omega (arith, count, h.adds.fills_to, h.adds.last) in
    let olds : OldsBelow (length rows) h.items = olds_longer q.before.reads (length rows) h.items (omega (arith, h.adds.reads_to, within.reads)) w.olds in
    let few : length (fills_of_query q h.items) ≤ 35 = at_most_35 q.turn.thread q.turn.step q.ask rows q.before.reads h.items a olds w.walk in
    walked_keeps past q h.items o.0 i a b after within away same w o.1 (record {
      reads_to = h.adds.reads_to;
      reads = h.adds.reads;
      is = subst (λ j. slice_get q.turn.rows.fills j ≡ Some o.0) (sym at) (last_added q.turn.rows.fills o.1.front o.0 q.before.fills after.fills fills);
      from = omega (arith, at);
      last = h.adds.last;
      few = omega (arith, few, h.adds.fills_to);
      fills = subst (λ xs. AllByRecursion (λ f. Contains (fills_of_query q h.items) f) xs) (sym h.adds.fills) (contains_self (fills_of_query q h.items) []);
    })

new_count : (rs : List ReadRow) → new_rows (map New rs) ≡ rs
new_count [] = refl
new_count (r ∷ rs) = ap (λ (xs : List ReadRow). r ∷ xs) (new_count rs)

own_keeps : (past : ℕ → ℕ → Option ℕ) (q : Query) (i a b : ℕ) (after : Mark) → AreWords past q → IsWithin after q.turn.rows → IsTranslated q.ask → b ≡ a → AddsOwn q i a after → IsAnswer past q (Real a (Walked i b)) after
own_keeps past q i a b after word within away same h =
    let items : List TrailItem = map New h.rs in
    let w : AnsweringWalk past q items a = fresh_answers past q h.rs a word h.fresh in
    let o : (own : FillRow) × IsOwnFill q items own = own_of past q items a away w in
    let fills : added q.turn.rows.fills q.before.fills after.fills ≡ o.0 ∷ [] = h.fills ∙ (ap last_of o.1.ends ∙ last_of_end o.1.front o.0) in
    let at : q.before.fills + 0 ≡ i = omega (arith, h.last) in
    let inside : AllByRecursion (λ f. Contains (fills_of_query q items) f) (o.0 ∷ []) = (subst (λ xs. Contains xs o.0) (sym o.1.ends) (Contains-append_right o.1.front (o.0 ∷ []) o.0 (zero, omega arith, refl)), tt) in
    walked_keeps past q items o.0 i a b after within away same w o.1 (record {
      reads_to = h.reads_to ∙ ap (λ (xs : List ReadRow). q.before.reads + length xs) (sym (new_count h.rs));
      reads = h.reads ∙ sym (new_count h.rs);
      is = subst (λ j. slice_get q.turn.rows.fills j ≡ Some o.0) at (last_added q.turn.rows.fills [] o.0 q.before.fills after.fills fills);
      from = omega (arith, h.last);
      last = omega (arith, h.last, h.fills_to);
      few = omega (arith, h.fills_to);
      fills = subst (λ xs. AllByRecursion (λ f. Contains (fills_of_query q items) f) xs) (sym fills) inside;
    })

hit_keeps : (past : ℕ → ℕ → Option ℕ) (q : Query) (old : Rows) (i a b : ℕ) (after : Mark) → IsReadyFor past q old → IsTranslated q.ask → b ≡ a → ChoseHit q i a after → IsAnswer past q (Real a (Hit i b)) after
unfolding standing_goes_back
hit_keeps past q old i a b after ready away same h =
    let hit : IsPermitted q.turn q.before.fills q.ask i a = h.0 in
    let e : q.before.fills ≡ length old.fills = ap (λ r. r.fills) ready.before in
    let back : IsStanding (turn_later q.turn old) q.before.fills i hit.fill = standing_goes_back old q.turn.rows q.turn.floor q.turn.thread q.turn.step q.before.fills i hit.fill ready.on (omega (arith, e)) ready.named hit.standing in
    let before : IsPermitted (turn_later q.turn old) q.before.fills q.ask i a = record { fill = hit.fill; standing = back; own = hit.own; permits = hit.permits } in
    let stood : AllByRecursion (IsTrueReading past) hit.standing.readings = standing_true past q old ready i hit.fill hit.standing in
    let admitted : IsAdmitted past (turn_later q.turn old) q.ask hit.standing.readings a =
    hit_admitted past (turn_later q.turn old) q.before.fills q.ask i a before stood (ready.of_walks i hit.fill (subst (λ c. IsStanding (turn_later q.turn old) c i hit.fill) e back)) in
    record {
      readings = hit.standing.readings;
      named = subst (λ f. AreRows q.turn.rows.reads (numbers_in f) hit.standing.readings) (sym hit.standing.is) hit.standing.named;
      read = admitted.read;
      current = hit.standing.current;
      walk = (away, same, record { fill = hit.fill; is = hit.standing.is; of_thread = hit.standing.of_thread; below = hit.standing.below; walk = admitted.walk; same = h.1 });
      right = subst (λ x. IsRight q.ask hit.standing.readings x) (sym same) admitted.right;
    }

-- rows from a number on have the numbers from there
from_named : (reads : List ReadRow) (first : ℕ) (rs : List ReadRow) → StandFrom reads first rs → AreRows reads (range_with_len first (length rs)) rs
from_named reads first [] h = tt
from_named reads first (r ∷ rs) h = (h.0, from_named reads (first + 1) rs h.1)

fault_keeps : (past : ℕ → ℕ → Option ℕ) (q : Query) (cause : Cause) (first count : ℕ) (after : Mark) → AreWords past q → IsTranslated q.ask → IsFault q cause first count after → IsAnswer past q (Fault cause (Faulted first count)) after
fault_keeps past q cause first count after word away h =
    let rows : List ReadRow = q.turn.rows.reads in
    let k : Task = task_of (first_denial q.ask) q.ask in
    let s : Stage = start_of (first_denial q.ask) q.ask in
    let stand : StandFrom rows q.before.reads h.readings = stand_from rows q.before.reads h.readings
    (ap (λ m. take m (drop q.before.reads rows)) (sym h.adds.count_is ∙ (taken_new q.before.reads count ∙ ap (λ m. m - q.before.reads) (sym h.adds.reads_to))) ∙ h.adds.reads) in
    let current : AllByRecursion (IsCurrent q.turn.rows.dones q.turn.thread q.turn.step) h.readings = all_new (IsCurrent q.turn.rows.dones q.turn.thread q.turn.step) q.word q.turn.step k s h.readings (λ sought r new. new_current q.turn.rows.dones q.turn.thread q.turn.step r new.same_moment) h.fresh.new in
    let stood : AllByRecursion (IsTrueReading past) h.readings = all_new (IsTrueReading past) q.word q.turn.step k s h.readings (new_true past q word) h.fresh.new in
    record {
      readings = h.readings;
      named = subst (λ m. AreRows rows (range_with_len m count) h.readings) (sym h.adds.first_is) (subst (λ m. AreRows rows (range_with_len q.before.reads m) h.readings) (sym h.adds.count_is) (from_named rows q.before.reads h.readings stand));
      read = read_by past q.turn h.readings current stood;
      current = current;
      walk = (away, h);
      right = tt;
    }

stop_keeps : (past : ℕ → ℕ → Option ℕ) (q : Query) (name : StopName) (value : ℕ) (after : Mark) → IsTranslated q.ask → IsStop q name value after → IsAnswer past q (Stop name value) after
stop_keeps past q name value after away h = record { readings = []; named = tt; read = tt; current = tt; walk = (away, h); right = tt }

-- an answer by its kind keeps the rule, if each kind does
keeps_by_kind : (past : ℕ → ℕ → Option ℕ) (q : Query) (hit walked : ℕ → ℕ → Mark → Type 0) (fault : Cause → ℕ → ℕ → Mark → Type 0) (stop : StopName → ℕ → Mark → Type 0) (found : Found) (after : Mark) →
    ((i a b : ℕ) → IsTranslated q.ask → b ≡ a → hit i a after → IsAnswer past q (Real a (Hit i b)) after) → ((i a b : ℕ) → IsTranslated q.ask → b ≡ a → walked i a after → IsAnswer past q (Real a (Walked i b)) after) →
    ((cause : Cause) (first count : ℕ) → IsTranslated q.ask → fault cause first count after → IsAnswer past q (Fault cause (Faulted first count)) after) → ((name : StopName) (value : ℕ) → IsTranslated q.ask → stop name value after → IsAnswer past q (Stop name value) after) →
    ByKind q hit walked fault stop found after → IsAnswer past q found after
keeps_by_kind past q hit walked fault stop (Real a (RealUse b)) after on_hit on_walk on_fault on_stop h = record { readings = []; named = tt; read = tt; current = tt; walk = h; right = tt }
keeps_by_kind past q hit walked fault stop (Real a (Hit i b)) after on_hit on_walk on_fault on_stop h = on_hit i a b h.0 h.1 h.2
keeps_by_kind past q hit walked fault stop (Real a (Walked i b)) after on_hit on_walk on_fault on_stop h = on_walk i a b h.0 h.1 h.2
keeps_by_kind past q hit walked fault stop (Real a (Faulted first count)) after on_hit on_walk on_fault on_stop h = absurd h
keeps_by_kind past q hit walked fault stop (Real a Unused) after on_hit on_walk on_fault on_stop h = absurd h
keeps_by_kind past q hit walked fault stop (Fault cause (Faulted first count)) after on_hit on_walk on_fault on_stop h = on_fault cause first count h.0 h.1
keeps_by_kind past q hit walked fault stop (Fault cause Unused) after on_hit on_walk on_fault on_stop h = absurd h
keeps_by_kind past q hit walked fault stop (Fault cause (RealUse b)) after on_hit on_walk on_fault on_stop h = absurd h
keeps_by_kind past q hit walked fault stop (Fault cause (Hit i b)) after on_hit on_walk on_fault on_stop h = absurd h
keeps_by_kind past q hit walked fault stop (Fault cause (Walked i b)) after on_hit on_walk on_fault on_stop h = absurd h
keeps_by_kind past q hit walked fault stop (Stop name value) after on_hit on_walk on_fault on_stop h = on_stop name value h.0 h.1

pub choice_keeps : (past : ℕ → ℕ → Option ℕ) (q : Query) (old : Rows) (found : Found) (after : Mark) → IsReadyFor past q old → IsWithin after q.turn.rows → Choice q found after → IsAnswer past q found after
choice_keeps past q old found after ready within h =
    keeps_by_kind past q (ChoseHit q) (ChoseWalk q) (λ cause first count to. NoneServes q × IsFault q cause first count to) (λ name value to. NoneServes q × IsStop q name value to) found after
    (λ i a b away same. hit_keeps past q old i a b after ready away same)
    (λ i a b away same. chose_walk_keeps past q old i a b after ready within away same)
    (λ cause first count away f. fault_keeps past q cause first count after ready.word away f.1)
    (λ name value away s. stop_keeps past q name value after away s.1) h

pub plain_choice_keeps : (past : ℕ → ℕ → Option ℕ) (q : Query) (found : Found) (after : Mark) → AreWords past q → IsWithin after q.turn.rows → PlainChoice q found after → IsAnswer past q found after
plain_choice_keeps past q found after word within h =
    keeps_by_kind past q (λ i real to. ⊥) (AddsOwn q) (IsFault q) (IsStop q) found after
    (λ i a b away same none. absurd none)
    (λ i a b away same. own_keeps past q i a b after word within away same)
    (λ cause first count away. fault_keeps past q cause first count after word away)
    (λ name value away. stop_keeps past q name value after away) h

pub pages_choice_keeps : (past : ℕ → ℕ → Option ℕ) (q : Query) (old : Rows) (found : Found) (after : Mark) → IsReadyFor past q old → IsWithin after q.turn.rows → PagesChoice q found after → IsAnswer past q found after
pages_choice_keeps past q old found after ready within h =
    let None : Type 0 = NonePermits q.turn q.before.fills q.ask in
    keeps_by_kind past q (ChoseHit q) (λ i real to. None × AddsOwn q i real to) (λ cause first count to. None × IsFault q cause first count to) (λ name value to. None × IsStop q name value to) found after
    (λ i a b away same. hit_keeps past q old i a b after ready away same)
    (λ i a b away same w. own_keeps past q i a b after ready.word within away same w.1)
    (λ cause first count away f. fault_keeps past q cause first count after ready.word away f.1)
    (λ name value away s. stop_keeps past q name value after away s.1) h
