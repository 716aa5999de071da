-- A fill that a finished walk of an ask adds is led by its readings.
use Rattle.std.proofs.Common.{◌≡◌, ℕ, zero, suc, ◌+◌, ◌-◌, ◌≤◌, List, [], ◌∷◌, ◌++◌, length, take, drop, map, Bool, true, false, Option, Some, None, arith, ap, sym, ◌∙◌, refl, subst, inl, inr}
use Rattle.std.specs.Prelude.{slice_get, option_to_list}
use Rattle.std.specs.List.{AllByRecursion, Contains}
use Rattle.std.proofs.Common.{not-suc-le-zero, le_of_suc-le-suc}
use Rattle.journal_core.specs.declared.rows.ReadRow.{ReadRow}
use Rattle.journal_core.specs.declared.rows.Key.{Key}
use Rattle.journal_core.specs.declared.rows.KeyKind.TheVariants.{Translation, GuestPage}
use Rattle.journal_core.specs.declared.rows.FillRow.{FillRow}
use Rattle.journal_core.specs.declared.asks.AccessKind.{AccessKind}
use Rattle.journal_core.specs.declared.asks.Rights.{Rights}
use Rattle.journal_core.specs.declared.asks.Denial.{Denial}
use Rattle.journal_core.specs.declared.asks.Ask.{Ask}
use Rattle.journal_core.specs.declared.asks.Place.{Place}
use Rattle.journal_core.specs.declared.asks.Place.TheVariants.{Real, GuestReal, Space, Segment}
use Rattle.journal_core.specs.declared.walks.PartResult.TheVariants.{Leaf, Fault as PartFault, Stop as PartStop}
use Rattle.journal_core.specs.declared.walks.Goal.TheVariants.{ForGuest}
use Rattle.journal_core.specs.declared.walks.NestResult.TheVariants.{Page}
use Rattle.journal_core.specs.declared.walks.PartStage.{PartStage}
use Rattle.journal_core.specs.declared.walks.PartStage.TheVariants.{Entry, Tree, Ended}
use Rattle.journal_core.specs.declared.walks.Stage.{Stage}
use Rattle.journal_core.specs.declared.walks.Stage.TheVariants.{SecondWord, PartEntry, PartTable, ProcessEntry, ProcessTable, Over}
use Rattle.journal_core.specs.declared.walks.TrailItem.{TrailItem}
use Rattle.journal_core.specs.declared.walks.TrailItem.TheVariants.{Old, New}
use Rattle.journal_core.specs.Rows.{Rows}
use Rattle.journal_core.specs.Places.{place_of}
use Rattle.journal_core.specs.PartitionWalk.{part_start, has_entry, after_entry, after_tree, real_in, part_after, PartFollows}
use Rattle.journal_core.specs.Rights.{first_denial}
use Rattle.journal_core.specs.Walk.{Task, granted, inside, stage_after, process_start, start_at, task_at, task_of, start_of, partition_rights, access_for, next, never_denied}
use Rattle.journal_core.specs.Following.{IsRead, Follows}
use Rattle.journal_core.specs.Resumed.{readings}
use Rattle.journal_core.specs.Standing.{AreRows, key_of}
use Rattle.journal_core.specs.Fills.{own_key, found_at, NumberedItem, as_old, number_items, new_rows, SoFar, taking, first_found, fills_for, fills_from, nothing_so_far}
use Rattle.journal_core.specs.Translating.{IsFillOfWalk}
use Rattle.walk_laws.specs.KeptBegins.{IsInTree}
use Rattle.walk_laws.proofs.WalkBounds.{walk-few}
use Rattle.walk_laws.proofs.AlikeWalks.{no_way}
use Rattle.walk_laws.proofs.SamePage.{IsLarge, large_start}
use Rattle.walk_laws.proofs.PartSoFar.{PartSoFar, entered_so_far}
use Rattle.walk_laws.proofs.PartServes.{Leaves, after_large}
use Rattle.walk_laws.proofs.LedFills.{make_part, reads_of_fill}
use Rattle.walk_laws.proofs.FreedWalks.{free, Freed, freed_next, freed_start, free_task, lost_leads, right_follows}
use Rattle.walk_laws.proofs.LedFound.{IsLedFill, AreNumbered, rows_in, OwnLed, all_led}

-- what holds of all holds of each
pub contained : {X : Type 0} (P : X → Type 0) (xs : List X) (x : X) → AllByRecursion P xs → Contains xs x → P x
contained P [] x all (k, lt, at) = absurd (not-suc-le-zero lt)
contained P (y ∷ xs) x all (zero, lt, at) = subst P at all.0
contained P (y ∷ xs) x all (suc k, lt, at) = contained P xs x all.1 (k, le_of_suc-le-suc lt, at)

-- the new readings stand from this number on
abbrev pub StandFrom : List ReadRow → ℕ → List ReadRow → Type 0
StandFrom reads first [] = Unit {0}
StandFrom reads first (r ∷ rs) = (slice_get reads first ≡ Some r) × StandFrom reads (first + 1) rs

record Begins {X : Type 0} (x : X) (xs ys : List X) : Type 0 where
  rest : List X
  is : ys ≡ x ∷ rest
  more : take (length xs) rest ≡ xs

begins : {X : Type 0} (x : X) (xs ys : List X) → take (length (x ∷ xs)) ys ≡ x ∷ xs → Begins x xs ys
begins x xs [] e = absurd (none e)
  where
    none : [] ≡ x ∷ xs → ⊥
    none e = cc
begins x xs (y ∷ ys) e =
    let same : y ≡ x = cc in
    let rest : take (length xs) ys ≡ xs = cc in
    record { rest = ys; is = ap (λ z. z ∷ ys) same; more = rest }

record At {X : Type 0} (xs : List X) (i : ℕ) (x : X) (rest : List X) : Type 0 where
  at : slice_get xs i ≡ Some x
  later : drop (suc i) xs ≡ rest

dropped : {X : Type 0} (xs : List X) (i : ℕ) (x : X) (rest : List X) → drop i xs ≡ x ∷ rest → At xs i x rest
dropped [] zero x rest e = absurd (none e)
  where
    none : [] ≡ x ∷ rest → ⊥
    none e = cc
dropped [] (suc i) x rest e = absurd (none e)
  where
    none : [] ≡ x ∷ rest → ⊥
    none e = cc
dropped (y ∷ ys) zero x rest e =
    let same : y ≡ x = cc in
    let more : ys ≡ rest = cc in
    record { at = ap Some same; later = more }
dropped (y ∷ ys) (suc i) x rest e = (let h : At ys i x rest = dropped ys i x rest e in record { at = h.at; later = h.later })

pub stand_from : (reads : List ReadRow) (first : ℕ) (rs : List ReadRow) → take (length rs) (drop first reads) ≡ rs → StandFrom reads first rs
stand_from reads first [] e = tt
stand_from reads first (r ∷ rs) e =
    let b : Begins r rs (drop first reads) = begins r rs (drop first reads) e in
    let a : At reads first r b.rest = dropped reads first r b.rest b.is in
    (a.at, stand_from reads (first + 1) rs (ap (λ n. take (length rs) (drop n reads)) (one_more first) ∙ (ap (λ ys. take (length rs) ys) a.later ∙ b.more)))
  where
    one_more : (n : ℕ) → n + 1 ≡ suc n
    one_more n = omega arith

pub numbered : (reads : List ReadRow) (first : ℕ) (items : List TrailItem) → StandFrom reads first (new_rows items) → AreNumbered reads (number_items reads first items)
numbered reads first [] h = tt
numbered reads first (New r ∷ items) h = (h.0, numbered reads (first + 1) items h.1)
numbered reads first (Old i ∷ items) h = old (slice_get reads i) refl (numbered reads first items h)
  where
    old : (o : Option ReadRow) → slice_get reads i ≡ o → AreNumbered reads (number_items reads first items) → AreNumbered reads (map (as_old i) (option_to_list o) ++ number_items reads first items)
    old None e rest = rest
    old (Some r) e rest = (e, rest)

pub rows_are : (reads : List ReadRow) (first : ℕ) (items : List TrailItem) → rows_in (number_items reads first items) ≡ readings reads items
rows_are reads first [] = refl
rows_are reads first (New r ∷ items) = ap (λ (rs : List ReadRow). r ∷ rs) (rows_are reads (first + 1) items)
rows_are reads first (Old i ∷ items) = old (slice_get reads i) (rows_are reads first items)
  where
    old : (o : Option ReadRow) → rows_in (number_items reads first items) ≡ readings reads items → rows_in (map (as_old i) (option_to_list o) ++ number_items reads first items) ≡ option_to_list o ++ readings reads items
    old None rest = rest
    old (Some r) rest = ap (λ (rs : List ReadRow). r ∷ rs) rest

pub rows_count : (items : List NumberedItem) → length (rows_in items) ≡ length items
rows_count [] = refl
rows_count (item ∷ items) = ap suc (rows_count items)

-- the walk of a guest real address is one of the partition's tree, and ends at a leaf where it leads to a page
record IsGuestWalk (lpid gra : ℕ) (p : PartStage) (rs : List ReadRow) : Type 0 where
  follows : PartFollows lpid gra p rs
  in_tree : IsInTree (part_after lpid gra p rs)

over_guest : (k : Task) (gra at : ℕ) (d : Option Denial) (r : ReadRow) → IsRead k (granted k.ask ForGuest gra at d) r → ⊥
over_guest k gra at None r h = h
over_guest k gra at (Some denial) r h = h

entry_over : (k : Task) (gra at real : ℕ) → PartEntry ForGuest gra at ≡ Over (Page real) → ⊥
entry_over k gra at real e = cc

table_over : (k : Task) (gra : ℕ) (n : _) (real : ℕ) → PartTable ForGuest gra n ≡ Over (Page real) → ⊥
table_over k gra n real e = cc

guest_walk : (k : Task) (gra : ℕ) (p : PartStage) (rs : List ReadRow) (real : ℕ) → Follows k (inside k ForGuest gra p) rs → stage_after k (inside k ForGuest gra p) rs ≡ Over (Page real) → IsGuestWalk k.lpid gra p rs
unfolding inside
guest_walk k gra (Entry at) [] real h leads = absurd (entry_over k gra at real leads)
guest_walk k gra (Tree n) [] real h leads = absurd (table_over k gra n real leads)
guest_walk k gra (Entry at) (r ∷ rs) real h leads =
    let rest : IsGuestWalk k.lpid gra (after_entry k.lpid gra r.value) rs = guest_walk k gra (after_entry k.lpid gra r.value) rs real h.1 leads in
    record { follows = (h.0, rest.follows); in_tree = rest.in_tree }
guest_walk k gra (Tree n) (r ∷ rs) real h leads =
    let rest : IsGuestWalk k.lpid gra (after_tree (n.left - n.size) n.level r.value) rs = guest_walk k gra (after_tree (n.left - n.size) n.level r.value) rs real h.1 leads in
    record { follows = (h.0, rest.follows); in_tree = rest.in_tree }
guest_walk k gra (Ended (Leaf page low att eaa r c)) [] real h leads = record { follows = tt; in_tree = tt }
guest_walk k gra (Ended (Leaf page low att eaa r c)) (q ∷ rs) real h leads = absurd (over_guest k gra (real_in page low gra) (k.deny (partition_rights att eaa r c) (access_for k.ask ForGuest)) q h.0)
guest_walk k gra (Ended (PartFault kind)) rs real h leads = absurd (no_way k _ rs real tt leads)
guest_walk k gra (Ended (PartStop name value)) rs real h leads = absurd (no_way k _ rs real tt leads)

large_leaves : (p : PartStage) → IsInTree p → IsLarge p → Leaves 12 p
large_leaves (Entry at) h large = absurd h
large_leaves (Tree n) h large = omega (arith, large)
large_leaves (Ended (Leaf page low att eaa r c)) h large = large
large_leaves (Ended (PartFault kind)) h large = absurd h
large_leaves (Ended (PartStop name value)) h large = absurd h

-- the ask's own fill, if it has one
own_led : (deny : Rights → AccessKind → Option Denial) (ask : Ask) (p : Place) (reads : List ReadRow) (t n real : ℕ) → OwnLed (task_at deny ask p) (start_at (task_at deny ask p) p) (own_key p) reads t n real
own_led deny ask (Real a) reads t n real x few h = tt
own_led deny ask Segment reads t n real x few h = tt
own_led deny ask (Space lpid pid a) reads t n real x few h =
    (record { of_key = refl; rs = h.ps; named = subst (λ is. AreRows reads is h.ps) (sym (reads_of_fill t n (key_of Translation lpid pid 12 a) x.level x.numbers few)) h.named; follows = h.follows }, tt)
own_led deny ask (GuestReal lpid a) reads t n real x few h =
    let k : Task = task_at deny ask (GuestReal lpid a) in
    let start : PartStage = part_start ask.ptcr lpid in
    let w : IsGuestWalk lpid a start h.ps = guest_walk k a start h.ps real h.follows h.leads in
    let large : IsLarge (part_after lpid a start h.ps) = after_large lpid a start h.ps (large_start ask.ptcr lpid) w.follows in (
      make_part k reads t n x.level (key_of GuestPage lpid 0 12 a) x.numbers a 12 (part_after lpid a start h.ps) few refl (record { ps = h.ps; named = h.named; follows = w.follows; leads = refl }) w.in_tree (large_leaves (part_after lpid a start h.ps) w.in_tree large)
          (λ other page. page),
      tt,
    )

process_so_far : (k : Task) (reads : List ReadRow) (b : Bool) → has_entry k.ask.ptcr k.lpid ≡ b → PartSoFar k reads [] (process_start k)
unfolding process_start
process_so_far k reads true e = rw e tt
process_so_far k reads false e = rw e tt

start_so_far : (deny : Rights → AccessKind → Option Denial) (ask : Ask) (p : Place) (reads : List ReadRow) → PartSoFar (task_at deny ask p) reads [] (start_at (task_at deny ask p) p)
start_so_far deny ask (Real a) reads = tt
start_so_far deny ask (GuestReal lpid a) reads = entered_so_far (task_at deny ask (GuestReal lpid a)) reads [] ForGuest a (has_entry ask.ptcr lpid) refl
start_so_far deny ask (Space lpid pid a) reads = process_so_far (task_at deny ask (Space lpid pid a)) reads (has_entry ask.ptcr lpid) refl
start_so_far deny ask Segment reads = tt

found_free : (k : Task) (s : Stage) (r : ReadRow) → found_at (free k) s r ≡ found_at k s r
found_free k (SecondWord at) r = refl
found_free k (PartEntry goal gra at) r = refl
found_free k (PartTable goal gra n) r = refl
found_free k (ProcessEntry at) r = refl
found_free k (ProcessTable n at) r = refl
found_free k (Over out) r = refl

-- rights do not matter for the fills of a walk to a page that they permit
fills_free : (t n : ℕ) (k : Task) (own : Option Key) (s : Stage) (x : SoFar) (items : List NumberedItem) (real : ℕ) → stage_after k s (rows_in items) ≡ Over (Page real) → fills_from t n (free k) own s x items ≡ fills_from t n k own s x items
fills_free t n k own s x [] real leads = refl
fills_free t n k own s x (item ∷ items) real leads =
    by_next (freed_next k s item.row.value) (fills_free t n k own (next k s item.row.value) (record (taking s x item) { keys = x.keys ++ first_found own x.keys item.is_new (found_at k s item.row) }) items real leads)
  where
    taken : SoFar
    taken = taking s x item

    whole : Task → Option Key → Stage → List FillRow
    whole task o then =
        let found : List Key = first_found own x.keys item.is_new o in
        fills_for t n taken item.row.level found ++ fills_from t n task own then (record taken { keys = x.keys ++ found }) items

    more : SoFar
    more = record (taking s x item) { keys = x.keys ++ first_found own x.keys item.is_new (found_at k s item.row) }

    by_next : Freed (next k s item.row.value) (next (free k) s item.row.value) → fills_from t n (free k) own (next k s item.row.value) more items ≡ fills_from t n k own (next k s item.row.value) more items → whole (free k) (found_at (free k) s item.row) (next (free k) s item.row.value) ≡ whole k (found_at k s item.row) (next k s item.row.value)
    by_next (inr lost) again = lost_leads k (next k s item.row.value) (rows_in items) real lost leads
    by_next (inl e) again =
        let found : List Key = first_found own x.keys item.is_new (found_at k s item.row) in
        ap (λ o. whole (free k) o (next (free k) s item.row.value)) (found_free k s item.row)
        ∙ (ap (λ then. whole (free k) (found_at k s item.row) then) (sym e)
        ∙ ap (λ xs. fills_for t n taken item.row.level found ++ xs) again)

start_free : (t n : ℕ) (k : Task) (own : Option Key) (p : Place) (x : SoFar) (items : List NumberedItem) (real : ℕ) → stage_after k (start_at k p) (rows_in items) ≡ Over (Page real) → Freed (start_at k p) (start_at (free k) p) → fills_from t n (free k) own (start_at (free k) p) x items ≡ fills_from t n k own (start_at k p) x items
start_free t n k own p x items real leads (inr lost) = lost_leads k (start_at k p) (rows_in items) real lost leads
start_free t n k own p x items real leads (inl e) = ap (λ s. fills_from t n (free k) own s x items) (sym e) ∙ fills_free t n k own (start_at k p) x items real leads

-- so the fills run along the walk by the ask's rights too
pub fills_by_right : (t n : ℕ) (ask : Ask) (items : List NumberedItem) (real : ℕ) → stage_after (task_of (first_denial ask) ask) (start_of (first_denial ask) ask) (rows_in items) ≡ Over (Page real) →
    fills_from t n (task_of never_denied ask) (own_key (place_of ask)) (start_of never_denied ask) nothing_so_far items ≡ fills_from t n (task_of (first_denial ask) ask) (own_key (place_of ask)) (start_of (first_denial ask) ask) nothing_so_far items
fills_by_right t n ask items real leads =
    let p : Place = place_of ask in
    let k : Task = task_at (first_denial ask) ask p in
    ap (λ task. fills_from t n task (own_key p) (start_at task p) nothing_so_far items) (sym (free_task (first_denial ask) ask p)) ∙ start_free t n k (own_key p) p nothing_so_far items real leads (freed_start k p)

-- what a finished walk of an ask adds is led
pub walk_led : (rows : Rows) (ptcr : ℕ) (f : FillRow) (w : IsFillOfWalk rows ptcr f) → IsLedFill (task_of (first_denial w.ask) w.ask) (start_of (first_denial w.ask) w.ask) (own_key (place_of w.ask)) rows.reads f
walk_led rows ptcr f w =
    let deny : Rights → AccessKind → Option Denial = first_denial w.ask in
    let k : Task = task_of deny w.ask in
    let start : Stage = start_of deny w.ask in
    let own : Option Key = own_key (place_of w.ask) in
    let items : List NumberedItem = number_items rows.reads w.from w.items in
    let rs : List ReadRow = readings rows.reads w.items in
    let follows : Follows k start rs = right_follows w.ask rs w.real w.walk w.right in
    let are : rows_in items ≡ rs = rows_are rows.reads w.from w.items in
    let few : length rs ≤ 36 = walk-few deny w.ask rs follows in
    let count : length (rows_in items) ≡ length items = rows_count items in
    let same : length (rows_in items) ≡ length rs = ap (λ (xs : List ReadRow). length xs) are in
    let stand : take (length (new_rows w.items)) (drop w.from rows.reads) ≡ new_rows w.items = ap (λ n. take n (drop w.from rows.reads)) (taken w.from (length (new_rows w.items))) ∙ w.new_stand in
    let leads : stage_after k start (rows_in items) ≡ Over (Page w.real) = ap (λ (xs : List ReadRow). stage_after k start xs) are ∙ w.right in
    let of_walk : Contains (fills_from f.thread f.moment k own start nothing_so_far items) f = subst (λ xs. Contains xs f) (fills_by_right f.thread f.moment w.ask items w.real leads) w.is_one in
    contained (IsLedFill k start own rows.reads) (fills_from f.thread f.moment k own start nothing_so_far items) f
    (all_led k start own rows.reads f.thread f.moment w.real (own_led deny w.ask (place_of w.ask) rows.reads f.thread f.moment w.real) start nothing_so_far items
    (start_so_far deny w.ask (place_of w.ask) rows.reads) (record { ps = []; named = tt; follows = tt; leads = refl }) (numbered rows.reads w.from w.items (stand_from rows.reads w.from (new_rows w.items) stand))
    (subst (Follows k start) (sym are) follows) (omega arith) (omega (arith, few, count, same)) leads)
    of_walk
  where
    taken : (a b : ℕ) → b ≡ a + b - a
    taken a b = omega arith
