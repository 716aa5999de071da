-- A list in which each place was looked at is as the operation leaves it.
use Rattle.std.proofs.Common.{◌≡◌, ℕ, zero, suc, ◌+◌, ◌<◌, ◌%◌, List, [], ◌∷◌, map, Bool, true, false, Option, Some, None, arith, ap, sym, ◌∙◌, refl, subst, inl, inr, ◌⊎◌}
use Rattle.std.specs.Prelude.{filter, slice_get, count_by, length, nat_le, ◌||◌, ◌&&◌, ◌==◌}
use Rattle.std.specs.List.{AllByRecursion, list_any}
use Rattle.std.proofs.lemmas.Bool.Decides.{nat_tests, eqb_tells}
use Rattle.std.proofs.lemmas.List.Sums.{length-filter}
use Rattle.std.proofs.lemmas.Option.{slice_get_within}
use Rattle.journal_core.specs.declared.rows.Key.{Key}
use Rattle.journal_core.specs.declared.rows.DoneRow.{DoneRow}
use Rattle.journal_core.specs.declared.rows.ReadRow.{ReadRow}
use Rattle.journal_core.specs.declared.rows.FillRow.{FillRow}
use Rattle.journal_core.specs.Covers.{reaches, ends_reading}
use Rattle.journal_core.specs.Rows.{Rows}
use Rattle.walk_rows.specs.FillPage.{fill_rows}
use Rattle.translator.specs.declared.places.KeptPlace.{KeptPlace}
use Rattle.translator.specs.PlaceLists.{of_set, HasFours, drop_at, ends_number, after_done, shown_if, shown}
use Rattle.translator.specs.Marks.{dropped_if, settle, settle_at, AreMarked, IsSettled, IsSettledAt, SetIsSettled, SetsAreSettled}
use Rattle.translator.proofs.PlaceLemmas.{count_cons, passes}

some_same : {X : Type 0} (x y : X) → Some x ≡ Some y → x ≡ y
some_same x y e = cc

nothing : {X : Type 0} (x : X) → None ≡ Some x → ⊥
nothing x e = cc

with_mark : KeptPlace → Bool → KeptPlace
with_mark p b = record p { dropped = b }

with_own : (p : KeptPlace) → with_mark p p.dropped ≡ p
unfolding with_mark
with_own p = refl

or_false : (b : Bool) → (b || false) ≡ b
or_false true = refl
or_false false = refl

or_twice : (b e : Bool) → ((b || e) || e) ≡ (b || e)
or_twice true e = refl
or_twice false true = refl
or_twice false false = refl

ended : Rows → ℕ → DoneRow → KeptPlace → Bool
ended rows t d p = ends_number rows.reads t d (slice_get rows.fills p.fill)

-- what was dropped, and what is not ended, stays
if_dropped : (rows : Rows) (t : ℕ) (d : DoneRow) (p : KeptPlace) → p.dropped ≡ true → IsSettled rows t d p
unfolding with_mark
if_dropped rows t d p e = ap (with_mark p) (ap (λ b. b || ends_number rows.reads t d (slice_get rows.fills p.fill)) e ∙ sym e)

if_not_ended : (rows : Rows) (t : ℕ) (d : DoneRow) (p : KeptPlace) → ends_number rows.reads t d (slice_get rows.fills p.fill) ≡ false → IsSettled rows t d p
unfolding with_mark
if_not_ended rows t d p e = ap (with_mark p) (ap (λ b. p.dropped || b) e ∙ or_false p.dropped)

-- after the operation a place is settled
pub after_settled : (rows : Rows) (t : ℕ) (d : DoneRow) (p : KeptPlace) → IsSettled rows t d (after_done rows t d p)
unfolding with_mark
after_settled rows t d p = ap (with_mark p) (or_twice p.dropped (ends_number rows.reads t d (slice_get rows.fills p.fill)))

pub marked_itself : (rows : Rows) (t : ℕ) (d : DoneRow) (ps : List KeptPlace) → AreMarked rows t d ps ps
marked_itself rows t d [] = tt
marked_itself rows t d (p ∷ ps) = (inl refl, marked_itself rows t d ps)

-- dropping a fill that is ended
one_dropped : (rows : Rows) (t : ℕ) (d : DoneRow) (i : ℕ) (p : KeptPlace) → ends_number rows.reads t d (slice_get rows.fills i) ≡ true → (drop_at i p ≡ p) ⊎ (drop_at i p ≡ after_done rows t d p)
unfolding with_mark
one_dropped rows t d i p e = elim (eqb_tells p.fill i) [
  | inl same ↦ inr (ap (with_mark p) (ap (λ b. p.dropped || b) (same.0 ∙ (sym e ∙ ap (λ n. ends_number rows.reads t d (slice_get rows.fills n)) (sym same.1)))))
  | inr other ↦ inl (ap (with_mark p) (ap (λ b. p.dropped || b) other.0 ∙ or_false p.dropped))
]

dropped_marked : (rows : Rows) (t : ℕ) (d : DoneRow) (i : ℕ) (ps : List KeptPlace) → ends_number rows.reads t d (slice_get rows.fills i) ≡ true → AreMarked rows t d ps (map (drop_at i) ps)
dropped_marked rows t d i [] e = tt
dropped_marked rows t d i (p ∷ ps) e = (one_dropped rows t d i p e, dropped_marked rows t d i ps e)

by_mark : (rows : Rows) (t : ℕ) (d : DoneRow) (i : ℕ) (ps : List KeptPlace) (b : Bool) → ends_number rows.reads t d (slice_get rows.fills i) ≡ b → AreMarked rows t d ps (dropped_if b i ps)
by_mark rows t d i ps true e = dropped_marked rows t d i ps e
by_mark rows t d i ps false e = marked_itself rows t d ps

settle_marked : (rows : Rows) (t : ℕ) (d : DoneRow) (o : Option (Key × ℕ)) (ps : List KeptPlace) → AreMarked rows t d ps (settle rows t d o ps)
settle_marked rows t d None ps = marked_itself rows t d ps
settle_marked rows t d (Some x) ps = by_mark rows t d x.1 ps (ends_number rows.reads t d (slice_get rows.fills x.1)) refl

pub settle_at_marked : (rows : Rows) (t : ℕ) (d : DoneRow) (s k : ℕ) (ps : List KeptPlace) → AreMarked rows t d ps (settle_at rows t d s k ps)
settle_at_marked rows t d s k ps = settle_marked rows t d (shown (slice_get (filter (of_set s) ps) k)) ps

-- one mark after another
then_marked : (rows : Rows) (t : ℕ) (d : DoneRow) (p q r : KeptPlace) → (q ≡ p) ⊎ (q ≡ after_done rows t d p) → (r ≡ q) ⊎ (r ≡ after_done rows t d q) → (r ≡ p) ⊎ (r ≡ after_done rows t d p)
then_marked rows t d p q r (inl a) (inl b) = inl (b ∙ a)
then_marked rows t d p q r (inl a) (inr b) = inr (b ∙ ap (after_done rows t d) a)
then_marked rows t d p q r (inr a) (inl b) = inr (b ∙ a)
then_marked rows t d p q r (inr a) (inr b) = inr (b ∙ (ap (after_done rows t d) a ∙ after_settled rows t d p))

pub marked_on : (rows : Rows) (t : ℕ) (d : DoneRow) (ps qs rs : List KeptPlace) → AreMarked rows t d ps qs → AreMarked rows t d qs rs → AreMarked rows t d ps rs
marked_on rows t d [] [] [] a b = tt
marked_on rows t d [] [] (r ∷ rs) a b = absurd b
marked_on rows t d [] (q ∷ qs) rs a b = absurd a
marked_on rows t d (p ∷ ps) [] rs a b = absurd a
marked_on rows t d (p ∷ ps) (q ∷ qs) [] a b = absurd b
marked_on rows t d (p ∷ ps) (q ∷ qs) (r ∷ rs) a b = (then_marked rows t d p q r a.0 b.0, marked_on rows t d ps qs rs a.1 b.1)

-- a mark leaves the set
same_set : (rows : Rows) (t : ℕ) (d : DoneRow) (s : ℕ) (p q : KeptPlace) → (q ≡ p) ⊎ (q ≡ after_done rows t d p) → of_set s q ≡ of_set s p
same_set rows t d s p q (inl e) = ap (of_set s) e
same_set rows t d s p q (inr e) = ap (of_set s) e

-- the place of a set in a list with marks is that of the list, with a mark
record WasAt (rows : Rows) (t : ℕ) (d : DoneRow) (ps : List KeptPlace) (s k : ℕ) (q : KeptPlace) : Type 0 where
  old : KeptPlace
  at : slice_get (filter (of_set s) ps) k ≡ Some old
  mark : (q ≡ old) ⊎ (q ≡ after_done rows t d old)

was_at : (rows : Rows) (t : ℕ) (d : DoneRow) (ps qs : List KeptPlace) (s k : ℕ) (q : KeptPlace) → AreMarked rows t d ps qs → slice_get (filter (of_set s) qs) k ≡ Some q → WasAt rows t d ps s k q
was_at rows t d [] [] s k q m e = absurd (nothing q e)
was_at rows t d [] (y ∷ ys) s k q m e = absurd m
was_at rows t d (x ∷ xs) [] s k q m e = absurd m
was_at rows t d (x ∷ xs) (y ∷ ys) s k q m e = by_set (of_set s x) refl k e (λ n h. was_at rows t d xs ys s n q m.1 h)
  where
    by_set : (b : Bool) → of_set s x ≡ b → (k : ℕ) → slice_get (filter (of_set s) (y ∷ ys)) k ≡ Some q → ((n : ℕ) → slice_get (filter (of_set s) ys) n ≡ Some q → WasAt rows t d xs s n q) → WasAt rows t d (x ∷ xs) s k q
    by_set false off k e down =
        let w : WasAt rows t d xs s k q = down k (rw (same_set rows t d s x y m.0 ∙ off) at e) in
        record { old = w.old; at = rw off w.at; mark = w.mark }
    by_set true on zero e down =
        let here : y ≡ q = some_same y q (rw (same_set rows t d s x y m.0 ∙ on) at e) in
        record { old = x; at = rw on refl; mark = subst (λ z. (z ≡ x) ⊎ (z ≡ after_done rows t d x)) here m.0 }
    by_set true on (suc k) e down =
        let w : WasAt rows t d xs s k q = down k (rw (same_set rows t d s x y m.0 ∙ on) at e) in
        record { old = w.old; at = rw on w.at; mark = w.mark }

-- what is settled stays so when others are marked
mark_settled : (rows : Rows) (t : ℕ) (d : DoneRow) (p q : KeptPlace) → (q ≡ p) ⊎ (q ≡ after_done rows t d p) → IsSettled rows t d p → IsSettled rows t d q
mark_settled rows t d p q (inl e) h = ap (after_done rows t d) e ∙ (h ∙ sym e)
mark_settled rows t d p q (inr e) h = ap (after_done rows t d) e ∙ (after_settled rows t d p ∙ sym e)

pub settled_on : (rows : Rows) (t : ℕ) (d : DoneRow) (ps qs : List KeptPlace) (s k : ℕ) → AreMarked rows t d ps qs → IsSettledAt rows t d ps s k → IsSettledAt rows t d qs s k
settled_on rows t d ps qs s k m h q e = (let w : WasAt rows t d ps s k q = was_at rows t d ps qs s k q m e in mark_settled rows t d w.old q w.mark (h w.old w.at))

-- the place that was looked at is settled
get_mapped : (f : KeptPlace → KeptPlace) (xs : List KeptPlace) (k : ℕ) (p : KeptPlace) → slice_get xs k ≡ Some p → slice_get (map f xs) k ≡ Some (f p)
get_mapped f [] k p e = absurd (nothing p e)
get_mapped f (x ∷ xs) zero p e = ap (λ y. Some (f y)) (some_same x p e)
get_mapped f (x ∷ xs) (suc k) p e = get_mapped f xs k p e

filter_dropped : (i s : ℕ) (ps : List KeptPlace) → filter (of_set s) (map (drop_at i) ps) ≡ map (drop_at i) (filter (of_set s) ps)
filter_dropped i s [] = refl
filter_dropped i s (p ∷ ps) = elim (passes (of_set s p)) [
  | inl on ↦ rw on (ap (λ xs. drop_at i p ∷ xs) (filter_dropped i s ps))
  | inr off ↦ rw off (filter_dropped i s ps)
]

or_true : (b : Bool) → (b || true) ≡ true
or_true true = refl
or_true false = refl

itself : (k : ℕ) → (k == k) ≡ true
itself k = grind (arith, nat_tests)

own_dropped : (p : KeptPlace) → (drop_at p.fill p).dropped ≡ true
own_dropped p = ap (λ b. p.dropped || b) (itself p.fill) ∙ or_true p.dropped

if_ended : (rows : Rows) (t : ℕ) (d : DoneRow) (s k : ℕ) (ps : List KeptPlace) (p : KeptPlace) → slice_get (filter (of_set s) ps) k ≡ Some p → (b : Bool) → ends_number rows.reads t d (slice_get rows.fills p.fill) ≡ b → IsSettledAt rows t d (dropped_if b p.fill ps) s k
if_ended rows t d s k ps p at true e q is =
    let there : slice_get (filter (of_set s) (map (drop_at p.fill) ps)) k ≡ Some (drop_at p.fill p) = ap (λ xs. slice_get xs k) (filter_dropped p.fill s ps) ∙ get_mapped (drop_at p.fill) (filter (of_set s) ps) k p at in
    let same : q ≡ drop_at p.fill p = some_same q (drop_at p.fill p) (sym is ∙ there) in
    if_dropped rows t d q (ap (λ (x : KeptPlace). x.dropped) same ∙ own_dropped p)
if_ended rows t d s k ps p at false e q is = if_not_ended rows t d q (subst (λ (x : KeptPlace). ends_number rows.reads t d (slice_get rows.fills x.fill) ≡ false) (some_same p q (sym at ∙ is)) e)

if_shown : (rows : Rows) (t : ℕ) (d : DoneRow) (s k : ℕ) (ps : List KeptPlace) (p : KeptPlace) → slice_get (filter (of_set s) ps) k ≡ Some p → (b : Bool) → p.dropped ≡ b → IsSettledAt rows t d (settle rows t d (shown_if b p.key p.fill) ps) s k
if_shown rows t d s k ps p at true e q is = if_dropped rows t d q (ap (λ (x : KeptPlace). x.dropped) (some_same q p (sym is ∙ at)) ∙ e)
if_shown rows t d s k ps p at false e q is = if_ended rows t d s k ps p at (ends_number rows.reads t d (slice_get rows.fills p.fill)) refl q is

if_there : (rows : Rows) (t : ℕ) (d : DoneRow) (s k : ℕ) (ps : List KeptPlace) (o : Option KeptPlace) → slice_get (filter (of_set s) ps) k ≡ o → IsSettledAt rows t d (settle rows t d (shown o) ps) s k
if_there rows t d s k ps None e q is = absurd (nothing q (sym e ∙ is))
if_there rows t d s k ps (Some p) e q is = if_shown rows t d s k ps p e p.dropped refl q is

pub settle_settles : (rows : Rows) (t : ℕ) (d : DoneRow) (s k : ℕ) (ps : List KeptPlace) → IsSettledAt rows t d (settle_at rows t d s k ps) s k
settle_settles rows t d s k ps = if_there rows t d s k ps (slice_get (filter (of_set s) ps) k) refl

-- ---- a list in which each set was looked at

-- one more place of a set
below_more : (k m : ℕ) → k < m + 1 → (k < m) ⊎ (k ≡ m)
below_more k m h = grind arith

pub set_more : (rows : Rows) (t : ℕ) (d : DoneRow) (s m : ℕ) (ps : List KeptPlace) → SetIsSettled rows t d ps s m → SetIsSettled rows t d (settle_at rows t d s m ps) s (m + 1)
set_more rows t d s m ps h k below = elim (below_more k m below) [
  | inl less ↦ settled_on rows t d ps (settle_at rows t d s m ps) s k (settle_at_marked rows t d s m ps) (h k less)
  | inr same ↦ subst (IsSettledAt rows t d (settle_at rows t d s m ps) s) (sym same) (settle_settles rows t d s m ps)
]

-- one more set
pub sets_more : (rows : Rows) (t : ℕ) (d : DoneRow) (m : ℕ) (ps qs : List KeptPlace) → AreMarked rows t d ps qs → SetsAreSettled rows t d ps m → SetIsSettled rows t d qs m 4 → SetsAreSettled rows t d qs (m + 1)
sets_more rows t d m ps qs marked h new s below = elim (below_more s m below) [
  | inl less ↦ λ k few. settled_on rows t d ps qs s k marked (h s less k few)
  | inr same ↦ subst (λ n. SetIsSettled rows t d qs n 4) (sym same) new
]

filter_holds : (p : KeptPlace → Bool) (xs : List KeptPlace) (k : ℕ) (x : KeptPlace) → slice_get (filter p xs) k ≡ Some x → p x ≡ true
filter_holds p [] k x e = absurd (nothing x e)
filter_holds p (y ∷ ys) k x e = by (p y) refl k e (λ n h. filter_holds p ys n x h)
  where
    by : (b : Bool) → p y ≡ b → (n : ℕ) → slice_get (filter p (y ∷ ys)) n ≡ Some x → ((m : ℕ) → slice_get (filter p ys) m ≡ Some x → p x ≡ true) → p x ≡ true
    by true on zero h down = subst (λ z. p z ≡ true) (some_same y x (rw on at h)) on
    by true on (suc n) h down = down n (rw on at h)
    by false off n h down = down n (rw off at h)

count_marked : (rows : Rows) (t : ℕ) (d : DoneRow) (s : ℕ) (ps qs : List KeptPlace) → AreMarked rows t d ps qs → count_by (of_set s) qs ≡ count_by (of_set s) ps
count_marked rows t d s [] [] m = refl
count_marked rows t d s [] (q ∷ qs) m = absurd m
count_marked rows t d s (p ∷ ps) [] m = absurd m
count_marked rows t d s (p ∷ ps) (q ∷ qs) m = count_cons (of_set s) q qs ∙ rw (same_set rows t d s p q m.0, count_marked rows t d s ps qs m.1) (sym (count_cons (of_set s) p ps))

-- each place is settled where those of all sets are
all_settled : (rows : Rows) (t : ℕ) (d : DoneRow) (ps : List KeptPlace) → ((s k : ℕ) → IsSettledAt rows t d ps s k) → AllByRecursion (IsSettled rows t d) ps
all_settled rows t d [] h = tt
all_settled rows t d (p ∷ ps) h = (h (p.key.page % 16) 0 p (rw (itself (p.key.page % 16)) refl), all_settled rows t d ps rest)
  where
    rest : (s k : ℕ) → IsSettledAt rows t d ps s k
    rest s k q e = elim (passes (of_set s p)) [
      | inl on ↦ h s (suc k) q (rw on e)
      | inr off ↦ h s k q (rw off e)
    ]

one_done : (rows : Rows) (t : ℕ) (d : DoneRow) (p q : KeptPlace) → (q ≡ p) ⊎ (q ≡ after_done rows t d p) → IsSettled rows t d q → q ≡ after_done rows t d p
one_done rows t d p q (inl e) h = sym h ∙ ap (after_done rows t d) e
one_done rows t d p q (inr e) h = e

all_done : (rows : Rows) (t : ℕ) (d : DoneRow) (ps qs : List KeptPlace) → AreMarked rows t d ps qs → AllByRecursion (IsSettled rows t d) qs → qs ≡ map (after_done rows t d) ps
all_done rows t d [] [] m h = refl
all_done rows t d [] (q ∷ qs) m h = absurd m
all_done rows t d (p ∷ ps) [] m h = absurd m
all_done rows t d (p ∷ ps) (q ∷ qs) m h = ap (λ x. x ∷ qs) (one_done rows t d p q m.0 h.0) ∙ ap (λ xs. after_done rows t d p ∷ xs) (all_done rows t d ps qs m.1 h.1)

of_small : (s : ℕ) (p : KeptPlace) → of_set s p ≡ true → s < 16
of_small s p e = grind (arith, nat_tests)

pub list_done : (rows : Rows) (t : ℕ) (d : DoneRow) (ps qs : List KeptPlace) → HasFours ps → AreMarked rows t d ps qs → SetsAreSettled rows t d qs 16 → qs ≡ map (after_done rows t d) ps
list_done rows t d ps qs fours m h = all_done rows t d ps qs m (all_settled rows t d qs all)
  where
    all : (s k : ℕ) → IsSettledAt rows t d qs s k
    all s k q e = h s (of_small s q (filter_holds (of_set s) qs k q e)) k
        (omega (arith, slice_get_within (filter (of_set s) qs) k q e, length-filter (of_set s) qs, count_marked rows t d s ps qs m, fours s)) q e

-- ---- what is passed over

and_false : (b : Bool) → (b && false) ≡ false
and_false true = refl
and_false false = refl

-- an operation that does not reach a thread ends no reading for it
ends_none : (t : ℕ) (d : DoneRow) (rs : List ReadRow) → reaches d t ≡ false → list_any (λ r. ends_reading t r d) rs ≡ false
unfolding ends_reading
ends_none t d [] away = refl
ends_none t d (r ∷ rs) away = rw (away, and_false (nat_le r.moment d.step)) (ends_none t d rs away)

ends_no_fill : (rows : Rows) (t : ℕ) (d : DoneRow) (o : Option FillRow) → reaches d t ≡ false → ends_number rows.reads t d o ≡ false
ends_no_fill rows t d None away = refl
ends_no_fill rows t d (Some f) away = ends_none t d (fill_rows rows.reads f) away

-- so it leaves each of its lists
pub not_reached : (rows : Rows) (t : ℕ) (d : DoneRow) (ps : List KeptPlace) → reaches d t ≡ false → ps ≡ map (after_done rows t d) ps
not_reached rows t d [] away = refl
not_reached rows t d (p ∷ ps) away =
    ap (λ x. x ∷ ps) (sym (if_not_ended rows t d p (ends_no_fill rows t d (slice_get rows.fills p.fill) away))) ∙ ap (λ xs. after_done rows t d p ∷ xs) (not_reached rows t d ps away)

not_none : (n : ℕ) → (suc n == 0) ≡ true → ⊥
not_none n e = grind (arith, nat_tests)

-- and any operation an empty one
pub none_kept : (rows : Rows) (t : ℕ) (d : DoneRow) (ps : List KeptPlace) → (length ps == 0) ≡ true → ps ≡ map (after_done rows t d) ps
none_kept rows t d [] none = refl
none_kept rows t d (p ∷ ps) none = absurd (not_none (length ps) none)
