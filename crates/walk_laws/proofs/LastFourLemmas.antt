-- What stands is the newest of its key among the last four of its kind and set, and the newest stands.
use Rattle.std.proofs.Common.{◌≡◌, ℕ, zero, suc, ◌+◌, ◌-◌, ◌<◌, ◌≤◌, ◌%◌, List, [], ◌∷◌, ◌++◌, length, take, drop, Some, None, Bool, true, false, cond, arith, ap, sym, ◌∙◌, refl, subst, inl, inr, ◌⊎◌, length-append, length-drop}
use Rattle.std.specs.Prelude.{slice_get, count_by, filter, ◌&&◌, ◌==◌}
use Rattle.std.specs.List.{AllByRecursion}
use Rattle.std.proofs.lemmas.List.{take-append-drop, drop-append-le, drop-drop, append_assoc}
use Rattle.std.proofs.lemmas.List.Elements.{filter-append}
use Rattle.std.proofs.lemmas.List.Sums.{length-filter, sum_by-cons}
use Rattle.journal_core.specs.declared.rows.KeyKind.{KeyKind}
use Rattle.journal_core.specs.declared.rows.Key.{Key}
use Rattle.journal_core.specs.declared.rows.ReadRow.{ReadRow}
use Rattle.journal_core.specs.declared.rows.FillRow.{FillRow}
use Rattle.journal_core.specs.Turns.{Turn}
use Rattle.journal_core.specs.Covers.{IsCurrent}
use Rattle.journal_core.specs.Standing.{AreRows, IsStanding, fill_reads, kind_number, is_same_set}
use Rattle.journal_core.specs.Fills.{is_same_key}
use Rattle.journal_core.specs.LastFour.{FillAt, fill_at, fills_at, fills_before, is_in_set, last_four, last_in, newest_of_key}
use Rattle.walk_laws.proofs.KeyLemmas.{same_kind, and_left, and_right, eq_of, eq_itself, same_key, key_passes}

some_same : {X : Type 0} (x y : X) → Some x ≡ Some y → x ≡ y
some_same x y e = cc

nothing : {X : Type 0} (x : X) → None ≡ Some x → ⊥
nothing x e = cc

passes : (b : Bool) → (b ≡ true) ⊎ (b ≡ false)
passes true = inl refl
passes false = inr refl

-- what a filter keeps stands in the list, and of what follows it the filter keeps what follows it there
record Sieved {X : Type 0} (p : X → Bool) (xs : List X) (x : X) (after : List X) : Type 0 where
  first : List X
  rest : List X
  are : xs ≡ first ++ x ∷ rest
  pass : p x ≡ true
  of_rest : filter p rest ≡ after

sieved : {X : Type 0} (p : X → Bool) (xs before : List X) (x : X) (after : List X) → filter p xs ≡ before ++ x ∷ after → Sieved p xs x after
sieved p [] [] x after e = absurd (let h : ⊥ = cc in h)
sieved p [] (y ∷ before) x after e = absurd (let h : ⊥ = cc in h)
sieved p (z ∷ xs) before x after e = elim (passes (p z)) [
  | inr off ↦ (let s : Sieved p xs x after = sieved p xs before x after (rw off at e) in record { first = z ∷ s.first; rest = s.rest; are = ap (λ zs. z ∷ zs) s.are; pass = s.pass; of_rest = s.of_rest })
  | inl on ↦ here on before (rw on at e) (λ more h. sieved p xs more x after h)
]
  where
    here : p z ≡ true → (before : List _) → z ∷ filter p xs ≡ before ++ x ∷ after → ((more : List _) → filter p xs ≡ more ++ x ∷ after → Sieved p xs x after) → Sieved p (z ∷ xs) x after
    here on [] h down =
        let head : z ≡ x = cc in
        let tail : filter p xs ≡ after = cc in
        record { first = []; rest = xs; are = ap (λ y. y ∷ xs) head; pass = rw (sym head) on; of_rest = tail }
    here on (y ∷ more) h down =
        let tail : filter p xs ≡ more ++ x ∷ after = cc in
        let s : Sieved p xs x after = down more tail in
        record { first = z ∷ s.first; rest = s.rest; are = ap (λ zs. z ∷ zs) s.are; pass = s.pass; of_rest = s.of_rest }

at_end : {X : Type 0} (before : List X) (x : X) → last_in (before ++ x ∷ []) ≡ Some x
at_end [] x = refl
at_end (y ∷ []) x = refl
at_end (y ∷ (z ∷ before)) x = at_end (z ∷ before) x

-- the last element of a list stands at its end
last_parts : {X : Type 0} (xs : List X) (x : X) → last_in xs ≡ Some x → (before : List X) × (xs ≡ before ++ x ∷ [])
last_parts [] x e = absurd (nothing x e)
last_parts (y ∷ []) x e = ([], ap (λ z. z ∷ []) (some_same y x e))
last_parts {X} (y ∷ (z ∷ more)) x e =
    let rest : (before : List X) × (z ∷ more ≡ before ++ x ∷ []) = last_parts (z ∷ more) x e in
    (y ∷ rest.0, ap (λ zs. y ∷ zs) rest.1)

-- where fewer than four follow an element, it is among the last four
four_from : {X : Type 0} (before after : List X) (x : X) → length after < 4 → (front : List X) × (last_four (before ++ x ∷ after) ≡ front ++ x ∷ after)
four_from before after x few =
    let behind : length (before ++ x ∷ after) - 4 ≤ length before = omega (arith, few, length-append before (x ∷ after)) in
    (drop (length (before ++ x ∷ after) - 4) before, drop-append-le (length (before ++ x ∷ after) - 4) before (x ∷ after) behind)

-- what passes two tests, the first of which fewer than four later ones pass, and no later one both, is the last of the last four
newest_if : {X : Type 0} (p q : X → Bool) (before after : List X) (x : X) → p x ≡ true → q x ≡ true → count_by p after < 4 → filter q (filter p after) ≡ [] →
    last_in (filter q (last_four (filter p (before ++ x ∷ after)))) ≡ Some x
newest_if {X} p q before after x on own few none =
    let split : filter p (before ++ x ∷ after) ≡ filter p before ++ x ∷ filter p after = filter-append p before (x ∷ after) ∙ ap (λ zs. filter p before ++ zs) (rw on refl) in
    let four : (front : List X) × (last_four (filter p before ++ x ∷ filter p after) ≡ front ++ x ∷ filter p after) = four_from (filter p before) (filter p after) x (omega (arith, few, length-filter p after)) in
    let kept : filter q (four.0 ++ x ∷ filter p after) ≡ filter q four.0 ++ x ∷ [] = filter-append q four.0 (x ∷ filter p after) ∙ ap (λ zs. filter q four.0 ++ zs) (rw (own, none) refl) in
    ap (λ zs. last_in (filter q (last_four zs))) split ∙ (ap (λ zs. last_in (filter q zs)) four.1 ∙ (ap last_in kept ∙ at_end (filter q four.0) x))

-- and the last of the last four is one that does
record IsLatest {X : Type 0} (p q : X → Bool) (xs : List X) (x : X) : Type 0 where
  first : List X
  rest : List X
  are : xs ≡ first ++ x ∷ rest
  pass : p x ≡ true
  own : q x ≡ true
  few : count_by p rest < 4
  none : filter q (filter p rest) ≡ []

newest_only : {X : Type 0} (p q : X → Bool) (xs : List X) (x : X) → last_in (filter q (last_four (filter p xs))) ≡ Some x → IsLatest p q xs x
newest_only {X} p q xs x e =
    let ys : List X = filter p xs in
    let m : ℕ = length ys - 4 in
    let end : (before : List X) × (filter q (last_four ys) ≡ before ++ x ∷ []) = last_parts (filter q (last_four ys)) x e in
    let a : Sieved q (last_four ys) x [] = sieved q (last_four ys) end.0 x [] end.1 in
    let all : ys ≡ (take m ys ++ a.first) ++ x ∷ a.rest = sym (take-append-drop m ys) ∙ (ap (λ zs. take m ys ++ zs) a.are ∙ sym (append_assoc (take m ys) a.first (x ∷ a.rest))) in
    let b : Sieved p xs x a.rest = sieved p xs (take m ys ++ a.first) x a.rest all in
    let short : length (last_four ys) ≤ 4 = omega (arith, length-drop m ys) in
    record {
      first = b.first;
      rest = b.rest;
      are = b.are;
      pass = b.pass;
      own = a.pass;
      few = omega (arith, short, ap length a.are, length-append a.first (x ∷ a.rest), length-filter p b.rest, ap length b.of_rest);
      none = ap (filter q) b.of_rest ∙ a.of_rest;
    }

-- which element of a list of fills with numbers is which fill
fills_parts : (n k : ℕ) (f : FillRow) (fs : List FillRow) → slice_get fs k ≡ Some f → fills_at n fs ≡ fills_at n (take k fs) ++ fill_at (n + k) f ∷ fills_at (n + k + 1) (drop (suc k) fs)
fills_parts n k f [] e = absurd (nothing f e)
fills_parts n zero f (g ∷ fs) e = rw (some_same g f e, none_plus n) refl
  where
    none_plus : (n : ℕ) → n + 0 ≡ n
    none_plus n = omega arith
fills_parts n (suc k) f (g ∷ fs) e = ap (λ zs. fill_at n g ∷ zs) (rw (one_less n k) (fills_parts (n + 1) k f fs e))
  where
    one_less : (n k : ℕ) → n + suc k ≡ n + 1 + k
    one_less n k = omega arith

record IsPart (n : ℕ) (fs : List FillRow) (i : ℕ) (f : FillRow) (rest : List FillAt) : Type 0 where
  place : ℕ
  number : i ≡ n + place
  is : slice_get fs place ≡ Some f
  are : rest ≡ fills_at (i + 1) (drop (suc place) fs)

same_parts : (x y : FillAt) (xs ys : List FillAt) → x ∷ xs ≡ y ∷ ys → (x ≡ y) × (xs ≡ ys)
same_parts x y xs ys e = (cc, cc)

parts_of : (n : ℕ) (fs : List FillRow) (before : List FillAt) (i : ℕ) (f : FillRow) (rest : List FillAt) → fills_at n fs ≡ before ++ fill_at i f ∷ rest → IsPart n fs i f rest
parts_of n [] [] i f rest e = absurd (let h : ⊥ = cc in h)
parts_of n [] (y ∷ before) i f rest e = absurd (let h : ⊥ = cc in h)
parts_of n (g ∷ fs) [] i f rest e =
    let h : (fill_at n g ≡ fill_at i f) × (fills_at (n + 1) fs ≡ rest) = same_parts _ _ _ _ e in
    let number : n ≡ i = ap (λ (x : FillAt). x.number) h.0 in
    record { place = 0; number = omega (arith, number); is = ap Some (ap (λ (x : FillAt). x.fill) h.0); are = sym h.1 ∙ ap (λ m. fills_at (m + 1) fs) number }
parts_of n (g ∷ fs) (y ∷ before) i f rest e =
    let h : IsPart (n + 1) fs i f rest = parts_of (n + 1) fs before i f rest (same_parts _ _ _ _ e).1 in
    record { place = suc h.place; number = omega (arith, h.number); is = h.is; are = h.are }

count_cons : {X : Type 0} (p : X → Bool) (x : X) (xs : List X) → count_by p (x ∷ xs) ≡ cond (p x) 1 0 + count_by p xs
count_cons p x xs = sum_by-cons (λ y. cond (p y) 1 0) x xs

-- the fills of a fill's set are counted alike with numbers and without
count_alike : (f : FillRow) (n : ℕ) (fs : List FillRow) → count_by (is_in_set f.thread f.key.kind (f.key.page % 16)) (fills_at n fs) ≡ count_by (is_same_set f) fs
count_alike f n [] = refl
count_alike f n (g ∷ fs) = omega (arith, count_cons (is_in_set f.thread f.key.kind (f.key.page % 16)) (fill_at n g) (fills_at (n + 1) fs), count_cons (is_same_set f) g fs, count_alike f (n + 1) fs)

-- no fill passes both tests
none_kept : (p q : FillAt → Bool) (n : ℕ) (fs : List FillRow) → ((j : ℕ) (g : FillRow) → slice_get fs j ≡ Some g → (m : ℕ) → p (fill_at m g) ≡ true → q (fill_at m g) ≡ true → ⊥) → filter q (filter p (fills_at n fs)) ≡ []
none_kept p q n [] never = refl
none_kept p q n (f ∷ fs) never = elim (passes (p (fill_at n f))) [
  | inr off ↦ rw off (none_kept p q (n + 1) fs (λ j g e. never (suc j) g e))
  | inl on ↦ elim (passes (q (fill_at n f))) [
    | inl own ↦ absurd (never 0 f refl n on own)
    | inr other ↦ rw on (rw other (none_kept p q (n + 1) fs (λ j g e. never (suc j) g e)))
  ]
]

kept_none : (p q : FillAt → Bool) (n : ℕ) (fs : List FillRow) → filter q (filter p (fills_at n fs)) ≡ [] → (j : ℕ) (g : FillRow) → slice_get fs j ≡ Some g → ((m : ℕ) → p (fill_at m g) ≡ true) → ((m : ℕ) → q (fill_at m g) ≡ true) → ⊥
kept_none p q n [] none j g e on own = nothing g e
kept_none p q n (f ∷ fs) none zero g e on own =
    let same : f ≡ g = some_same f g e in
    let pass : p (fill_at n f) ≡ true = ap (λ h. p (fill_at n h)) same ∙ on n in
    let has : q (fill_at n f) ≡ true = ap (λ h. q (fill_at n h)) same ∙ own n in
    let some : fill_at n f ∷ filter q (filter p (fills_at (n + 1) fs)) ≡ [] = rw (pass, has) at none in
    cc
kept_none p q n (f ∷ fs) none (suc j) g e on own = kept_none p q (n + 1) fs (fewer (p (fill_at n f)) (q (fill_at n f)) refl refl) j g e on own
  where
    fewer : (b c : Bool) → p (fill_at n f) ≡ b → q (fill_at n f) ≡ c → filter q (filter p (fills_at (n + 1) fs)) ≡ []
    fewer false c eb ec = rw eb at none
    fewer true false eb ec = rw (eb, ec) at none
    fewer true true eb ec = absurd (let some : fill_at n f ∷ filter q (filter p (fills_at (n + 1) fs)) ≡ [] = rw (eb, ec) at none in let h : ⊥ = cc in h)

get_dropped : {X : Type 0} (xs : List X) (n k : ℕ) → slice_get xs (n + k) ≡ slice_get (drop n xs) k
get_dropped xs zero k = ap (slice_get xs) (none_plus k)
  where
    none_plus : (k : ℕ) → 0 + k ≡ k
    none_plus k = omega arith
get_dropped [] (suc n) k = refl
get_dropped (x ∷ xs) (suc n) k = ap (slice_get (x ∷ xs)) (suc_plus n k) ∙ get_dropped xs n k
  where
    suc_plus : (n k : ℕ) → suc n + k ≡ suc (n + k)
    suc_plus n k = omega arith

get_taken : {X : Type 0} (xs : List X) (c i : ℕ) (x : X) → i < c → slice_get xs i ≡ Some x → slice_get (take c xs) i ≡ Some x
get_taken [] c i x below e = absurd (nothing x e)
get_taken (y ∷ xs) zero i x below e = absurd (omega (arith, below))
get_taken (y ∷ xs) (suc c) zero x below e = e
get_taken (y ∷ xs) (suc c) (suc i) x below e = get_taken xs c i x (omega (arith, below)) e

taken_get : {X : Type 0} (xs : List X) (c i : ℕ) (x : X) → slice_get (take c xs) i ≡ Some x → (i < c) × (slice_get xs i ≡ Some x)
taken_get xs zero i x e = absurd (nothing x e)
taken_get [] (suc c) i x e = absurd (nothing x e)
taken_get (y ∷ xs) (suc c) zero x e = (omega arith, e)
taken_get (y ∷ xs) (suc c) (suc i) x e = (let h : (i < c) × (slice_get xs i ≡ Some x) = taken_get xs c i x e in (omega (arith, h.0), h.1))

-- whether a fill is in a set
in_set : (t : ℕ) (kind : KeyKind) (set m : ℕ) (f : FillRow) → f.thread ≡ t → f.key.kind ≡ kind → f.key.page % 16 ≡ set → is_in_set t kind set (fill_at m f) ≡ true
in_set t kind set m f e1 e2 e3 = rw (e1, e2, e3, eq_itself t, eq_itself (kind_number kind), eq_itself set) refl

record InSet (t : ℕ) (kind : KeyKind) (set : ℕ) (f : FillRow) : Type 0 where
  of_thread : f.thread ≡ t
  of_kind : f.key.kind ≡ kind
  of_set : f.key.page % 16 ≡ set

set_in : (t : ℕ) (kind : KeyKind) (set m : ℕ) (f : FillRow) → is_in_set t kind set (fill_at m f) ≡ true → InSet t kind set f
set_in t kind set m f e =
    let e1 : ((kind_number kind == kind_number f.key.kind) && (set == f.key.page % 16)) ≡ true = and_right (t == f.thread) _ e in
    record {
      of_thread = sym (eq_of t f.thread (and_left (t == f.thread) _ e));
      of_kind = sym (same_kind kind f.key.kind (eq_of _ _ (and_left (kind_number kind == kind_number f.key.kind) (set == f.key.page % 16) e1)));
      of_set = sym (eq_of set (f.key.page % 16) (and_right (kind_number kind == kind_number f.key.kind) (set == f.key.page % 16) e1));
    }

-- a fill that stands is the newest of its key among the last four of its kind and set
pub standing_newest : (v : Turn) (c i : ℕ) (f : FillRow) → IsStanding v c i f → newest_of_key v c f.key ≡ Some (fill_at i f)
standing_newest v c i f h =
    let fs : List FillRow = take c v.rows.fills in
    let k : ℕ = i - v.floor in
    let back : v.floor + k ≡ i = (let x : v.floor ≤ i = h.from_floor in omega (arith, x)) in
    let later : drop (suc k) (drop v.floor fs) ≡ drop (i + 1) fs = drop-drop (suc k) v.floor fs ∙ ap (λ m. drop m fs) (let e : v.floor + suc k ≡ i + 1 = omega (arith, back) in e) in
    let is : slice_get (drop v.floor fs) k ≡ Some f = sym (get_dropped fs v.floor k) ∙ (ap (slice_get fs) back ∙ get_taken v.rows.fills c i f h.below h.is) in
    let p : FillAt → Bool = is_in_set v.thread f.key.kind (f.key.page % 16) in
    let q : FillAt → Bool = λ (x : FillAt). is_same_key x.fill.key f.key in
    let rest : List FillAt = fills_at (i + 1) (drop (i + 1) fs) in
    let parts : fills_before v c ≡ fills_at v.floor (take k (drop v.floor fs)) ++ fill_at i f ∷ rest =
    fills_parts v.floor k f (drop v.floor fs) is ∙ rw (back, later) refl in
    let few : count_by p rest < 4 = subst (λ t. count_by (is_in_set t f.key.kind (f.key.page % 16)) rest < 4) h.of_thread (subst (λ m. m < 4) (sym (count_alike f (i + 1) (drop (i + 1) fs))) h.few) in
    let none : filter q (filter p rest) ≡ [] = none_kept p q (i + 1) (drop (i + 1) fs) (λ j g e m on own. (
    let at : (i + 1 + j < c) × (slice_get v.rows.fills (i + 1 + j) ≡ Some g) = taken_get v.rows.fills c (i + 1 + j) g (get_dropped fs (i + 1) j ∙ e) in
    let past : i < i + 1 + j = omega arith in
    h.last (i + 1 + j) past at.0 g at.1 (set_in v.thread f.key.kind (f.key.page % 16) m g on).of_thread (same_key g.key f.key own))) in
    ap (λ xs. last_in (filter q (last_four (filter p xs)))) parts
    ∙ newest_if p q (fills_at v.floor (take k (drop v.floor fs))) rest (fill_at i f) (in_set v.thread f.key.kind (f.key.page % 16) i f h.of_thread refl refl) (key_passes f.key f.key refl) few none

-- the newest of a key among the last four of its kind and set stands, if its readings are current
pub newest_standing : (v : Turn) (c : ℕ) (key : Key) (i : ℕ) (f : FillRow) (rs : List ReadRow) → newest_of_key v c key ≡ Some (fill_at i f) →
    AreRows v.rows.reads (fill_reads f) rs → AllByRecursion (IsCurrent v.rows.dones v.thread v.step) rs → IsStanding v c i f × (f.key ≡ key)
newest_standing v c key i f rs e named current =
    let fs : List FillRow = take c v.rows.fills in
    let p : FillAt → Bool = is_in_set v.thread key.kind (key.page % 16) in
    let q : FillAt → Bool = λ (x : FillAt). is_same_key x.fill.key key in
    let h : IsLatest p q (fills_before v c) (fill_at i f) = newest_only p q (fills_before v c) (fill_at i f) e in
    let part : IsPart v.floor (drop v.floor fs) i f h.rest = parts_of v.floor (drop v.floor fs) h.first i f h.rest h.are in
    let own : f.key ≡ key = same_key f.key key h.own in
    let set : InSet v.thread key.kind (key.page % 16) f = set_in v.thread key.kind (key.page % 16) i f h.pass in
    let at : (i < c) × (slice_get v.rows.fills i ≡ Some f) = taken_get v.rows.fills c i f (ap (slice_get fs) part.number ∙ (get_dropped fs v.floor part.place ∙ part.is)) in
    let later : drop (suc part.place) (drop v.floor fs) ≡ drop (i + 1) fs = drop-drop (suc part.place) v.floor fs ∙ ap (λ m. drop m fs) (let e : v.floor + suc part.place ≡ i + 1 = omega (arith, part.number) in e) in
    let rest : h.rest ≡ fills_at (i + 1) (drop (i + 1) fs) = part.are ∙ ap (fills_at (i + 1)) later in
    let none : filter q (filter p (fills_at (i + 1) (drop (i + 1) fs))) ≡ [] = ap (λ xs. filter q (filter p xs)) (sym rest) ∙ h.none in
    let few : count_by (is_in_set f.thread f.key.kind (f.key.page % 16)) h.rest < 4 =
    subst (λ t. count_by (is_in_set t f.key.kind (f.key.page % 16)) h.rest < 4) (sym set.of_thread) (subst (λ (x : Key). count_by (is_in_set v.thread x.kind (x.page % 16)) h.rest < 4) (sym own) h.few) in (
      record {
        is = at.1;
        of_thread = set.of_thread;
        from_floor = omega (arith, part.number);
        below = at.0;
        last = λ j after before g is thread same. (
            let place : i + 1 + (j - (i + 1)) ≡ j = omega (arith, after) in
            let there : slice_get (drop (i + 1) fs) (j - (i + 1)) ≡ Some g = sym (get_dropped fs (i + 1) (j - (i + 1))) ∙ (ap (slice_get fs) place ∙ get_taken v.rows.fills c j g before is) in
            let key_is : g.key ≡ key = same ∙ own in
            kept_none p q (i + 1) (drop (i + 1) fs) none (j - (i + 1)) g there
            (λ m. in_set v.thread key.kind (key.page % 16) m g thread (ap (λ (x : Key). x.kind) key_is) (ap (λ (x : Key). x.page % 16) key_is))
            (λ m. key_passes g.key key key_is));
        few = subst (λ m. m < 4) (ap (count_by (is_in_set f.thread f.key.kind (f.key.page % 16))) rest ∙ count_alike f (i + 1) (drop (i + 1) fs)) few;
        readings = rs;
        named = named;
        current = current;
      },
      own,
    )
