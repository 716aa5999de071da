-- At most four fills of a set stand.
use Rattle.std.proofs.Common.{◌≡◌, ℕ, zero, suc, ◌+◌, ◌<◌, ◌≤◌, ◌%◌, List, [], ◌∷◌, length, Some, None, Bool, true, false, cond, arith, ap, sym, ◌∙◌, refl, subst, inl, inr, ◌⊎◌}
use Rattle.std.specs.Prelude.{take, drop, slice_get, count_by, ◌==◌, ◌&&◌}
use Rattle.std.specs.List.{AllByRecursion, IsDistinct}
use Rattle.std.proofs.lemmas.Bool.Decides.{nat_tests}
use Rattle.std.proofs.lemmas.List.Sums.{sum_by-cons}
use Rattle.journal_core.specs.declared.rows.KeyKind.{KeyKind}
use Rattle.journal_core.specs.declared.rows.FillRow.{FillRow}
use Rattle.journal_core.specs.Rows.{Rows}
use Rattle.journal_core.specs.Turns.{turn_of}
use Rattle.journal_core.specs.Standing.{kind_number, is_same_set}
use Rattle.walk_laws.specs.KeptLaws.{StandsInSet}

-- the places in the tail of a list
abbrev lowered : List ℕ → List ℕ
lowered [] = []
lowered (zero ∷ is) = lowered is
lowered (suc i ∷ is) = i ∷ lowered is

abbrev same : ℕ → ℕ → Bool
same i j = i == j

-- the element at a place passes
abbrev Passes : {X : Type 0} → (X → Bool) → List X → ℕ → Type 0
Passes {X} p xs i = (x : X) × (slice_get xs i ≡ Some x) × (p x ≡ true)

-- the element at a place passes, and fewer than four after it do
abbrev IsLate : {X : Type 0} → (X → Bool) → List X → ℕ → Type 0
IsLate p xs i = Passes p xs i × (count_by p (drop (i + 1) xs) < 4)

all_lowered : (P Q : ℕ → Type 0) → ((i : ℕ) → P (suc i) → Q i) → (is : List ℕ) → AllByRecursion P is → AllByRecursion Q (lowered is)
all_lowered P Q down [] all = tt
all_lowered P Q down (zero ∷ is) all = all_lowered P Q down is all.1
all_lowered P Q down (suc i ∷ is) all = (down i all.0, all_lowered P Q down is all.1)

all_mapped : {X : Type 0} (P Q : X → Type 0) → ((x : X) → P x → Q x) → (xs : List X) → AllByRecursion P xs → AllByRecursion Q xs
all_mapped P Q on [] all = tt
all_mapped P Q on (x ∷ xs) all = (on x all.0, all_mapped P Q on xs all.1)

differs_down : (i j : ℕ) → same (suc i) (suc j) ≡ false → same i j ≡ false
differs_down i j e = grind (arith, nat_tests)

distinct_lowered : (is : List ℕ) → IsDistinct same is → IsDistinct same (lowered is)
unfolding IsDistinct
distinct_lowered [] d = tt
distinct_lowered (zero ∷ is) d = distinct_lowered is d.1
distinct_lowered (suc i ∷ is) d = (all_lowered (λ j. same (suc i) j ≡ false) (λ j. same i j ≡ false) (λ j e. differs_down i j e) is d.0, distinct_lowered is d.1)

-- numbers without 0 are as many as the places in the tail
no_zero : (is : List ℕ) → AllByRecursion (λ j. same zero j ≡ false) is → length is ≡ length (lowered is)
no_zero [] all = refl
no_zero (zero ∷ is) all = absurd (self all.0)
  where
    self : same zero zero ≡ false → ⊥
    self e = cc
no_zero (suc i ∷ is) all = ap suc (no_zero is all.1)

-- among numbers of which none comes twice 0 comes once or not
parted : (P : ℕ → Type 0) (is : List ℕ) → IsDistinct same is → AllByRecursion P is →
    (length is ≡ length (lowered is)) ⊎ ((length is ≡ suc (length (lowered is))) × P zero)
unfolding IsDistinct
parted P [] d all = inl refl
parted P (zero ∷ is) d all = inr (ap suc (no_zero is d.0), all.0)
parted P (suc i ∷ is) d all = elim (parted P is d.1 all.1) [ inl e ↦ inl (ap suc e) | inr e ↦ inr (ap suc e.0, e.1) ]

nothing : {X : Type 0} (x : X) → None ≡ Some x → ⊥
nothing x e = cc

some_same : {X : Type 0} (x y : X) → Some x ≡ Some y → x ≡ y
some_same x y e = cc

count_cons : {X : Type 0} (p : X → Bool) (x : X) (xs : List X) → count_by p (x ∷ xs) ≡ cond (p x) 1 0 + count_by p xs
count_cons p x xs = sum_by-cons (λ y. cond (p y) 1 0) x xs

first_passes : {X : Type 0} (p : X → Bool) (x : X) (xs : List X) → Passes p (x ∷ xs) zero → p x ≡ true
first_passes p x xs h = ap p (some_same x h.0 h.1) ∙ h.2

passes_down : {X : Type 0} (p : X → Bool) (x : X) (xs : List X) (i : ℕ) → Passes p (x ∷ xs) (suc i) → Passes p xs i
passes_down p x xs i h = (h.0, h.1, h.2)

-- different places whose elements pass are no more than the elements that pass
at_least : {X : Type 0} (p : X → Bool) (xs : List X) (is : List ℕ) → IsDistinct same is → AllByRecursion (Passes p xs) is → length is ≤ count_by p xs
at_least p [] [] d all = omega arith
at_least p [] (i ∷ is) d all = absurd (nothing all.0.0 all.0.1)
at_least p (x ∷ xs) is d all =
    let down : length (lowered is) ≤ count_by p xs = at_least p xs (lowered is) (distinct_lowered is d) (all_lowered (Passes p (x ∷ xs)) (Passes p xs) (passes_down p x xs) is all) in
    elim (parted (Passes p (x ∷ xs)) is d all) [
      | inl e ↦ rw (count_cons p x xs) (omega (arith, e, down))
      | inr e ↦ rw (count_cons p x xs, first_passes p x xs e.1) (omega (arith, e.0, down))
    ]

late_down : {X : Type 0} (p : X → Bool) (x : X) (xs : List X) (i : ℕ) → IsLate p (x ∷ xs) (suc i) → IsLate p xs i
late_down p x xs i h = (passes_down p x xs i h.0, (let e : drop (suc i + 1) (x ∷ xs) ≡ drop (i + 1) xs = ap (λ k. drop k (x ∷ xs)) (one_more i) in rw (sym e) h.1))
  where
    one_more : (i : ℕ) → suc i + 1 ≡ suc (i + 1)
    one_more i = omega arith

-- different places after whose elements fewer than four pass are at most four
pub at_most_four : {X : Type 0} (p : X → Bool) (xs : List X) (is : List ℕ) → IsDistinct same is → AllByRecursion (IsLate p xs) is → length is ≤ 4
at_most_four p [] [] d all = omega arith
at_most_four p [] (i ∷ is) d all = absurd (nothing all.0.0.0 all.0.0.1)
at_most_four p (x ∷ xs) is d all =
    elim (parted (IsLate p (x ∷ xs)) is d all) [
      | inl e ↦ (let down : length (lowered is) ≤ 4 = at_most_four p xs (lowered is) (distinct_lowered is d) (all_lowered (IsLate p (x ∷ xs)) (IsLate p xs) (late_down p x xs) is all) in omega (arith, e, down))
      | inr e ↦ (let down : length (lowered is) ≤ count_by p xs = at_least p xs (lowered is) (distinct_lowered is d)
          (all_lowered (IsLate p (x ∷ xs)) (Passes p xs) (λ i h. passes_down p x xs i h.0) is all) in omega (arith, e.0, down, e.1.1))
    ]

taken : {X : Type 0} (xs : List X) (c i : ℕ) (x : X) → slice_get xs i ≡ Some x → i < c → slice_get (take c xs) i ≡ Some x
taken [] c i x e below = absurd (nothing x e)
taken (y ∷ xs) zero i x e below = absurd (omega arith)
taken (y ∷ xs) (suc c) zero x e below = e
taken (y ∷ xs) (suc c) (suc i) x e below = taken xs c i x e (omega (arith, below))

-- a fill is of this thread, kind and set
abbrev in_set : ℕ → KeyKind → ℕ → FillRow → Bool
in_set t kind set g = (t == g.thread) && ((kind_number kind == kind_number g.key.kind) && (set == g.key.page % 16))

itself : (k : ℕ) → (k == k) ≡ true
itself k = grind (arith, nat_tests)

in_own_set : (f : FillRow) → is_same_set f f ≡ true
in_own_set f = rw (itself f.thread, itself (kind_number f.key.kind), itself (f.key.page % 16)) refl

late : (rows : Rows) (floor t n c : ℕ) (kind : KeyKind) (set i : ℕ) → StandsInSet (turn_of rows floor t n) c kind set i → IsLate (in_set t kind set) (take c rows.fills) i
late rows floor t n c kind set i h =
    let e : is_same_set h.fill ≡ in_set t kind set =
    ap (λ u. in_set u h.fill.key.kind (h.fill.key.page % 16)) h.standing.of_thread
    ∙ (ap (λ k. in_set t k (h.fill.key.page % 16)) h.of_kind ∙ ap (λ s. in_set t kind s) h.of_set) in (
      (h.fill, taken rows.fills c i h.fill h.standing.is h.standing.below, ap (λ q. q h.fill) (sym e) ∙ in_own_set h.fill),
      subst (λ q. count_by q (drop (i + 1) (take c rows.fills)) < 4) e h.standing.few,
    )

pub four_stand : (rows : Rows) (floor t n c : ℕ) (kind : KeyKind) (set : ℕ) (numbers : List ℕ) →
    IsDistinct (λ i j. i == j) numbers → AllByRecursion (StandsInSet (turn_of rows floor t n) c kind set) numbers → length numbers ≤ 4
four_stand rows floor t n c kind set numbers d all =
    at_most_four (in_set t kind set) (take c rows.fills) numbers d (all_mapped (StandsInSet (turn_of rows floor t n) c kind set) (IsLate (in_set t kind set) (take c rows.fills)) (late rows floor t n c kind set) numbers all)
