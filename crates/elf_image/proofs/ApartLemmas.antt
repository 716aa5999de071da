-- Loads and segments that are apart.
use Rattle.std.proofs.Common.{◌≡◌, ℕ, zero, suc, ◌+◌, ◌<◌, Bool, false, List, [], ◌∷◌, ◌++◌, length, take, map, get_or, Option, Some, None, refl, sym, arith, append_assoc}
use Rattle.std.specs.List.{AllPairs, find, position_from}
use Rattle.std.proofs.lemmas.List.{append-nil, get_or-map, get_or-take, get_or_at, get_or_append_left, length-map, length-take-le, length-append}
use Rattle.std.proofs.lemmas.Option.{none-some}
use Rattle.elf_image.specs.declared.load.Load.{Load}
use Rattle.elf_image.specs.Ranges.{meets}
use Rattle.elf_image.specs.Grammar.{meets_load, numbered, overlap_from}
use Rattle.elf_image.proofs.TableLemmas.{position-none}

-- pairs of what a function makes of a list
pub AllPairs-map : {X Y : Type 0} (R : Y → Y → Type 0) (f : X → Y) (xs : List X) → AllPairs (λ a b. R (f a) (f b)) xs → AllPairs R (map f xs)
AllPairs-map R f [] pairs = λ i j d lt within. absurd (omega arith)
AllPairs-map R f (x ∷ xs) pairs = λ i j d lt within.
    let long : j < length (x ∷ xs) = simp length-map at within in
    rw (get_or-map f (x ∷ xs) i x d (omega arith), get_or-map f (x ∷ xs) j x d long) (pairs i j x lt long)

pub AllPairs-of_map : {X Y : Type 0} (R : Y → Y → Type 0) (f : X → Y) (xs : List X) → AllPairs R (map f xs) → AllPairs (λ a b. R (f a) (f b)) xs
AllPairs-of_map R f xs pairs = λ i j d lt within.
    let long : j < length (map f xs) = simp length-map within in
    rw (get_or-map f xs i d (f d) (omega arith), get_or-map f xs j d (f d) within) at (pairs i j (f d) lt long)

-- each load meets none before it
no_earlier : (before rest : List Load) (j : ℕ) (d : Load) → overlap_from before rest ≡ None → j < length rest → position_from (meets_load (get_or rest j d)) 0 (before ++ take j rest) ≡ None
no_earlier before [] j d none within = absurd (omega arith)
no_earlier before (load ∷ rest) zero d none within =
    rw (append-nil before) (first (position_from (meets_load load) 0 before) none)
  where
    first : (o : Option ℕ) → numbered o (length before) (overlap_from (before ++ load ∷ []) rest) ≡ None → o ≡ None
    first None none = refl
    first (Some i) none = absurd (none-some _ (sym none))
no_earlier before (load ∷ rest) (suc j) d none within =
    rw append_assoc at (no_earlier (before ++ load ∷ []) rest j d (later (position_from (meets_load load) 0 before) none) (omega arith))
  where
    later : (o : Option ℕ) → numbered o (length before) (overlap_from (before ++ load ∷ []) rest) ≡ None → overlap_from (before ++ load ∷ []) rest ≡ None
    later None none = none
    later (Some i) none = absurd (none-some _ (sym none))

pub loads_apart : (loads : List Load) → overlap_from [] loads ≡ None → AllPairs (λ a b. meets a.range b.range ≡ false) loads
loads_apart loads none = λ i j d lt within.
    let front : length (take j loads) ≡ j = length-take-le j loads (omega arith) in
    rw (get_or-take j loads i d lt) at (position-none (meets_load (get_or loads j d)) (take j loads) 0 i d (no_earlier [] loads j d none within) (omega arith))

-- no place in a list where each element fails
pub position-of_none : {X : Type 0} (p : X → Bool) (xs : List X) (n : ℕ) → ((k : ℕ) (d : X) → k < length xs → p (get_or xs k d) ≡ false) → position_from p n xs ≡ None
position-of_none p [] n fails = refl
position-of_none p (x ∷ xs) n fails =
    let here : p x ≡ false = fails 0 x (omega arith) in
    rw here (position-of_none p xs (n + 1) (λ k d lt. fails (suc k) d (omega arith)))

pub find-of_none : {X : Type 0} (p : X → Bool) (xs : List X) → ((k : ℕ) (d : X) → k < length xs → p (get_or xs k d) ≡ false) → find p xs ≡ None
find-of_none p [] fails = refl
find-of_none p (x ∷ xs) fails =
    let here : p x ≡ false = fails 0 x (omega arith) in
    rw here (find-of_none p xs (λ k d lt. fails (suc k) d (omega arith)))

-- the first of what follows some others meets none of them
pub first_apart : {X : Type 0} (R : X → X → Type 0) (before rest : List X) (x : X) → AllPairs R (before ++ x ∷ rest) → (k : ℕ) (d : X) → k < length before → R (get_or before k d) x
first_apart R before rest x pairs k d lt =
    let within : length before < length (before ++ x ∷ rest) = simp length-append (omega arith) in
    rw (get_or_append_left before (x ∷ rest) d k lt, get_or_at before x rest d (length before) refl) at (pairs k (length before) d lt within)

-- loads that are apart have no overlap
pub no_overlap : (before rest : List Load) → AllPairs (λ a b. meets a.range b.range ≡ false) (before ++ rest) → overlap_from before rest ≡ None
no_overlap before [] pairs = refl
no_overlap before (load ∷ rest) pairs =
    let none : position_from (meets_load load) 0 before ≡ None = position-of_none (meets_load load) before 0 (first_apart (λ a b. meets a.range b.range ≡ false) before rest load pairs) in
    rw none (no_overlap (before ++ load ∷ []) rest (rw append_assoc pairs))
