-- The first place in a list, the loads of a table, and the first two that meet.
use Rattle.std.proofs.Common.{◌≡◌, ℕ, zero, suc, ◌+◌, ◌*◌, ◌<◌, ◌≤◌, Bool, true, false, cond, List, [], ◌∷◌, ◌++◌, length, take, drop, set, get_or, Option, Some, None, refl, ap, sym, ◌∙◌, arith}
use Rattle.std.specs.List.{position_from}
use Rattle.std.specs.Option.{option_or}
use Rattle.std.proofs.lemmas.List.{take_more, take_more_set, drop_more, drop_all, take-append-drop, length-take-le}
use Rattle.std.proofs.lemmas.Option.{none-some}
use Rattle.elf_image.specs.declared.load.Load.{Load}
use Rattle.elf_image.specs.Grammar.{load_of, loads_from, meets_load, numbered, overlap_from}

position-append : {X : Type 0} (p : X → Bool) (xs ys : List X) (n : ℕ) → position_from p n (xs ++ ys) ≡ option_or (position_from p n xs) (position_from p (n + length xs) ys)
position-append p [] ys n = let e : n + 0 ≡ n = omega arith in rw e refl
position-append {X = X} p (x ∷ xs) ys n = go (p x) (position-append p xs ys (n + 1))
  where
    go : (test : Bool) → position_from p (n + 1) (xs ++ ys) ≡ option_or (position_from p (n + 1) xs) (position_from p (n + 1 + length xs) ys) → cond test (Some n) (position_from p (n + 1) (xs ++ ys)) ≡ option_or (cond test (Some n) (position_from p (n + 1) xs)) (position_from p (n + suc (length xs)) ys)
    go true rest = refl
    go false rest = let e : n + suc (length xs) ≡ n + 1 + length xs = omega arith in rw e rest

-- not at the next place either
pub position-next : {X : Type 0} (p : X → Bool) (xs : List X) (i : ℕ) (d : X) → i < length xs → position_from p 0 (take i xs) ≡ None → p (get_or xs i d) ≡ false → position_from p 0 (take (i + 1) xs) ≡ None
position-next p xs i d lt none fails = rw (take_more xs i d lt, position-append p (take i xs) (get_or xs i d ∷ []) 0, none, fails) refl

-- the first place
pub position-first : {X : Type 0} (p : X → Bool) (xs : List X) (i : ℕ) (d : X) → i < length xs → position_from p 0 (take i xs) ≡ None → p (get_or xs i d) ≡ true → position_from p 0 xs ≡ Some i
position-first p xs i d lt none passes =
    let parts : xs ≡ take i xs ++ (get_or xs i d ∷ drop (i + 1) xs) = sym (take-append-drop i xs) ∙ ap (λ (r : _). take i xs ++ r) (drop_more xs i d lt) in
    let long : 0 + length (take i xs) ≡ i = omega (arith, length-take-le i xs (omega arith)) in
    ap (position_from p 0) parts ∙ (rw (position-append p (take i xs) (get_or xs i d ∷ drop (i + 1) xs) 0, none, passes, long) refl)

-- no place at all
pub position-none : {X : Type 0} (p : X → Bool) (xs : List X) (n k : ℕ) (d : X) → position_from p n xs ≡ None → k < length xs → p (get_or xs k d) ≡ false
position-none p [] n k d none lt = absurd (omega arith)
position-none {X = X} p (x ∷ xs) n k d none lt = go (p x) refl none k lt (λ none' k' lt'. position-none p xs (n + 1) k' d none' lt')
  where
    go : (test : Bool) → p x ≡ test → cond test (Some n) (position_from p (n + 1) xs) ≡ None → (k : ℕ) → k < suc (length xs) → (position_from p (n + 1) xs ≡ None → (k' : ℕ) → k' < length xs → p (get_or xs k' d) ≡ false) → p (get_or (x ∷ xs) k d) ≡ false
    go true is none k lt rest = absurd (none-some n (sym none))
    go false is none zero lt rest = is
    go false is none (suc k) lt rest = rest none k (omega arith)

-- one header more
pub loads_from-push : (bytes : List ℕ) (place n : ℕ) → loads_from bytes place (n + 1) ≡ loads_from bytes place n ++ load_of (drop (place + 56 * n) bytes) ∷ []
loads_from-push bytes place zero = let e : place + 56 * 0 ≡ place = omega arith in rw e refl
loads_from-push bytes place (suc n) =
    let e : suc n + 1 ≡ suc (n + 1) = omega arith in
    let at : place + 56 + 56 * n ≡ place + 56 * suc n = omega arith in
    rw e (ap (λ (ls : List Load). load_of (drop place bytes) ∷ ls) (rw at at (loads_from-push bytes (place + 56) n)))

pub loads-more : (bytes : List ℕ) (table n : ℕ) (ls : List Load) (load : Load) → n < length ls → load ≡ load_of (drop (table + 56 * n) bytes) → take n ls ≡ loads_from bytes table n → take (n + 1) (set ls n load) ≡ loads_from bytes table (n + 1)
loads-more bytes table n ls load lt is so_far =
    take_more_set ls n load lt ∙ (rw (so_far, is) (sym (loads_from-push bytes table n)))

-- a load that meets none before it, and the one after it
pub overlap-next : (ls : List Load) (j : ℕ) (d : Load) (whole : Option (ℕ × ℕ)) → j < length ls → position_from (meets_load (get_or ls j d)) 0 (take j ls) ≡ None → overlap_from (take j ls) (drop j ls) ≡ whole → overlap_from (take (j + 1) ls) (drop (j + 1) ls) ≡ whole
overlap-next ls j d whole lt none so_far =
    let b : Load = get_or ls j d in
    let rest : Option (ℕ × ℕ) = overlap_from (take j ls ++ b ∷ []) (drop (j + 1) ls) in
    let next : overlap_from (take j ls) (drop j ls) ≡ numbered (position_from (meets_load b) 0 (take j ls)) (length (take j ls)) rest = ap (overlap_from (take j ls)) (drop_more ls j d lt) in
    let none_here : numbered (position_from (meets_load b) 0 (take j ls)) (length (take j ls)) rest ≡ rest = ap (λ (o : Option ℕ). numbered o (length (take j ls)) rest) none in
    ap (λ (f : List Load). overlap_from f (drop (j + 1) ls)) (take_more ls j d lt) ∙ sym none_here ∙ sym next ∙ so_far

-- the first load that meets one before it
pub overlap-first : (ls : List Load) (j i : ℕ) (d : Load) (whole : Option (ℕ × ℕ)) → j < length ls → position_from (meets_load (get_or ls j d)) 0 (take j ls) ≡ Some i → overlap_from (take j ls) (drop j ls) ≡ whole → whole ≡ Some (i, j)
overlap-first ls j i d whole lt some so_far =
    let b : Load = get_or ls j d in
    let rest : Option (ℕ × ℕ) = overlap_from (take j ls ++ b ∷ []) (drop (j + 1) ls) in
    let next : overlap_from (take j ls) (drop j ls) ≡ numbered (position_from (meets_load b) 0 (take j ls)) (length (take j ls)) rest = ap (overlap_from (take j ls)) (drop_more ls j d lt) in
    let some_here : numbered (position_from (meets_load b) 0 (take j ls)) (length (take j ls)) rest ≡ Some (i, length (take j ls)) = ap (λ (o : Option ℕ). numbered o (length (take j ls)) rest) some in
    let long : length (take j ls) ≡ j = length-take-le j ls (omega arith) in
    sym so_far ∙ next ∙ some_here ∙ ap (λ (n : ℕ). Some (i, n)) long

-- no load is left
pub overlap-none : (ls : List Load) (j : ℕ) (whole : Option (ℕ × ℕ)) → length ls ≤ j → overlap_from (take j ls) (drop j ls) ≡ whole → whole ≡ None
overlap-none ls j whole le so_far = sym so_far ∙ ap (overlap_from (take j ls)) (drop_all j ls le)
