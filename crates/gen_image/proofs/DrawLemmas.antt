-- Draws: how many there are, and how great they are.
use Rattle.std.proofs.Common.{◌≡◌, ℕ, zero, suc, ◌+◌, ◌-◌, ◌*◌, ◌<◌, ◌≤◌, List, [], ◌∷◌, ◌++◌, length, take, drop, refl, ap, sym, ◌∙◌, arith, append_assoc, length-take, length-drop}
use Rattle.std.proofs.lemmas.List.{append-nil}
use Rattle.gen_image.specs.Draws.{next, drawn, draws, first_draws, second_draws}

-- each number of a list is below a bound
abbrev pub AreBelow : ℕ → List ℕ → Type 0
AreBelow bound [] = Unit {0}
AreBelow bound (x ∷ xs) = (x < bound) × AreBelow bound xs

take-below : (bound n : ℕ) (xs : List ℕ) → AreBelow bound xs → AreBelow bound (take n xs)
take-below bound zero xs below = tt
take-below bound (suc n) [] below = tt
take-below bound (suc n) (x ∷ xs) below = (below.0, take-below bound n xs below.1)

drop-below : (bound n : ℕ) (xs : List ℕ) → AreBelow bound xs → AreBelow bound (drop n xs)
drop-below bound zero xs below = below
drop-below bound (suc n) [] below = tt
drop-below bound (suc n) (x ∷ xs) below = drop-below bound n xs below.1

pub length-draws : (size x n : ℕ) → length (draws size x n) ≡ n
length-draws size x zero = refl
length-draws size x (suc n) = ap suc (length-draws size (next x) n)

draws-below : (size x n : ℕ) → 1 ≤ size → AreBelow size (draws size x n)
draws-below size x zero some = tt
draws-below size x (suc n) some = (omega arith, draws-below size (next x) n some)

pub first-length : (seed size : ℕ) → length (first_draws seed size) ≡ size
first-length seed size = omega (arith, length-take size (draws size seed (2 * size)), length-draws size seed (2 * size))

pub second-length : (seed size : ℕ) → length (second_draws seed size) ≡ size
second-length seed size = omega (arith, length-drop size (draws size seed (2 * size)), length-draws size seed (2 * size))

pub first-below : (seed size : ℕ) → 1 ≤ size → AreBelow size (first_draws seed size)
first-below seed size some = take-below size size (draws size seed (2 * size)) (draws-below size seed (2 * size) some)

pub second-below : (seed size : ℕ) → 1 ≤ size → AreBelow size (second_draws seed size)
second-below seed size some = drop-below size size (draws size seed (2 * size)) (draws-below size seed (2 * size) some)

-- One draw more is put behind those before it.
pub drawn-pushed : (size seed x y d i : ℕ) (before after : List ℕ) → i < 2 * size → y ≡ next x → d ≡ drawn size y → after ≡ before ++ d ∷ []
    → before ++ draws size x (2 * size - i) ≡ draws size seed (2 * size) → after ++ draws size y (2 * size - (i + 1)) ≡ draws size seed (2 * size)
drawn-pushed size seed x y d i before after lt next_is drawn_is pushed so_far =
    let rest : ℕ = 2 * size - (i + 1) in
    let left : 2 * size - i ≡ suc rest = omega arith in
    let number : d ≡ drawn size (next x) = drawn_is ∙ ap (drawn size) next_is in
    ap (λ (l : List ℕ). l ++ draws size y rest) pushed
    ∙ ap (λ (n : ℕ). (before ++ n ∷ []) ++ draws size y rest) number
    ∙ ap (λ (n : ℕ). (before ++ drawn size (next x) ∷ []) ++ draws size n rest) next_is
    ∙ append_assoc before (drawn size (next x) ∷ []) (draws size (next x) rest)
    ∙ ap (λ (n : ℕ). before ++ draws size x n) (sym left)
    ∙ so_far

pub all-drawn : (size seed x i : ℕ) (before : List ℕ) → 2 * size ≤ i → before ++ draws size x (2 * size - i) ≡ draws size seed (2 * size) → before ≡ draws size seed (2 * size)
all-drawn size seed x i before all so_far =
    let none : 2 * size - i ≡ 0 = omega arith in
    sym (append-nil before) ∙ ap (λ (n : ℕ). before ++ draws size x n) (sym none) ∙ so_far
