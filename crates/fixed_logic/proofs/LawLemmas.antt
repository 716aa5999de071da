-- Rotations turn back, and counts of the powers of 2, which are computed one by one.
use Rattle.std.proofs.Common.{◌≡◌, ℕ, zero, suc, ◌+◌, ◌-◌, ◌%◌, ◌^◌, ◌<◌, ◌≤◌, List, [], ◌∷◌, sym, ap, refl, ◌∙◌, arith, inl, inr}
use Rattle.std.specs.Int.{bit_at}
use Rattle.std.proofs.lemmas.Bool.{cases_lt}
use Rattle.std.proofs.lemmas.Nat.Bits.{bit_at-lt}
use Rattle.ppc_bits.specs.Bits.{bit, rotated}
use Rattle.ppc_bits.proofs.Words.{is_weights, weights_bit}
use Rattle.fixed_logic.specs.Parts.{sum_below}
use Rattle.fixed_logic.specs.Counts.{zeros_first, cntlzd_of, cnttzd_of, popcntd_of}

-- ---- rotations

-- bit i of the rotated doubleword
rotated_bit : (v by i : ℕ) → i < 64 → bit 64 (rotated 64 v by) i ≡ bit 64 v ((i + by) % 64)
rotated_bit v by i h =
    weights_bit 64 (λ j. bit 64 v ((63 - j + by) % 64)) (λ j l. bit_at-lt v (63 - (63 - j + by) % 64)) (63 - i) (omega arith)
    ∙ ap (λ n. bit 64 v ((n + by) % 64)) (back i h)
  where
    back : (i : ℕ) → i < 64 → 63 - (63 - i) ≡ i
    back i h = omega arith

there_and_back : (by j : ℕ) → by ≤ 64 → j < 64 → 63 - ((63 - j + (64 - by)) % 64 + by) % 64 ≡ j
there_and_back by j h l = omega arith

turned_below : (n : ℕ) → n % 64 < 64
turned_below n = omega arith

pub turns_back : (v by : ℕ) → v < 2 ^ 64 → by ≤ 64 → rotated 64 (rotated 64 v by) (64 - by) ≡ v
turns_back v by f h = sym (is_weights 64 v (λ j. bit 64 (rotated 64 v by) ((63 - j + (64 - by)) % 64)) f
    (λ j l. ap (bit_at v) (sym (there_and_back by j h l)) ∙ sym (rotated_bit v by ((63 - j + (64 - by)) % 64) (turned_below (63 - j + (64 - by))))))

-- ---- powers of 2

-- f (n - 1), .. f 0
abbrev values : (ℕ → ℕ) → ℕ → List ℕ
values f zero = []
values f (suc n) = f n ∷ values f n

-- what is computed for each number below n holds of all
same_below : (f g : ℕ → ℕ) (n : ℕ) → values f n ≡ values g n → (k : ℕ) → k < n → f k ≡ g k
same_below f g zero e k h = absurd (omega arith)
same_below f g (suc n) e k h =
    let head : f n ≡ g n = cc in
    let tail : values f n ≡ values g n = cc in
    elim (cases_lt k n) [ inl l ↦ same_below f g n tail k l | inr l ↦ (let at : k ≡ n = omega arith in ap f at ∙ head ∙ ap g (sym at)) ]

pub before : (k : ℕ) → k < 64 → cntlzd_of (2 ^ k) ≡ 63 - k
unfolding zeros_first
before = same_below (λ k. cntlzd_of (2 ^ k)) (λ k. 63 - k) 64 refl

pub after : (k : ℕ) → k < 64 → cnttzd_of (2 ^ k) ≡ k
unfolding zeros_first
after = same_below (λ k. cnttzd_of (2 ^ k)) (λ k. k) 64 refl

pub one : (k : ℕ) → k < 64 → popcntd_of (2 ^ k) ≡ 1
unfolding sum_below
one = same_below (λ k. popcntd_of (2 ^ k)) (λ k. 1) 64 refl
