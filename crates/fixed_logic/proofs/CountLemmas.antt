-- std's counts of leading zeros, trailing zeros and ones are those of the definitions.
use Rattle.std.proofs.Common.{◌≡◌, ℕ, zero, suc, ◌+◌, ◌-◌, ◌*◌, ◌/◌, ◌%◌, ◌^◌, ◌<◌, ◌≤◌, inl, inr, sym, ap, ◌∙◌, refl, arith, cond, eqb, count_ones}
use Rattle.std.specs.Int.{bit_at}
use Rattle.std.specs.Int.Count.{count_leading_zeros, count_trailing_zeros, under}
use Rattle.std.proofs.lemmas.Bool.Decides.{nat_tests}
use Rattle.std.proofs.lemmas.Bool.{cases_lt}
use Rattle.std.proofs.lemmas.Nat.{leading_top, ones_cat, ones_le_self, zero_from_ones, pow_pos, div_below, le-div}
use Rattle.std.proofs.Math.Nat.{pow-suc}
use Rattle.std.proofs.Math.Pow.{pow_mono}
use Rattle.std.proofs.lemmas.Nat.Bits.{bit_at-suc, bit_at_above}
use Rattle.ppc_bits.specs.Bits.{bit}
use Rattle.fixed_logic.specs.Parts.{sum_below}
use Rattle.fixed_logic.specs.Counts.{zeros_first, leading_of, trailing_of, ones_of}

-- ---- zeros after the last 1

pub trailing_is : (k n : ℕ) (f : ℕ → ℕ) → ((i : ℕ) → i < k → f i ≡ bit_at n i) → count_trailing_zeros k n ≡ zeros_first k f
unfolding count_trailing_zeros zeros_first
trailing_is zero n f each = refl
trailing_is (suc k) n f each =
    let lowest : f 0 ≡ n % 2 = each 0 (omega arith) ∙ omega arith in
    let rest : count_trailing_zeros k (n / 2) ≡ zeros_first k (λ i. f (suc i)) = trailing_is k (n / 2) (λ i. f (suc i)) (λ i l. each (suc i) (omega arith) ∙ bit_at-suc n i) in
    ap (λ t. under (n % 2) t) rest ∙ first (n % 2) (zeros_first k (λ i. f (suc i))) ∙ ap (λ d. cond (eqb d 0) (1 + zeros_first k (λ i. f (suc i))) 0) (sym lowest)
  where
    first : (d t : ℕ) → under d t ≡ cond (eqb d 0) (1 + t) 0
    first zero t = omega arith
    first (suc d) t = grind (arith, nat_tests)

-- ---- digits

top_digit : (k n : ℕ) → n < 2 ^ suc k → 2 ^ k ≤ n → bit_at n k ≡ 1
top_digit k n h l =
    let p : 0 < 2 ^ k = pow_pos k in
    let q : n < 2 * 2 ^ k = omega (arith, pow-suc 2 k) in
    let r : n / 2 ^ k < 2 = div_below n (2 ^ k) 2 p q in
    let s : 1 ≤ n / 2 ^ k = le-div 1 n (2 ^ k) p (omega arith) in
    omega arith

leading_of_zero : (k : ℕ) → count_leading_zeros k 0 ≡ k
unfolding count_leading_zeros
leading_of_zero zero = refl
leading_of_zero (suc k) = refl

-- ---- ones

one_digit : (d : ℕ) → d < 2 → count_ones d ≡ d
one_digit d h = elim (cases_lt 0 (count_ones d)) [ inl p ↦ some p | inr z ↦ none z ]
  where
    some : 0 < count_ones d → count_ones d ≡ d
    some p = omega (arith, ones_le_self d)

    none : count_ones d ≤ 0 → count_ones d ≡ d
    none z =
        let e : count_ones d ≡ 0 = omega arith in
        e ∙ sym (zero_from_ones d e)

-- the lowest digit, and the others
ones_step : (n : ℕ) → count_ones n ≡ n % 2 + count_ones (n / 2)
ones_step n =
    let split : n / 2 * 2 ^ 1 + n % 2 ≡ n = omega arith in
    let apart : count_ones (n / 2 * 2 ^ 1 + n % 2) ≡ count_ones (n / 2) + count_ones (n % 2) = ones_cat 1 (n / 2) (n % 2) (omega arith) in
    let low : count_ones (n % 2) ≡ n % 2 = one_digit (n % 2) (omega arith) in
    ap count_ones (sym split) ∙ apart ∙ omega (arith, low)

pub ones_are : (k n : ℕ) (f : ℕ → ℕ) → n < 2 ^ k → ((i : ℕ) → i < k → f i ≡ bit_at n (k - 1 - i)) → count_ones n ≡ sum_below k f
unfolding sum_below
ones_are zero n f h each = ap count_ones (nothing n h) ∙ one_digit 0 (omega arith)
  where
    nothing : (n : ℕ) → n < 2 ^ 0 → n ≡ 0
    nothing n h = omega arith
ones_are (suc k) n f h each =
    let half : n / 2 < 2 ^ k = omega (arith, pow-suc 2 k) in
    let lowest : f k ≡ n % 2 = each k (omega arith) ∙ ap (bit_at n) (last k) ∙ omega arith in
    let rest : count_ones (n / 2) ≡ sum_below k f = ones_are k (n / 2) f half (λ i l. each i (omega arith) ∙ ap (bit_at n) (next k i l) ∙ bit_at-suc n (k - 1 - i)) in
    ones_step n ∙ ap (λ t. t + count_ones (n / 2)) (sym lowest) ∙ ap (λ t. f k + t) rest
  where
    last : (k : ℕ) → suc k - 1 - k ≡ 0
    last k = omega arith

    next : (k i : ℕ) → i < k → suc k - 1 - i ≡ suc (k - 1 - i)
    next k i l = omega arith

pub ones_of_is : (k n : ℕ) → n < 2 ^ k → count_ones n ≡ ones_of k n
ones_of_is k n h = ones_are k n (λ i. bit k n i) h (λ i l. refl)

-- ---- zeros before the first 1

-- where 2 ^ i is at most a number below 2 ^ (j + 1), i is at most j
place_le : (a i j : ℕ) → 2 ^ i ≤ a → a < 2 ^ suc j → i ≤ j
place_le a i j h l = elim (cases_lt j i) [ inl b ↦ absurd (no b) | inr b ↦ b ]
  where
    no : j < i → ⊥
    no b = let p : 2 ^ suc j ≤ 2 ^ i = pow_mono b in omega arith

-- a top digit 1 leaves no zeros before it
leading_one : (k n : ℕ) → n < 2 ^ suc k → 2 ^ k ≤ n → count_leading_zeros (suc k) n ≡ 0
leading_one k n h l =
    let some : 0 < n = omega (arith, pow_pos k) in
    let top = leading_top (suc k) n some h in
    let place : k ≤ top.0 = place_le n k top.0 l top.3 in
    omega (arith, top.1)

-- a top digit 0 is one zero more
leading_zero : (k n : ℕ) → n < 2 ^ k → count_leading_zeros (suc k) n ≡ suc (count_leading_zeros k n)
leading_zero k n h = elim (cases_lt 0 n) [ inl p ↦ some p | inr z ↦ none z ]
  where
    none : n ≤ 0 → count_leading_zeros (suc k) n ≡ suc (count_leading_zeros k n)
    none z =
        let e : n ≡ 0 = omega arith in
        ap (count_leading_zeros (suc k)) e ∙ leading_of_zero (suc k) ∙ ap suc (sym (leading_of_zero k)) ∙ ap (λ m. suc (count_leading_zeros k m)) (sym e)

    some : 0 < n → count_leading_zeros (suc k) n ≡ suc (count_leading_zeros k n)
    some p =
        let wide : n < 2 ^ suc k = omega (arith, pow-suc 2 k) in
        let a = leading_top (suc k) n p wide in
        let b = leading_top k n p h in
        let ab : a.0 ≤ b.0 = place_le n a.0 b.0 a.2 b.3 in
        let ba : b.0 ≤ a.0 = place_le n b.0 a.0 b.2 a.3 in
        omega (arith, a.1, b.1)

pub leading_is : (k n : ℕ) (f : ℕ → ℕ) → n < 2 ^ k → ((i : ℕ) → i < k → f i ≡ bit_at n (k - 1 - i)) → count_leading_zeros k n ≡ zeros_first k f
unfolding count_leading_zeros zeros_first
leading_is zero n f h each = refl
leading_is (suc k) n f h each =
    let rest : n < 2 ^ k → count_leading_zeros k n ≡ zeros_first k (λ i. f (suc i)) = λ l. leading_is k n (λ i. f (suc i)) l (λ i m. each (suc i) (omega arith) ∙ ap (bit_at n) (next k i m)) in
    elim (cases_lt n (2 ^ k)) [ inl l ↦ below l (rest l) | inr g ↦ above g ]
  where
    next : (k i : ℕ) → i < k → suc k - 1 - suc i ≡ k - 1 - i
    next k i m = omega arith

    top_place : (k : ℕ) → suc k - 1 - 0 ≡ k
    top_place k = omega arith

    first : f 0 ≡ bit_at n k
    first = each 0 (omega arith) ∙ ap (bit_at n) (top_place k)

    below : n < 2 ^ k → count_leading_zeros k n ≡ zeros_first k (λ i. f (suc i)) → count_leading_zeros (suc k) n ≡ cond (eqb (f 0) 0) (1 + zeros_first k (λ i. f (suc i))) 0
    below l rest =
        let e : f 0 ≡ 0 = first ∙ bit_at_above n k k l (omega arith) in
        leading_zero k n l ∙ ap suc rest ∙ rw e (omega arith)

    above : 2 ^ k ≤ n → count_leading_zeros (suc k) n ≡ cond (eqb (f 0) 0) (1 + zeros_first k (λ i. f (suc i))) 0
    above g =
        let e : f 0 ≡ 1 = first ∙ top_digit k n h g in
        leading_one k n h g ∙ rw e refl

pub leading_of_is : (k n : ℕ) → n < 2 ^ k → count_leading_zeros k n ≡ leading_of k n
leading_of_is k n h = leading_is k n (λ i. bit k n i) h (λ i l. refl)

pub trailing_of_is : (k n : ℕ) → count_trailing_zeros k n ≡ trailing_of k n
trailing_of_is k n = trailing_is k n (λ i. bit k n (k - 1 - i)) (λ i l. ap (bit_at n) (turned i l))
  where
    turned : (i : ℕ) → i < k → k - 1 - (k - 1 - i) ≡ i
    turned i l = omega arith
