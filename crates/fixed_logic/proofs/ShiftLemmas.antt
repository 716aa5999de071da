-- Shifts by the whole width or more, and the bits that a shift loses.
use Rattle.std.proofs.Common.{suc, sym, ◌≡◌, ℕ, ◌+◌, ◌-◌, ◌*◌, ◌/◌, ◌%◌, ◌^◌, ◌<◌, ◌≤◌, ap, ◌∙◌, arith, eqb, not, bit_and}
use Rattle.std.specs.Prelude.{ℤ, pos, negsuc, ◌*ℤ◌, neg_ℤ}
use Rattle.ppc_bits.specs.Bits.{modulo}
use Rattle.std.proofs.lemmas.Nat.{div_below, mod_below, mul-mod_first, and_mask, one_shl, pow-add, pow_pos, mod-mul-add}
use Rattle.std.proofs.Math.Nat.{div-add-mod', add-mul-mod_self_right, div-eq_of_lt}
use Rattle.std.proofs.Math.Pow.{pow_mono}

-- the low n bits, as the code takes them at 128 bits
pub low_bits : (v n : ℕ) → n < 128 → not (eqb (bit_and v (1 * 2 ^ n % 2 ^ 128 - 1)) 0) ≡ not (eqb (v % 2 ^ n) 0)
low_bits v n h = ap (λ k. not (eqb (bit_and v (k - 1)) 0)) (one_shl n 128 h) ∙ ap (λ k. not (eqb k 0)) (and_mask v n)

pub left_whole : (s n : ℕ) → 64 ≤ n → 0 ≡ s * 2 ^ n % 2 ^ 64
left_whole s n h =
    let e : n ≡ n - 64 + 64 = omega arith in
    let p : 2 ^ n ≡ 2 ^ (n - 64) * 2 ^ 64 = ap (λ k. 2 ^ k) e ∙ pow-add 2 (n - 64) 64 in
    let q : s * 2 ^ n ≡ s * 2 ^ (n - 64) * 2 ^ 64 + 0 = ap (λ k. s * k) p ∙ grouped s (2 ^ (n - 64)) in
    let r : s * 2 ^ n % 2 ^ 64 ≡ 0 = ap (λ k. k % 2 ^ 64) q ∙ mod-mul-add (s * 2 ^ (n - 64)) (2 ^ 64) 0 (pow_pos 64) in
    omega (arith, r)
  where
    grouped : (s a : ℕ) → s * (a * 2 ^ 64) ≡ s * a * 2 ^ 64 + 0
    grouped s a = omega arith

pub right_whole : (s n : ℕ) → s < 2 ^ 64 → 64 ≤ n → 0 ≡ s % 2 ^ 64 / 2 ^ n
right_whole s n f h =
    let p : 2 ^ 64 ≤ 2 ^ n = pow_mono h in
    let l : s % 2 ^ 64 < 2 ^ n = omega (arith, p) in
    let e : s % 2 ^ 64 / 2 ^ n ≡ 0 = div-eq_of_lt l in
    omega (arith, e)

-- ---- signed products

neg_mod : (q n m : ℕ) → 0 < n → m < q * n → (q * n - 1 - m) % n ≡ n - 1 - m % n
neg_mod q n m p h =
    let a : m / n < q = div_below m n q p h in
    let r : m % n < n = mod_below m n p in
    let e : q ≡ (q - 1 - m / n) + m / n + 1 = omega arith in
    let s : m / n * n + m % n ≡ m = div-add-mod' m n in
    let t : q * n ≡ (q - 1 - m / n) * n + m / n * n + n = ap (λ k. k * n) e ∙ spread (q - 1 - m / n) (m / n) n in
    let u : q * n - 1 - m ≡ (q - 1 - m / n) * n + (n - 1 - m % n) = omega (arith, s, t) in
    ap (λ k. k % n) u ∙ mod-mul-add (q - 1 - m / n) n (n - 1 - m % n) (omega arith)
  where
    spread : (d a n : ℕ) → (d + a + 1) * n ≡ d * n + a * n + n
    spread d a n = omega arith

negative_product : (m p : ℕ) → 0 < p → (2 ^ 64 - 1 - m % 2 ^ 64) * p % 2 ^ 64 ≡ 2 ^ 64 - 1 - (suc m * p - 1) % 2 ^ 64
negative_product m p h =
    let l : m % 2 ^ 64 < 2 ^ 64 = mod_below m (2 ^ 64) (pow_pos 64) in
    let some : 0 < suc (m % 2 ^ 64) * p = positive (m % 2 ^ 64) p h in
    let whole : (2 ^ 64 - 1 - m % 2 ^ 64) * p + suc (m % 2 ^ 64) * p ≡ p * 2 ^ 64 = joined_is (m % 2 ^ 64) p l in
    let less : suc (m % 2 ^ 64) * p - 1 < p * 2 ^ 64 = omega (arith, some, whole) in
    let turned : (2 ^ 64 - 1 - m % 2 ^ 64) * p ≡ p * 2 ^ 64 - 1 - (suc (m % 2 ^ 64) * p - 1) = omega (arith, some, whole) in
    let same : (suc m * p - 1) % 2 ^ 64 ≡ (suc (m % 2 ^ 64) * p - 1) % 2 ^ 64 = low_part m p h in
    ap (λ k. k % 2 ^ 64) turned ∙ neg_mod p (2 ^ 64) (suc (m % 2 ^ 64) * p - 1) (pow_pos 64) less ∙ ap (λ k. 2 ^ 64 - 1 - k) (sym same)
  where
    positive : (l p : ℕ) → 0 < p → 0 < suc l * p
    positive l p h = omega arith

    joined_is : (l p : ℕ) → l < 2 ^ 64 → (2 ^ 64 - 1 - l) * p + suc l * p ≡ p * 2 ^ 64
    joined_is l p h =
        let e : 2 ^ 64 - 1 - l + suc l ≡ 2 ^ 64 = omega arith in
        let d : (2 ^ 64 - 1 - l + suc l) * p ≡ (2 ^ 64 - 1 - l) * p + suc l * p = omega arith in
        let f : (2 ^ 64 - 1 - l + suc l) * p ≡ 2 ^ 64 * p = ap (λ k. k * p) e in
        omega (arith, d, f)

    low_part : (m p : ℕ) → 0 < p → (suc m * p - 1) % 2 ^ 64 ≡ (suc (m % 2 ^ 64) * p - 1) % 2 ^ 64
    low_part m p h =
        let s : m / 2 ^ 64 * 2 ^ 64 + m % 2 ^ 64 ≡ m = div-add-mod' m (2 ^ 64) in
        ap (λ k. (suc k * p - 1) % 2 ^ 64) (sym s) ∙ ap (λ k. k % 2 ^ 64) (apart (m / 2 ^ 64) (m % 2 ^ 64) p h)
        ∙ add-mul-mod_self_right (suc (m % 2 ^ 64) * p - 1) (m / 2 ^ 64 * p) (2 ^ 64)
      where
        apart : (q l p : ℕ) → 0 < p → suc (q * 2 ^ 64 + l) * p - 1 ≡ suc l * p - 1 + q * p * 2 ^ 64
        apart q l p h = omega arith

-- a product modulo 2 ^ 64 takes its factor modulo 2 ^ 64
pub product_is : (z : ℤ) (p : ℕ) → 0 < p → modulo 64 z * p % 2 ^ 64 ≡ modulo 64 (z *ℤ pos p)
product_is (pos a) p h = mul-mod_first a p (2 ^ 64)
product_is (negsuc m) p h =
    let some : suc m * p ≡ suc (suc m * p - 1) = omega arith in
    negative_product m p h ∙ ap (λ k. modulo 64 (neg_ℤ (pos k))) (sym some)
