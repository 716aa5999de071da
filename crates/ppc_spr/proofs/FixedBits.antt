-- The test of a value's fixed bits by a mask of them, and by each bit.
use Rattle.std.proofs.Common.{◌≡◌, ℕ, zero, suc, ◌-◌, ◌^◌, ◌<◌, min, cond, Bool, true, false, sym, ap, refl, ◌∙◌, arith, eqb, nat_eq, bit_and, List, ◌&&◌, inl, inr}
use Rattle.std.specs.Int.{bit_at}
use Rattle.std.proofs.lemmas.Bool.{cases_lt}
use Rattle.std.proofs.lemmas.Bool.Decides.{nat_tests}
use Rattle.std.proofs.lemmas.Nat.Bits.{bit_at_and, bit_at-lt, same_from_bits_below}
use Rattle.ppc_bits.specs.Bits.{bit, is_among}
use Rattle.ppc_spr.specs.FixedBits.{holds_below, may_be, has_fixed}
use Rattle.ppc_spr.proofs.Bitwise.{and_lt}

both_true : (a b : Bool) → a ≡ true → b ≡ true → (a && b) ≡ true
both_true true b h l = l
both_true false b h l = h

first_true : (a b : Bool) → (a && b) ≡ true → a ≡ true
first_true true b h = refl
first_true false b h = h

second_true : (a b : Bool) → (a && b) ≡ true → b ≡ true
second_true true b h = h
second_true false b h = cc

pub all_hold : (test : ℕ → Bool) (k : ℕ) → ((i : ℕ) → i < k → test i ≡ true) → holds_below k test ≡ true
unfolding holds_below
all_hold test zero each = refl
all_hold test (suc k) each = both_true (test k) (holds_below k test) (each k (omega arith)) (all_hold test k (λ i l. each i (omega arith)))

pub each_holds : (test : ℕ → Bool) (k : ℕ) → holds_below k test ≡ true → (i : ℕ) → i < k → test i ≡ true
unfolding holds_below
each_holds test zero h i l = absurd (omega arith)
each_holds test (suc k) h i l = elim (cases_lt i k) [
  | inl b ↦ each_holds test k (second_true (test k) (holds_below k test) h) i b
  | inr b ↦ (let at : i ≡ k = omega arith in ap test at ∙ first_true (test k) (holds_below k test) h)
]

-- ---- one bit

abbrev allows : Bool → Bool → ℕ → Bool
allows one free x = cond one (eqb x 1) (cond free true (eqb x 0))

allowed : (one free : Bool) (x : ℕ) → x < 2 → min x (cond free 0 1) ≡ cond one 1 0 → allows one free x ≡ true
allowed true true x h e = absurd (omega arith)
allowed true false x h e = grind (arith, nat_tests)
allowed false true x h e = refl
allowed false false x h e = grind (arith, nat_tests)

masked : (one free : Bool) (x : ℕ) → x < 2 → (one && free) ≡ false → allows one free x ≡ true → min x (cond free 0 1) ≡ cond one 1 0
masked true true x h d e = absurd (cc)
masked true false x h d e = grind (arith, nat_tests)
masked false true x h d e = omega arith
masked false false x h d e = grind (arith, nat_tests)

-- ---- all bits

-- `mask` has ones at all places but the free ones, and `word` at those of `ones`, of which none is free
pub record IsMask (ones free : List ℕ) (mask word : ℕ) : Type 0 where
  pub fixed : (i : ℕ) → i < 64 → bit 64 mask i ≡ cond (is_among free i) 0 1
  pub one : (i : ℕ) → i < 64 → bit 64 word i ≡ cond (is_among ones i) 1 0
  pub apart : (i : ℕ) → i < 64 → (is_among ones i && is_among free i) ≡ false
  pub below : word < 2 ^ 64

fixed_bit : {ones free : List ℕ} {mask word : ℕ} → IsMask ones free mask word → (v i : ℕ) → i < 64 → bit 64 (bit_and v mask) i ≡ min (bit 64 v i) (cond (is_among free i) 0 1)
fixed_bit {mask = mask} m v i h = bit_at_and v mask (63 - i) ∙ ap (min (bit 64 v i)) (m.fixed i h)

is_allowed : {ones free : List ℕ} {mask word : ℕ} → IsMask ones free mask word → (v i : ℕ) → i < 64 → bit_and v mask ≡ word → may_be ones free i (bit 64 v i) ≡ true
is_allowed {ones = ones} {free = free} m v i h e = allowed (is_among ones i) (is_among free i) (bit 64 v i) (bit_at-lt v (63 - i)) (sym (fixed_bit m v i h) ∙ ap (λ n. bit 64 n i) e ∙ m.one i h)

pub inside : {ones free : List ℕ} {mask word : ℕ} → IsMask ones free mask word → (v : ℕ) → bit_and v mask ≡ word → has_fixed ones free v ≡ true
inside {ones = ones} {free = free} m v e = all_hold (λ i. may_be ones free i (bit 64 v i)) 64 (λ i h. is_allowed m v i h e)

is_masked : {ones free : List ℕ} {mask word : ℕ} → IsMask ones free mask word → (v i : ℕ) → i < 64 → has_fixed ones free v ≡ true → bit 64 (bit_and v mask) i ≡ bit 64 word i
is_masked {ones = ones} {free = free} m v i h e = fixed_bit m v i h
    ∙ masked (is_among ones i) (is_among free i) (bit 64 v i) (bit_at-lt v (63 - i)) (m.apart i h) (each_holds (λ k. may_be ones free k (bit 64 v k)) 64 e i h)
    ∙ sym (m.one i h)

from_the_high_end : (j : ℕ) → j < 64 → 63 - (63 - j) ≡ j
from_the_high_end j h = omega arith

fixed_from : {ones free : List ℕ} {mask word : ℕ} → IsMask ones free mask word → (v : ℕ) → v < 2 ^ 64 → has_fixed ones free v ≡ true → bit_and v mask ≡ word
fixed_from {mask = mask} {word = word} m v l e = same_from_bits_below 64 (bit_and v mask) word (and_lt v mask l) m.below
    (λ j h. ap (bit_at (bit_and v mask)) (sym (from_the_high_end j h)) ∙ is_masked m v (63 - j) (omega arith) e ∙ ap (bit_at word) (from_the_high_end j h))

pub outside : {ones free : List ℕ} {mask word : ℕ} → IsMask ones free mask word → (v : ℕ) → v < 2 ^ 64 → (bit_and v mask ≡ word → ⊥) → has_fixed ones free v ≡ false
outside {ones = ones} {free = free} m v l no_match = not_true (has_fixed ones free v) (λ e. no_match (fixed_from m v l e))
  where
    not_true : (b : Bool) → (b ≡ true → ⊥) → b ≡ false
    not_true true h = absurd (h refl)
    not_true false h = refl

-- ---- the test

equal : (a b : ℕ) → nat_eq a b ≡ true → a ≡ b
equal a b e = grind (arith, nat_tests)

unequal : (a b : ℕ) → nat_eq a b ≡ false → a ≡ b → ⊥
unequal a b e = grind (arith, nat_tests)

same_tests : (a b : Bool) → (a ≡ true → b ≡ true) → (a ≡ false → b ≡ false) → a ≡ b
same_tests true b h k = sym (h refl)
same_tests false b h k = sym (k refl)

pub masked_test : {ones free : List ℕ} {mask word : ℕ} → IsMask ones free mask word → (v : ℕ) → v < 2 ^ 64 → nat_eq (bit_and v mask) word ≡ has_fixed ones free v
masked_test {ones = ones} {free = free} {mask = mask} {word = word} m v l = same_tests (nat_eq (bit_and v mask) word) (has_fixed ones free v)
    (λ e. inside m v (equal (bit_and v mask) word e))
    (λ e. outside m v l (unequal (bit_and v mask) word e))
