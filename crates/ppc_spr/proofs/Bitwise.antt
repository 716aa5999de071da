-- Words by their bits, as the code joins and masks them; facts of all 64 bits by computing each.
use Rattle.std.proofs.Common.{◌≡◌, ℕ, zero, suc, ◌+◌, ◌-◌, ◌*◌, ◌^◌, ◌<◌, min, max, cond, List, [], ◌∷◌, sym, ap, refl, ◌∙◌, arith, eqb, bit_and, bit_or, inl, inr}
use Rattle.std.specs.Int.{w64, bit_at, bit_not}
use Rattle.std.proofs.lemmas.Bool.{cases_lt}
use Rattle.std.proofs.lemmas.Bool.Decides.{nat_tests}
use Rattle.std.proofs.lemmas.Nat.{or_lt, and_le_l}
use Rattle.std.proofs.lemmas.Nat.Bits.{bit_at_and, bit_at_or, bit_at_not, bit_at-lt}
use Rattle.ppc_bits.specs.Bits.{bit, weights, word_of}
use Rattle.ppc_bits.proofs.Words.{is_weights}

-- f (n - 1), .. f 0
abbrev pub values : {X : Type 0} → (ℕ → X) → ℕ → List X
values f zero = []
values f (suc n) = f n ∷ values f n

-- what is computed for each number below n holds of all
pub same_below : {X : Type 0} (f g : ℕ → X) (n : ℕ) → values f n ≡ values g n → (k : ℕ) → k < n → f k ≡ g k
same_below f g zero e k h = absurd (omega arith)
same_below f g (suc n) e k h =
    let head : f n ≡ g n = cc in
    let tail : values f n ≡ values g n = cc in
    elim (cases_lt k n) [ inl l ↦ same_below f g n tail k l | inr l ↦ (let at : k ≡ n = omega arith in ap f at ∙ head ∙ ap g (sym at)) ]

from_the_low_end : (j : ℕ) → j < 64 → j ≡ 63 - (63 - j)
from_the_low_end j h = omega arith

-- a doubleword with these bits
pub word_is : (v : ℕ) (f : ℕ → ℕ) → v < 2 ^ 64 → ((i : ℕ) → i < 64 → bit 64 v i ≡ f i) → v ≡ word_of 64 f
word_is v f h each = is_weights 64 v (λ j. f (63 - j)) h (λ j l. ap (bit_at v) (from_the_low_end j l) ∙ each (63 - j) (omega arith))

pub and_lt : (a b : ℕ) → a < 2 ^ 64 → bit_and a b < 2 ^ 64
and_lt a b h = omega (arith, and_le_l a b)

-- ---- the bits of one word where a mask has ones, those of another elsewhere

chosen_bit : (x y b : ℕ) → x < 2 → y < 2 → b < 2 → max (min x b) (min y (1 - b)) ≡ cond (eqb b 1) x y
chosen_bit x y b h l m = grind (arith, nat_tests)

pub choice_bit : (r m old i : ℕ) → m < 2 ^ 64 → i < 64 → bit 64 (bit_or (bit_and r m) (bit_and old (bit_not w64 m))) i ≡ cond (eqb (bit 64 m i) 1) (bit 64 r i) (bit 64 old i)
choice_bit r m old i f h =
    let below : 63 - i < 64 = omega arith in
    bit_at_or (bit_and r m) (bit_and old (bit_not w64 m)) (63 - i)
    ∙ ap (λ n. max n (bit_at (bit_and old (bit_not w64 m)) (63 - i))) (bit_at_and r m (63 - i))
    ∙ ap (max (min (bit_at r (63 - i)) (bit_at m (63 - i)))) (bit_at_and old (bit_not w64 m) (63 - i) ∙ ap (min (bit_at old (63 - i))) (bit_at_not w64 m (63 - i) f below))
    ∙ chosen_bit (bit_at r (63 - i)) (bit_at old (63 - i)) (bit_at m (63 - i)) (bit_at-lt r (63 - i)) (bit_at-lt old (63 - i)) (bit_at-lt m (63 - i))

pub choice_lt : (r m old : ℕ) → r < 2 ^ 64 → old < 2 ^ 64 → bit_or (bit_and r m) (bit_and old (bit_not w64 m)) < 2 ^ 64
choice_lt r m old f h = or_lt 64 (bit_and r m) (bit_and old (bit_not w64 m)) (and_lt r m f) (and_lt old (bit_not w64 m) h)

-- ---- bits cleared, and then bits set

masked_bit : (x c s : ℕ) → x < 2 → c < 2 → s < 2 → max (min x (1 - c)) s ≡ cond (eqb s 1) 1 (cond (eqb c 1) 0 x)
masked_bit x c s h l m = grind (arith, nat_tests)

cleared_bit : (x c : ℕ) → x < 2 → c < 2 → min x (1 - c) ≡ cond (eqb c 1) 0 x
cleared_bit x c h l = grind (arith, nat_tests)

pub without_bit : (old c i : ℕ) → c < 2 ^ 64 → i < 64 → bit 64 (bit_and old (bit_not w64 c)) i ≡ cond (eqb (bit 64 c i) 1) 0 (bit 64 old i)
without_bit old c i f h =
    let below : 63 - i < 64 = omega arith in
    bit_at_and old (bit_not w64 c) (63 - i) ∙ ap (min (bit_at old (63 - i))) (bit_at_not w64 c (63 - i) f below)
    ∙ cleared_bit (bit_at old (63 - i)) (bit_at c (63 - i)) (bit_at-lt old (63 - i)) (bit_at-lt c (63 - i))

pub mask_bit : (old c s i : ℕ) → c < 2 ^ 64 → i < 64 → bit 64 (bit_or (bit_and old (bit_not w64 c)) s) i ≡ cond (eqb (bit 64 s i) 1) 1 (cond (eqb (bit 64 c i) 1) 0 (bit 64 old i))
mask_bit old c s i f h =
    let below : 63 - i < 64 = omega arith in
    bit_at_or (bit_and old (bit_not w64 c)) s (63 - i)
    ∙ ap (λ n. max n (bit_at s (63 - i))) (bit_at_and old (bit_not w64 c) (63 - i) ∙ ap (min (bit_at old (63 - i))) (bit_at_not w64 c (63 - i) f below))
    ∙ masked_bit (bit_at old (63 - i)) (bit_at c (63 - i)) (bit_at s (63 - i)) (bit_at-lt old (63 - i)) (bit_at-lt c (63 - i)) (bit_at-lt s (63 - i))

pub mask_is : (old c s : ℕ) (f : ℕ → ℕ) → old < 2 ^ 64 → c < 2 ^ 64 → s < 2 ^ 64 → ((i : ℕ) → i < 64 → cond (eqb (bit 64 s i) 1) 1 (cond (eqb (bit 64 c i) 1) 0 (bit 64 old i)) ≡ f i) → bit_or (bit_and old (bit_not w64 c)) s ≡ word_of 64 f
mask_is old c s f h l m each = word_is (bit_or (bit_and old (bit_not w64 c)) s) f (or_lt 64 (bit_and old (bit_not w64 c)) s (and_lt old (bit_not w64 c) h) m)
    (λ i b. mask_bit old c s i l b ∙ each i b)

-- ---- two descriptions of a doubleword by its bits

same_weights : (k : ℕ) (f g : ℕ → ℕ) → ((j : ℕ) → j < k → f j ≡ g j) → weights k f ≡ weights k g
unfolding weights
same_weights zero f g each = refl
same_weights (suc k) f g each = ap (λ n. n * 2 ^ k + weights k f) (each k (omega arith)) ∙ ap (λ n. g k * 2 ^ k + n) (same_weights k f g (λ j l. each j (omega arith)))

pub same_words : (f g : ℕ → ℕ) → ((i : ℕ) → i < 64 → f i ≡ g i) → word_of 64 f ≡ word_of 64 g
same_words f g each = same_weights 64 (λ j. f (63 - j)) (λ j. g (63 - j)) (λ j l. each (63 - j) (omega arith))
