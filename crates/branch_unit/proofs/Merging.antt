-- Words made of fields, and the merge of two words under a mask, bit by bit.
use Rattle.std.proofs.Common.{◌≡◌, ℕ, zero, suc, ◌+◌, ◌-◌, ◌*◌, ◌/◌, ◌%◌, ◌^◌, ◌<◌, min, max, cond, ap, ◌∙◌, sym, refl, arith, eqb, bit_and, bit_or, inl, inr}
use Rattle.std.specs.Int.{w32, bit_at, bit_not}
use Rattle.std.proofs.lemmas.Bool.Decides.{nat_tests}
use Rattle.std.proofs.lemmas.Bool.{cases_eq}
use Rattle.std.proofs.lemmas.Nat.{or_lt, and_le_l, pow_below, pow-add, shl-shr}
use Rattle.std.proofs.lemmas.Nat.Bits.{bit_at_and, bit_at_or, bit_at_not, bit_at-lt, bit_at-zero, bit_at-pow_same, bit_at-pow_other}
use Rattle.ppc_bits.specs.Bits.{bit, weights, word_of}
use Rattle.ppc_bits.proofs.Words.{is_weights, weights_bit, bit_at_low}
use Rattle.branch_unit.specs.Fields.{with_field, moved_fields, fields_of}
use Rattle.branch_unit.specs.CrLogic.{with_bit}
use Rattle.branch_unit.specs.Masks.{merged, bit_mask, field_mask, fields_mask, repeated_bit, repeated_field}

-- ---- the merge

from_the_low_end : (j : ℕ) → j < 32 → j ≡ 31 - (31 - j)
from_the_low_end j h = omega arith

and_lt : (a b : ℕ) → a < 2 ^ 32 → bit_and a b < 2 ^ 32
and_lt a b h = omega (arith, and_le_l a b)

chosen_bit : (x y b : ℕ) → x < 2 → y < 2 → b < 2 → max (min x b) (min y (1 - b)) ≡ cond (eqb b 1) x y
chosen_bit x y b h l m = grind (arith, nat_tests)

merged_bit : (new mask old j : ℕ) → mask < 2 ^ 32 → j < 32 → bit_at (bit_or (bit_and new mask) (bit_and old (bit_not w32 mask))) j ≡ cond (eqb (bit_at mask j) 1) (bit_at new j) (bit_at old j)
merged_bit new mask old j f h =
    bit_at_or (bit_and new mask) (bit_and old (bit_not w32 mask)) j
    ∙ ap (λ n. max n (bit_at (bit_and old (bit_not w32 mask)) j)) (bit_at_and new mask j)
    ∙ ap (max (min (bit_at new j) (bit_at mask j))) (bit_at_and old (bit_not w32 mask) j ∙ ap (min (bit_at old j)) (bit_at_not w32 mask j f h))
    ∙ chosen_bit (bit_at new j) (bit_at old j) (bit_at mask j) (bit_at-lt new j) (bit_at-lt old j) (bit_at-lt mask j)

pub merge_is : (mask new old : ℕ) → mask < 2 ^ 32 → new < 2 ^ 32 → old < 2 ^ 32 → bit_or (bit_and new mask) (bit_and old (bit_not w32 mask)) ≡ merged mask new old
merge_is mask new old f g h = is_weights 32 _ (λ j. cond (eqb (bit 32 mask (31 - j)) 1) (bit 32 new (31 - j)) (bit 32 old (31 - j)))
    (or_lt 32 (bit_and new mask) (bit_and old (bit_not w32 mask)) (and_lt new mask g) (and_lt old (bit_not w32 mask) h))
    (λ j l. merged_bit new mask old j f l ∙ ap (λ i. cond (eqb (bit_at mask i) 1) (bit_at new i) (bit_at old i)) (from_the_low_end j l))

-- ---- words made of bits

weights_same : (k : ℕ) (f g : ℕ → ℕ) → ((j : ℕ) → j < k → f j ≡ g j) → weights k f ≡ weights k g
unfolding weights
weights_same zero f g each = refl
weights_same (suc k) f g each =
    ap (λ n. n * 2 ^ k + weights k f) (each k (omega arith))
    ∙ ap (λ n. g k * 2 ^ k + n) (weights_same k f g (λ j l. each j (omega arith)))

-- words whose bits are the same are the same
words_same : (f g : ℕ → ℕ) → ((i : ℕ) → i < 32 → f i ≡ g i) → word_of 32 f ≡ word_of 32 g
words_same f g each = weights_same 32 (λ j. f (31 - j)) (λ j. g (31 - j)) (λ j l. each (31 - j) (omega arith))

-- bit i of the word is f i
word_bit : (f : ℕ → ℕ) → ((i : ℕ) → i < 32 → f i < 2) → (i : ℕ) → i < 32 → bit 32 (word_of 32 f) i ≡ f i
word_bit f each i h = weights_bit 32 (λ j. f (31 - j)) (λ j l. each (31 - j) (omega arith)) (31 - i) (omega arith) ∙ ap f (sym (from_the_low_end i h))

-- a merge by a mask and a word whose bits are known
merged_by : (m n : ℕ → ℕ) (mask new old : ℕ) → ((i : ℕ) → i < 32 → m i < 2) → mask ≡ word_of 32 m → ((i : ℕ) → i < 32 → bit 32 new i ≡ n i) → merged mask new old ≡ word_of 32 (λ i. cond (eqb (m i) 1) (n i) (bit 32 old i))
merged_by m n mask new old few e each = words_same (λ i. cond (eqb (bit 32 mask i) 1) (bit 32 new i) (bit 32 old i)) (λ i. cond (eqb (m i) 1) (n i) (bit 32 old i))
    (λ i h.
    let b : bit 32 mask i ≡ m i = ap (λ w. bit 32 w i) e ∙ word_bit m few i h in
    ap (λ x. cond (eqb x 1) (bit 32 new i) (bit 32 old i)) b ∙ ap (λ x. cond (eqb (m i) 1) x (bit 32 old i)) (each i h))

-- ---- fields

-- a choice by a test that is a bit
by_test : (t : ℕ) (b : ℕ) (x y : ℕ) → cond (eqb (cond (eqb t b) 1 0) 1) x y ≡ cond (eqb t b) x y
by_test t b x y = grind (arith, nat_tests)

test_lt : (t b : ℕ) → cond (eqb t b) 1 0 < 2
test_lt t b = grind (arith, nat_tests)

pub with_field_is : (cr bf field : ℕ) → merged (field_mask bf) (repeated_field field) cr ≡ with_field cr bf field
with_field_is cr bf field =
    merged_by (λ i. cond (eqb (i / 4) bf) 1 0) (λ i. bit 4 field (i % 4)) (field_mask bf) (repeated_field field) cr
    (λ i h. test_lt (i / 4) bf) refl
    (λ i h. word_bit (λ i. bit 4 field (i % 4)) (λ i l. bit_at-lt field (4 - 1 - i % 4)) i h)
    ∙ words_same (λ i. cond (eqb (cond (eqb (i / 4) bf) 1 0) 1) (bit 4 field (i % 4)) (bit 32 cr i)) (λ i. cond (eqb (i / 4) bf) (bit 4 field (i % 4)) (bit 32 cr i))
    (λ i h. by_test (i / 4) bf (bit 4 field (i % 4)) (bit 32 cr i))

low_bit : (rs i : ℕ) → i < 32 → bit 32 (rs % 2 ^ 32) i ≡ bit 64 rs (i + 32)
low_bit rs i h =
    let e : 31 - i ≡ 63 - (i + 32) = omega arith in
    bit_at_low rs 32 (31 - i) (omega arith) ∙ ap (bit_at rs) e

pub moved_fields_is : (fxm rs cr : ℕ) → merged (fields_mask fxm) (rs % 2 ^ 32) cr ≡ moved_fields fxm rs cr
moved_fields_is fxm rs cr = merged_by (λ i. bit 8 fxm (i / 4)) (λ i. bit 64 rs (i + 32)) (fields_mask fxm) (rs % 2 ^ 32) cr
    (λ i h. bit_at-lt fxm (8 - 1 - i / 4)) refl (λ i h. low_bit rs i h)

pub fields_of_is : (fxm cr : ℕ) → merged (fields_mask fxm) cr 0 ≡ fields_of fxm cr
fields_of_is fxm cr =
    merged_by (λ i. bit 8 fxm (i / 4)) (λ i. bit 32 cr i) (fields_mask fxm) cr 0 (λ i h. bit_at-lt fxm (8 - 1 - i / 4)) refl (λ i h. refl)
    ∙ words_same (λ i. cond (eqb (bit 8 fxm (i / 4)) 1) (bit 32 cr i) (bit 32 0 i)) (λ i. cond (eqb (bit 8 fxm (i / 4)) 1) (bit 32 cr i) 0)
    (λ i h. ap (cond (eqb (bit 8 fxm (i / 4)) 1) (bit 32 cr i)) (bit_at-zero (31 - i)))

-- ---- the words that the code makes

pub fields_mask_is : (v a b c d e f g h : ℕ) → a ≡ v / 128 % 2 → b ≡ v / 64 % 2 → c ≡ v / 32 % 2 → d ≡ v / 16 % 2 → e ≡ v / 8 % 2 → f ≡ v / 4 % 2 → g ≡ v / 2 % 2 → h ≡ v / 1 % 2
    → ((a * 4096 + b * 256 + c * 16 + d) * 65536 + (e * 4096 + f * 256 + g * 16 + h)) * 15 ≡ fields_mask v
unfolding weights
fields_mask_is v a b c d e f g h p q r s t u w x = omega arith

pub repeated_field_is : (v a b c d : ℕ) → a ≡ v / 8 % 2 → b ≡ v / 4 % 2 → c ≡ v / 2 % 2 → d ≡ v / 1 % 2 → v ≡ a * 8 + b * 4 + c * 2 + d → v * 286331153 ≡ repeated_field v
unfolding weights
repeated_field_is v a b c d p q r s t = omega arith

pub field_mask_is : (bf : ℕ) → bf < 8 → 4026531840 / 2 ^ (4 * bf) ≡ field_mask bf
unfolding weights
field_mask_is zero h = refl
field_mask_is (suc zero) h = refl
field_mask_is (suc (suc zero)) h = refl
field_mask_is (suc (suc (suc zero))) h = refl
field_mask_is (suc (suc (suc (suc zero)))) h = refl
field_mask_is (suc (suc (suc (suc (suc zero))))) h = refl
field_mask_is (suc (suc (suc (suc (suc (suc zero)))))) h = refl
field_mask_is (suc (suc (suc (suc (suc (suc (suc zero))))))) h = refl
field_mask_is (suc (suc (suc (suc (suc (suc (suc (suc n)))))))) h = absurd (omega arith)

-- ---- one bit

pub with_bit_is : (cr bt x : ℕ) → x < 2 → merged (bit_mask bt) (repeated_bit x) cr ≡ with_bit cr bt x
with_bit_is cr bt x few =
    merged_by (λ i. cond (eqb i bt) 1 0) (λ i. x) (bit_mask bt) (repeated_bit x) cr (λ i h. test_lt i bt) refl (λ i h. word_bit (λ j. x) (λ j l. few) i h)
    ∙ words_same (λ i. cond (eqb (cond (eqb i bt) 1 0) 1) x (bit 32 cr i)) (λ i. cond (eqb i bt) x (bit 32 cr i)) (λ i h. by_test i bt x (bit 32 cr i))

-- the word with one bit
power_bit : (bt j : ℕ) → bt < 32 → j < 32 → bit_at (2 ^ (31 - bt)) j ≡ cond (eqb (31 - j) bt) 1 0
power_bit bt j h l = elim (cases_eq j (31 - bt)) [ inl e ↦ same e | inr d ↦ other d ]
  where
    same : j ≡ 31 - bt → bit_at (2 ^ (31 - bt)) j ≡ cond (eqb (31 - j) bt) 1 0
    same e =
        let f : 31 - j ≡ bt = omega arith in
        ap (bit_at (2 ^ (31 - bt))) e ∙ bit_at-pow_same (31 - bt) ∙ grind (arith, nat_tests)

    other : (j ≡ 31 - bt → ⊥) → bit_at (2 ^ (31 - bt)) j ≡ cond (eqb (31 - j) bt) 1 0
    other d =
        let f : (31 - j ≡ bt → ⊥) = λ e. d (omega arith) in
        bit_at-pow_other (31 - bt) j d ∙ grind (arith, nat_tests)

pub bit_mask_is : (bt : ℕ) → bt < 32 → 2147483648 / 2 ^ bt ≡ bit_mask bt
bit_mask_is bt h = split ∙ is_weights 32 (2 ^ (31 - bt)) (λ j. cond (eqb (31 - j) bt) 1 0) (pow_below (31 - bt) 32 (omega arith)) (λ j l. power_bit bt j h l)
  where
    split : 2147483648 / 2 ^ bt ≡ 2 ^ (31 - bt)
    split =
        let e : 31 ≡ 31 - bt + bt = omega arith in
        ap (λ n. 2 ^ n / 2 ^ bt) e ∙ ap (λ n. n / 2 ^ bt) (pow-add 2 (31 - bt) bt) ∙ shl-shr (2 ^ (31 - bt)) bt
