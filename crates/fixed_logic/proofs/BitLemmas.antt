-- Operations of machine words bit by bit, and insertion under a mask.
use Rattle.std.proofs.Common.{◌≡◌, ℕ, ◌+◌, ◌-◌, ◌%◌, ◌^◌, ◌<◌, min, max, cond, ap, ◌∙◌, arith, eqb, bit_and, bit_or, bit_xor}
use Rattle.std.specs.Int.{w64, bit_at, bit_not}
use Rattle.std.proofs.lemmas.Bool.Decides.{nat_tests}
use Rattle.std.proofs.lemmas.Nat.{or_lt, xor_lt, and_le_l}
use Rattle.std.proofs.lemmas.Nat.Bits.{bit_at_and, bit_at_or, bit_at_xor, bit_at_not, bit_at-lt}
use Rattle.ppc_bits.specs.Bits.{bit}
use Rattle.ppc_bits.proofs.Words.{is_weights}
use Rattle.fixed_logic.specs.Bitwise.{bitwise, and_of, or_of, xor_of, nand_of, nor_of, eqv_of, andc_of, orc_of}
use Rattle.fixed_logic.specs.Rotates.{inserted}

from_the_low_end : (j : ℕ) → j < 64 → j ≡ 63 - (63 - j)
from_the_low_end j h = omega arith

-- the doubleword with these bits
bitwise_is : (f : ℕ → ℕ → ℕ) (a b r : ℕ) → r < 2 ^ 64 → ((j : ℕ) → j < 64 → bit_at r j ≡ f (bit_at a j) (bit_at b j)) → r ≡ bitwise f a b
bitwise_is f a b r h each = is_weights 64 r (λ j. f (bit 64 a (63 - j)) (bit 64 b (63 - j))) h
    (λ j l. each j l ∙ ap (λ i. f (bit_at a i) (bit_at b i)) (from_the_low_end j l))

not_lt : (n : ℕ) → bit_not w64 n < 2 ^ 64
not_lt n = omega arith

and_lt : (a b : ℕ) → a < 2 ^ 64 → bit_and a b < 2 ^ 64
and_lt a b h = omega (arith, and_le_l a b)

pub and_is : (a b : ℕ) → a < 2 ^ 64 → bit_and a b ≡ and_of a b
and_is a b h = bitwise_is (λ x y. min x y) a b _ (and_lt a b h) (λ j l. bit_at_and a b j)

pub or_is : (a b : ℕ) → a < 2 ^ 64 → b < 2 ^ 64 → bit_or a b ≡ or_of a b
or_is a b h g = bitwise_is (λ x y. max x y) a b _ (or_lt 64 a b h g) (λ j l. bit_at_or a b j)

pub xor_is : (a b : ℕ) → a < 2 ^ 64 → b < 2 ^ 64 → bit_xor a b ≡ xor_of a b
xor_is a b h g = bitwise_is (λ x y. (x + y) % 2) a b _ (xor_lt 64 a b h g) (λ j l. bit_at_xor a b j)

pub nand_is : (a b : ℕ) → a < 2 ^ 64 → bit_not w64 (bit_and a b) ≡ nand_of a b
nand_is a b h = bitwise_is (λ x y. 1 - min x y) a b _ (not_lt (bit_and a b))
    (λ j l. bit_at_not w64 (bit_and a b) j (and_lt a b h) l ∙ ap (λ n. 1 - n) (bit_at_and a b j))

pub nor_is : (a b : ℕ) → a < 2 ^ 64 → b < 2 ^ 64 → bit_not w64 (bit_or a b) ≡ nor_of a b
nor_is a b h g = bitwise_is (λ x y. 1 - max x y) a b _ (not_lt (bit_or a b))
    (λ j l. bit_at_not w64 (bit_or a b) j (or_lt 64 a b h g) l ∙ ap (λ n. 1 - n) (bit_at_or a b j))

pub eqv_is : (a b : ℕ) → a < 2 ^ 64 → b < 2 ^ 64 → bit_not w64 (bit_xor a b) ≡ eqv_of a b
eqv_is a b h g = bitwise_is (λ x y. 1 - (x + y) % 2) a b _ (not_lt (bit_xor a b))
    (λ j l. bit_at_not w64 (bit_xor a b) j (xor_lt 64 a b h g) l ∙ ap (λ n. 1 - n) (bit_at_xor a b j))

pub andc_is : (a b : ℕ) → a < 2 ^ 64 → b < 2 ^ 64 → bit_and a (bit_not w64 b) ≡ andc_of a b
andc_is a b h g = bitwise_is (λ x y. min x (1 - y)) a b _ (and_lt a (bit_not w64 b) h)
    (λ j l. bit_at_and a (bit_not w64 b) j ∙ ap (min (bit_at a j)) (bit_at_not w64 b j g l))

pub orc_is : (a b : ℕ) → a < 2 ^ 64 → b < 2 ^ 64 → bit_or a (bit_not w64 b) ≡ orc_of a b
orc_is a b h g = bitwise_is (λ x y. max x (1 - y)) a b _ (or_lt 64 a (bit_not w64 b) h (not_lt b))
    (λ j l. bit_at_or a (bit_not w64 b) j ∙ ap (max (bit_at a j)) (bit_at_not w64 b j g l))

-- ---- insertion under a mask

chosen_bit : (x y b : ℕ) → x < 2 → y < 2 → b < 2 → max (min x b) (min y (1 - b)) ≡ cond (eqb b 1) x y
chosen_bit x y b h l m = grind (arith, nat_tests)

insert_bit : (r m old j : ℕ) → m < 2 ^ 64 → j < 64 → bit_at (bit_or (bit_and r m) (bit_and old (bit_not w64 m))) j ≡ cond (eqb (bit_at m j) 1) (bit_at r j) (bit_at old j)
insert_bit r m old j f h =
    bit_at_or (bit_and r m) (bit_and old (bit_not w64 m)) j
    ∙ ap (λ n. max n (bit_at (bit_and old (bit_not w64 m)) j)) (bit_at_and r m j)
    ∙ ap (max (min (bit_at r j) (bit_at m j))) (bit_at_and old (bit_not w64 m) j ∙ ap (min (bit_at old j)) (bit_at_not w64 m j f h))
    ∙ chosen_bit (bit_at r j) (bit_at old j) (bit_at m j) (bit_at-lt r j) (bit_at-lt old j) (bit_at-lt m j)

pub insert_is : (r m old : ℕ) → r < 2 ^ 64 → m < 2 ^ 64 → old < 2 ^ 64 → bit_or (bit_and r m) (bit_and old (bit_not w64 m)) ≡ inserted r m old
insert_is r m old f g h = is_weights 64 _ (λ j. cond (eqb (bit 64 m (63 - j)) 1) (bit 64 r (63 - j)) (bit 64 old (63 - j)))
    (or_lt 64 (bit_and r m) (bit_and old (bit_not w64 m)) (and_lt r m f) (and_lt old (bit_not w64 m) h))
    (λ j l. insert_bit r m old j g l ∙ ap (λ i. cond (eqb (bit_at m i) 1) (bit_at r i) (bit_at old i)) (from_the_low_end j l))
