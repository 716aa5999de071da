-- The fields of a word and the operands that they stand for, one kind of operand after the other: a number that stands
-- in the word is read back (`_back`), and what is read is the number that stands there (`_own`).
use Rattle.std.proofs.Common.{◌≡◌, ℕ, ◌/◌, ◌%◌, ◌^◌, ◌<◌, Bool, true, false, List, [], ◌∷◌, cond, eqb, ◌&&◌, refl, sym, ap, ◌∙◌, arith}
use Rattle.std.specs.Prelude.{ℤ, pos}
use Rattle.std.specs.Int.{from_bool}
use Rattle.std.proofs.lemmas.Int.{ints}
use Rattle.std.proofs.lemmas.Bool.Decides.{nat_tests}
use Rattle.ppc_bits.specs.Bits.{signed_of, modulo}
use Rattle.ppc_ops.specs.Fitting.{IsSigned, IsSignedMultiple, IsDisplacement, IsCompared}
use Rattle.ppc_ops.specs.Rows.{Fixed, at}
use Rattle.word_decoder.specs.Operands.{bits, flag, followed}
use Rattle.ppc_decode.proofs.Sums.{Fitted, Reads, masks}

-- equal functions at equal arguments
pub with : {A B : Type 0} {f g : A → B} {x y : A} → f ≡ g → x ≡ y → f x ≡ g y
with {A} {B} {f} {g} {x} {y} p q = ap (λ h. h x) p ∙ ap g q

-- ---- flags

pub flag_fits : (b : Bool) → from_bool b < 2
flag_fits true = omega arith
flag_fits false = omega arith

pub flag_back : (b : Bool) (n : ℕ) → n ≡ from_bool b → eqb n 1 ≡ b
flag_back true n h = ap (λ k. eqb k 1) h
flag_back false n h = ap (λ k. eqb k 1) h

pub flag_own : (n : ℕ) → n % 2 ≡ from_bool (eqb (n % 2) 1)
flag_own n = bit (n % 2) (omega arith)
  where
    bit : (n : ℕ) → n < 2 → n ≡ from_bool (eqb n 1)
    bit n h = grind (arith, nat_tests)

-- ---- signed numbers

pub modulo_16_fits : (z : ℤ) → modulo 16 z < 2 ^ 16
modulo_16_fits z = grind (arith, nat_tests, ints)

pub modulo_26_fits : (z : ℤ) → modulo 26 z < 2 ^ 26
modulo_26_fits z = grind (arith, nat_tests, ints)

pub signed_16_own : (n : ℕ) → n < 2 ^ 16 → n ≡ modulo 16 (signed_of 16 n)
signed_16_own n h = grind (arith, nat_tests, ints)

pub signed_26_own : (n : ℕ) → n < 2 ^ 26 → n ≡ modulo 26 (signed_of 26 n)
signed_26_own n h = grind (arith, nat_tests, ints)

multiple_16 : (z : ℤ) → modulo 2 z ≡ 0 → modulo 16 z % 4 ≡ 0
multiple_16 z h = grind (arith, nat_tests, ints)

multiple_26 : (z : ℤ) → modulo 2 z ≡ 0 → modulo 26 z % 4 ≡ 0
multiple_26 z h = grind (arith, nat_tests, ints)

pub immediate_back : (z : ℤ) (n : ℕ) → IsSigned 16 z → n ≡ modulo 16 z → signed_of 16 n ≡ z
immediate_back z n h r = ap (signed_of 16) r ∙ h

pub immediate_own : (word : ℕ) → bits word 16 31 ≡ modulo 16 (signed_of 16 (bits word 16 31))
immediate_own word = signed_16_own (bits word 16 31) (omega arith)

pub jump_fits : (z : ℤ) → modulo 26 z / 2 ^ 2 < 2 ^ 24
jump_fits z = omega (arith, modulo_26_fits z)

pub jump_back : (z : ℤ) (n : ℕ) → IsSignedMultiple 26 z → n ≡ modulo 26 z / 2 ^ 2 → signed_of 26 (followed n 2 0) ≡ z
jump_back z n h r = ap (signed_of 26) (whole n (modulo 26 z) r (multiple_26 z h.1)) ∙ h.0
  where
    whole : (n m : ℕ) → n ≡ m / 2 ^ 2 → m % 4 ≡ 0 → followed n 2 0 ≡ m
    whole n m r e = omega arith

pub jump_own : (word : ℕ) → bits word 6 29 ≡ modulo 26 (signed_of 26 (followed (bits word 6 29) 2 0)) / 2 ^ 2
jump_own word = part (bits word 6 29) (modulo 26 (signed_of 26 (followed (bits word 6 29) 2 0))) (signed_26_own (followed (bits word 6 29) 2 0) (omega arith))
  where
    part : (n m : ℕ) → followed n 2 0 ≡ m → n ≡ m / 2 ^ 2
    part n m e = omega arith

pub branch_fits : (z : ℤ) → modulo 16 z / 2 ^ 2 < 2 ^ 14
branch_fits z = omega (arith, modulo_16_fits z)

pub branch_back : (z : ℤ) (n : ℕ) → IsSignedMultiple 16 z → n ≡ modulo 16 z / 2 ^ 2 → signed_of 16 (followed n 2 0) ≡ z
branch_back z n h r = ap (signed_of 16) (whole n (modulo 16 z) r (multiple_16 z h.1)) ∙ h.0
  where
    whole : (n m : ℕ) → n ≡ m / 2 ^ 2 → m % 4 ≡ 0 → followed n 2 0 ≡ m
    whole n m r e = omega arith

pub branch_own : (word : ℕ) → bits word 16 29 ≡ modulo 16 (signed_of 16 (followed (bits word 16 29) 2 0)) / 2 ^ 2
branch_own word = part (bits word 16 29) (modulo 16 (signed_of 16 (followed (bits word 16 29) 2 0))) (signed_16_own (followed (bits word 16 29) 2 0) (omega arith))
  where
    part : (n m : ℕ) → followed n 2 0 ≡ m → n ≡ m / 2 ^ 2
    part n m e = omega arith

-- ---- numbers in parts

pub high_fits : (n : ℕ) → n < 2 ^ 6 → n / 2 ^ 5 < 2
high_fits n h = omega arith

pub half_fits : (n : ℕ) → n < 2 ^ 10 → n / 2 ^ 5 < 2 ^ 5
half_fits n h = omega arith

pub low_fits : (n : ℕ) → n % 2 ^ 5 < 2 ^ 5
low_fits n = omega arith

pub parts_back : (n high low : ℕ) → high ≡ n / 2 ^ 5 → low ≡ n % 2 ^ 5 → followed high 5 low ≡ n
parts_back n high low r s = omega arith

pub high_own : (high n : ℕ) → high ≡ followed high 5 (n % 2 ^ 5) / 2 ^ 5
high_own high n = omega arith

pub low_own : (high n : ℕ) → n % 2 ^ 5 ≡ followed high 5 (n % 2 ^ 5) % 2 ^ 5
low_own high n = omega arith

-- ---- a number in three parts

abbrev split : ℤ → List Fixed
split z = at 16 25 (modulo 16 z / 2 ^ 6) ∷ at 11 15 (modulo 16 z / 2 % 2 ^ 5) ∷ at 31 31 (modulo 16 z % 2) ∷ []

abbrev split_at : ℕ → ℕ
split_at word = followed (followed (bits word 16 25) 5 (bits word 11 15)) 1 (bits word 31 31)

pub split_fits : (z : ℤ) → Fitted (split z)
split_fits z = (omega (arith, modulo_16_fits z), (omega arith, (omega arith, tt)))

pub split_back : (z : ℤ) (word : ℕ) → IsSigned 16 z → Reads word (split z) → signed_of 16 (split_at word) ≡ z
split_back z word h r = ap (signed_of 16) (whole (bits word 16 25) (bits word 11 15) (bits word 31 31) (modulo 16 z) r.0 r.1.0 r.1.1.0) ∙ h
  where
    whole : (a b c m : ℕ) → a ≡ m / 2 ^ 6 → b ≡ m / 2 % 2 ^ 5 → c ≡ m % 2 → followed (followed a 5 b) 1 c ≡ m
    whole a b c m r s t = omega arith

pub split_own : (word : ℕ) → Reads word (split (signed_of 16 (split_at word)))
split_own word =
    let same : split_at word ≡ modulo 16 (signed_of 16 (split_at word)) = signed_16_own (split_at word) (omega arith) in (
      high (bits word 16 25) (bits word 11 15) (bits word 31 31) _ (omega arith) (omega arith) same,
      (
        middle (bits word 16 25) (bits word 11 15) (bits word 31 31) _ (omega arith) (omega arith) same,
        (low (bits word 16 25) (bits word 11 15) (bits word 31 31) _ (omega arith) same, tt),
      ),
    )
  where
    high : (a b c m : ℕ) → b < 2 ^ 5 → c < 2 → followed (followed a 5 b) 1 c ≡ m → a ≡ m / 2 ^ 6
    high a b c m k l e = omega arith

    middle : (a b c m : ℕ) → b < 2 ^ 5 → c < 2 → followed (followed a 5 b) 1 c ≡ m → b ≡ m / 2 % 2 ^ 5
    middle a b c m k l e = omega arith

    low : (a b c m : ℕ) → c < 2 → followed (followed a 5 b) 1 c ≡ m → c ≡ m % 2
    low a b c m l e = omega arith

-- ---- a register that some operations do not have

pub source_places : (t : Bool) (m n : ℕ) → masks (cond t [] (at 16 20 m ∷ [])) ≡ masks (cond t [] (at 16 20 n ∷ []))
source_places true m n = refl
source_places false m n = refl

pub source_fits : (t : Bool) (n : ℕ) → n < 2 ^ cond t 0 5 → Fitted (cond t [] (at 16 20 n ∷ []))
source_fits true n h = tt
source_fits false n h = (h, tt)

pub source_back : (t : Bool) (n word : ℕ) → n < 2 ^ cond t 0 5 → Reads word (cond t [] (at 16 20 n ∷ [])) → cond t 0 (bits word 16 20) ≡ n
source_back true n word h r = omega arith
source_back false n word h r = r.0

pub source_own : (t : Bool) (word : ℕ) → Reads word (cond t [] (at 16 20 (cond t 0 (bits word 16 20)) ∷ []))
source_own true word = tt
source_own false word = (refl, tt)

-- ---- a distance of six bits, or of five

abbrev distance : Bool → ℕ → List Fixed
distance t n = cond t (at 16 20 n ∷ []) (at 30 30 (n / 2 ^ 5) ∷ at 16 20 (n % 2 ^ 5) ∷ [])

abbrev distance_at : Bool → ℕ → ℕ
distance_at t word = cond t (bits word 16 20) (followed (bits word 30 30) 5 (bits word 16 20))

pub distance_places : (t : Bool) (m n : ℕ) → masks (distance t m) ≡ masks (distance t n)
distance_places true m n = refl
distance_places false m n = refl

pub distance_fits : (t : Bool) (n : ℕ) → n < 2 ^ cond t 5 6 → Fitted (distance t n)
distance_fits true n h = (h, tt)
distance_fits false n h = (high_fits n h, (low_fits n, tt))

pub distance_back : (t : Bool) (n word : ℕ) → n < 2 ^ cond t 5 6 → Reads word (distance t n) → distance_at t word ≡ n
distance_back true n word h r = r.0
distance_back false n word h r = parts_back n (bits word 30 30) (bits word 16 20) r.0 r.1.0

pub distance_own : (t : Bool) (word : ℕ) → Reads word (distance t (distance_at t word))
distance_own true word = (refl, tt)
distance_own false word = (high_own (bits word 30 30) (word / 2 ^ 11), (low_own (bits word 30 30) (word / 2 ^ 11), tt))

-- ---- a flag that some operations do not have

pub two_places : (t m n : Bool) → masks (cond t [] (at 10 10 (from_bool m) ∷ [])) ≡ masks (cond t [] (at 10 10 (from_bool n) ∷ []))
two_places true m n = refl
two_places false m n = refl

pub two_fits : (t b : Bool) → (t && b) ≡ false → Fitted (cond t [] (at 10 10 (from_bool b) ∷ []))
two_fits true b h = tt
two_fits false b h = (flag_fits b, tt)

pub two_back : (t b : Bool) (word : ℕ) → (t && b) ≡ false → Reads word (cond t [] (at 10 10 (from_bool b) ∷ [])) → cond t false (flag word 10) ≡ b
two_back true b word h r = sym h
two_back false b word h r = flag_back b (bits word 10 10) r.0

pub two_own : (t : Bool) (word : ℕ) → Reads word (cond t [] (at 10 10 (from_bool (cond t false (flag word 10))) ∷ []))
two_own true word = tt
two_own false word = (flag_own (word / 2 ^ 21), tt)

-- ---- a displacement, scaled or not

abbrev displacement : Bool → ℤ → List Fixed
displacement t z = cond t (at 16 29 (modulo 16 z / 2 ^ 2) ∷ []) (at 16 31 (modulo 16 z) ∷ [])

abbrev displacement_at : Bool → ℕ → ℤ
displacement_at t word = cond t (signed_of 16 (followed (bits word 16 29) 2 0)) (signed_of 16 (bits word 16 31))

pub displacement_places : (t : Bool) (m n : ℤ) → masks (displacement t m) ≡ masks (displacement t n)
displacement_places true m n = refl
displacement_places false m n = refl

pub displacement_fits : (t : Bool) (z : ℤ) → IsDisplacement t z → Fitted (displacement t z)
displacement_fits true z h = (branch_fits z, tt)
displacement_fits false z h = (modulo_16_fits z, tt)

pub displacement_back : (t : Bool) (z : ℤ) (word : ℕ) → IsDisplacement t z → Reads word (displacement t z) → displacement_at t word ≡ z
displacement_back true z word h r = branch_back z (bits word 16 29) h r.0
displacement_back false z word h r = immediate_back z (bits word 16 31) h r.0

pub displacement_own : (t : Bool) (word : ℕ) → Reads word (displacement t (displacement_at t word))
displacement_own true word = (branch_own word, tt)
displacement_own false word = (immediate_own word, tt)

-- ---- an immediate that is compared, signed or not

pub compared_back : (t : Bool) (z : ℤ) (n : ℕ) → IsCompared t z → n ≡ modulo 16 z → cond t (pos n) (signed_of 16 n) ≡ z
compared_back true z n h r = ap pos r ∙ h
compared_back false z n h r = immediate_back z n h r

pub compared_own : (t : Bool) (word : ℕ) → bits word 16 31 ≡ modulo 16 (cond t (pos (bits word 16 31)) (signed_of 16 (bits word 16 31)))
compared_own true word = omega arith
compared_own false word = immediate_own word
