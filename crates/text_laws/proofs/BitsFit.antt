-- The operands that stand in a word fit their fields.
use Rattle.std.proofs.Common.{◌≡◌, ℕ, ◌%◌, ◌^◌, ◌<◌, Bool, true, false, cond, refl, ap, arith}
use Rattle.std.specs.Prelude.{pos, ◌&&◌}
use Rattle.std.proofs.lemmas.Int.{ints}
use Rattle.std.proofs.lemmas.Bool.Decides.{nat_tests}
use Rattle.ppc_bits.specs.Bits.{signed_of, modulo}
use Rattle.ppc_ops.specs.Fitting.{IsSigned, IsSignedMultiple, IsDisplacement, IsCompared}
use Rattle.word_decoder.specs.Operands.{bits, flag, followed}

pub source_fits : (one : Bool) (word : ℕ) → cond one 0 (bits word 16 20) < 2 ^ cond one 0 5
source_fits true word = omega arith
source_fits false word = omega arith

pub distance_fits : (short : Bool) (word : ℕ) → cond short (bits word 16 20) (followed (bits word 30 30) 5 (bits word 16 20)) < 2 ^ cond short 5 6
distance_fits true word = omega arith
distance_fits false word = omega arith

pub two_fits : (never : Bool) (word : ℕ) → (never && cond never false (flag word 10)) ≡ false
two_fits true word = refl
two_fits false word = refl

signed_16_own : (n : ℕ) → n < 2 ^ 16 → modulo 16 (signed_of 16 n) ≡ n
signed_16_own n lt = grind (arith, nat_tests, ints)

signed_26_own : (n : ℕ) → n < 2 ^ 26 → modulo 26 (signed_of 26 n) ≡ n
signed_26_own n lt = grind (arith, nat_tests, ints)

pub half_fits : (n : ℕ) → n < 2 ^ 16 → IsSigned 16 (signed_of 16 n)
half_fits n lt = ap (signed_of 16) (signed_16_own n lt)

multiple_16 : (n : ℕ) → n < 2 ^ 14 → modulo 2 (signed_of 16 (followed n 2 0)) ≡ 0
multiple_16 n lt = grind (arith, nat_tests, ints)

multiple_26 : (n : ℕ) → n < 2 ^ 24 → modulo 2 (signed_of 26 (followed n 2 0)) ≡ 0
multiple_26 n lt = grind (arith, nat_tests, ints)

pub branch_fits : (n : ℕ) → n < 2 ^ 14 → IsSignedMultiple 16 (signed_of 16 (followed n 2 0))
branch_fits n lt = (half_fits (followed n 2 0) (omega arith), multiple_16 n lt)

pub jump_fits : (n : ℕ) → n < 2 ^ 24 → IsSignedMultiple 26 (signed_of 26 (followed n 2 0))
jump_fits n lt = let whole : followed n 2 0 < 2 ^ 26 = omega arith in (ap (signed_of 26) (signed_26_own (followed n 2 0) whole), multiple_26 n lt)

pub displacement_fits : (scaled : Bool) (word : ℕ) → IsDisplacement scaled (cond scaled (signed_of 16 (followed (bits word 16 29) 2 0)) (signed_of 16 (bits word 16 31)))
displacement_fits true word = branch_fits (bits word 16 29) (omega arith)
displacement_fits false word = half_fits (bits word 16 31) (omega arith)

pub compared_fits : (unsigned : Bool) (word : ℕ) → IsCompared unsigned (cond unsigned (pos (bits word 16 31)) (signed_of 16 (bits word 16 31)))
compared_fits true word = let small : bits word 16 31 % 2 ^ 16 ≡ bits word 16 31 = omega arith in ap pos small
compared_fits false word = half_fits (bits word 16 31) (omega arith)
