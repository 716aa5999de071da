-- Fields take the values that fit them.
use Rattle.std.proofs.Common.{◌≡◌, ℕ, ◌^◌, ◌<◌, Bool, true, false, cond, ltb, eqb, Some, None, refl, ap, ◌∙◌, arith}
use Rattle.std.specs.Prelude.{ℤ, pos, negsuc, ◌&&◌, ◌||◌}
use Rattle.std.specs.Int.{from_bool}
use Rattle.std.proofs.lemmas.Bool.Decides.{nat_tests}
use Rattle.ppc_bits.specs.Bits.{modulo}
use Rattle.ppc_ops.specs.Fitting.{IsSigned, IsSignedMultiple, IsDisplacement, IsCompared}
use Rattle.asm_forms.specs.Values.{number_of, is_signed, signed_number, signed_multiple, displacement, compared, flag, flag_unless}
use Rattle.ppc_disasm.proofs.Fitting.{IsWithin, signed_within, compared_below, jump_within}

-- what holds in both cases
pub either : {P : Type 0} (b : Bool) → (b ≡ true → P) → (b ≡ false → P) → P
either true first other = first refl
either false first other = other refl

pub or_true : (b : Bool) → (b || true) ≡ true
or_true true = refl
or_true false = refl

pub number_read : (k n : ℕ) → n < 2 ^ k → number_of k (pos n) ≡ Some n
unfolding number_of
number_read k n lt = by (2 ^ k) lt
  where
    by : (bound : ℕ) → n < bound → cond (ltb n bound) (Some n) None ≡ Some n
    by bound lt = let t : ltb n bound ≡ true = grind (arith, nat_tests) in rw t refl

-- where no number stands, it is 0
pub zero_read : (n : ℕ) → n < 2 ^ 0 → number_of 0 (pos 0) ≡ Some n
zero_read n lt = let same : 0 ≡ n = omega arith in number_read 0 0 (omega arith) ∙ ap (λ m. Some m) same

pub flag_read : (b : Bool) → flag (pos (from_bool b)) ≡ Some b
unfolding flag
flag_read true = refl
flag_read false = refl

pub flag_unless_read : (never b : Bool) → (never && b) ≡ false → flag_unless never (pos (from_bool b)) ≡ Some b
unfolding flag_unless flag
flag_unless_read true true e = cc
flag_unless_read true false e = refl
flag_unless_read false true e = refl
flag_unless_read false false e = refl

half_signed : (z : ℤ) → IsWithin 32768 z → is_signed 16 z ≡ true
half_signed (pos n) lt = grind (arith, nat_tests)
half_signed (negsuc n) lt = grind (arith, nat_tests)

jump_signed : (z : ℤ) → IsWithin 33554432 z → is_signed 26 z ≡ true
jump_signed (pos n) lt = grind (arith, nat_tests)
jump_signed (negsuc n) lt = grind (arith, nat_tests)

pub signed_read : (z : ℤ) → IsSigned 16 z → signed_number 16 z ≡ Some z
unfolding signed_number
signed_read z fits = rw (half_signed z (signed_within z fits)) refl

is_multiple : (z : ℤ) → modulo 2 z ≡ 0 → eqb (modulo 2 z) 0 ≡ true
is_multiple z e = ap (λ n. eqb n 0) e

pub branch_read : (z : ℤ) → IsSignedMultiple 16 z → signed_multiple 16 z ≡ Some z
unfolding signed_multiple
branch_read z fits = rw (half_signed z (signed_within z fits.0), is_multiple z fits.1) refl

pub jump_read : (z : ℤ) → IsSignedMultiple 26 z → signed_multiple 26 z ≡ Some z
unfolding signed_multiple
jump_read z fits = rw (jump_signed z (jump_within z fits), is_multiple z fits.1) refl

pub displacement_read : (scaled : Bool) (z : ℤ) → IsDisplacement scaled z → displacement scaled z ≡ Some z
unfolding displacement
displacement_read true z fits = branch_read z fits
displacement_read false z fits = signed_read z fits

pub compared_read : (unsigned : Bool) (z : ℤ) → IsCompared unsigned z → compared unsigned z ≡ Some z
unfolding compared
compared_read true (pos n) fits = rw (number_read 16 n (compared_below (pos n) fits)) refl
compared_read true (negsuc n) fits = cc
compared_read false z fits = signed_read z fits
