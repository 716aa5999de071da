-- Quotients and remainders (Power ISA, Book I, 3.3.9).
use Rattle.std.specs.Prelude.{ℕ, ℤ, pos, int_div, int_rem, Bool, true, false, ◌||◌, if◌then◌else◌, Option, Some, None}
use Rattle.std.specs.Ordering.{int_eq}
use Rattle.ppc_bits.specs.Bits.{modulo}
use Rattle.fixed_arith.specs.Ranges.{leaves_signed, leaves_unsigned}
use Rattle.fixed_arith.specs.declared.outcomes.Computation.{Computation}

-- the quotient, cut toward 0: none where the divisor is 0 or the quotient leaves its range
abbrev pub quotient_within : (ℤ → Bool) → ℤ → ℤ → Option ℤ
quotient_within leaves dividend divisor =
    if int_eq divisor (pos 0) || leaves (int_div dividend divisor) then None else Some (int_div dividend divisor)

abbrev pub signed_quotient : ℕ → ℤ → ℤ → Option ℤ
signed_quotient w = quotient_within (leaves_signed w)

abbrev pub unsigned_quotient : ℕ → ℤ → ℤ → Option ℤ
unsigned_quotient w = quotient_within (leaves_unsigned w)

-- the w bits of a quotient under zeros; where there is none, 0 and an overflow in both ways
abbrev pub divided : ℕ → Option ℤ → Computation
divided w None = record { value = 0; carries = None; overflow = true; overflow32 = true }
divided w (Some quotient) = record { value = modulo w quotient; carries = None; overflow = false; overflow32 = false }

-- what a quotient leaves of the dividend, whose sign it has; 0 where the divisor is 0
abbrev pub remainder : ℤ → ℤ → ℤ
remainder dividend divisor = if int_eq divisor (pos 0) then pos 0 else int_rem dividend divisor
