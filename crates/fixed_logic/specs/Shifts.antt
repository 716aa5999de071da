-- Signed extensions (Power ISA, Book I, 3.3.13) and shifts (3.3.14) of the low w bits of a doubleword.
use Rattle.std.specs.Prelude.{ℕ, ◌*◌, ◌/◌, ◌^◌, pos, ◌*ℤ◌, int_lt, Bool, ◌&&◌, not, ◌==◌}
use Rattle.std.specs.Int.{int_div_euclid}
use Rattle.ppc_bits.specs.Bits.{field_of, low, low_signed, modulo}

-- the doubleword of the signed number of the low w bits
abbrev pub extended : ℕ → ℕ → ℕ
extended w s = modulo 64 (low_signed w s)

-- how far a register shifts a word, and a doubleword
abbrev pub word_distance : ℕ → ℕ
word_distance b = field_of 64 b 58 63

abbrev pub distance : ℕ → ℕ
distance b = field_of 64 b 57 63

-- the low w bits of the product by 2 ^ n: they are 0 from n = w on
abbrev pub shifted_left : ℕ → ℕ → ℕ → ℕ
shifted_left w s n = low w (s * 2 ^ n)

-- the quotient by 2 ^ n: it is 0 from n = w on
abbrev pub shifted_right : ℕ → ℕ → ℕ → ℕ
shifted_right w s n = low w s / 2 ^ n

-- the signed product by 2 ^ n
abbrev pub shifted_extended : ℕ → ℕ → ℕ → ℕ
shifted_extended w s n = modulo 64 (low_signed w s *ℤ pos (2 ^ n))

-- the signed quotient by 2 ^ n, rounded down: only the sign is left from n = w on
abbrev pub shifted_signed : ℕ → ℕ → ℕ → ℕ
shifted_signed w s n = modulo 64 (int_div_euclid (low_signed w s) (pos (2 ^ n)))

-- the number is negative and a 1 is among the bits that are lost, which are the remainder by 2 ^ n
abbrev pub loses_one : ℕ → ℕ → ℕ → Bool
loses_one w s n = int_lt (low_signed w s) (pos 0) && not (low n (low w s) == 0)
