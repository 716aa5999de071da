-- Sums of two doublewords and a carry (Power ISA, Book I, 3.3.9).
use Rattle.std.specs.Prelude.{ℕ, ◌+◌, ◌-◌, ◌%◌, ◌^◌, ℤ, pos, ◌+ℤ◌, nat_le, Bool, Some, None}
use Rattle.ppc_bits.specs.Bits.{low, low_signed}
use Rattle.fixed_arith.specs.Ranges.{leaves_signed}
use Rattle.fixed_arith.specs.declared.outcomes.Computation.{Computation}

-- each bit turned round, which is -1 - a modulo 2 ^ 64
abbrev pub not_of : ℕ → ℕ
not_of a = 2 ^ 64 - 1 - a

-- the sum of the low w bits carries out of them
abbrev pub carries_out : ℕ → ℕ → ℕ → ℕ → Bool
carries_out w left right carry = nat_le (2 ^ w) (low w left + low w right + carry)

-- the sum of the low w bits as signed numbers
abbrev pub signed_sum : ℕ → ℕ → ℕ → ℕ → ℤ
signed_sum w left right carry = low_signed w left +ℤ low_signed w right +ℤ pos carry

-- a sum that records no carries
abbrev pub sum : ℕ → ℕ → ℕ → Computation
sum left right carry = record {
  value = (left + right + carry) % 2 ^ 64;
  carries = None;
  overflow = leaves_signed 64 (signed_sum 64 left right carry);
  overflow32 = leaves_signed 32 (signed_sum 32 left right carry);
}

-- a sum that records the carries of all 64 bits and of the low 32 bits
abbrev pub carrying_sum : ℕ → ℕ → ℕ → Computation
carrying_sum left right carry = record (sum left right carry) {
  carries = Some (record { carry = carries_out 64 left right carry; carry32 = carries_out 32 left right carry });
}
