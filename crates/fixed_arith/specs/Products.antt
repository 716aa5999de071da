-- Products (Power ISA, Book I, 3.3.9).
use Rattle.std.specs.Prelude.{ℕ, ◌*◌, ◌/◌, ◌^◌, ℤ, Bool, None}
use Rattle.ppc_bits.specs.Bits.{modulo}
use Rattle.fixed_arith.specs.Ranges.{leaves_signed}
use Rattle.fixed_arith.specs.declared.outcomes.Computation.{Computation}

-- the low 64 bits of a product, which overflows in both ways or in none
abbrev pub low_half : ℤ → Bool → Computation
low_half z overflow = record { value = modulo 64 z; carries = None; overflow = overflow; overflow32 = overflow }

-- a product that overflows where it is no signed number of w bits
abbrev pub product : ℕ → ℤ → Computation
product w z = low_half z (leaves_signed w z)

-- the high half of the 2 * w bits of a product
abbrev pub high_half : ℕ → ℤ → ℕ
high_half w z = modulo (2 * w) z / 2 ^ w
