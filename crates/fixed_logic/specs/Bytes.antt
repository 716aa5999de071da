-- A comparison byte by byte, and a choice of bits (Power ISA, Book I, 3.3.13).
use Rattle.std.specs.Prelude.{ℕ, ◌==◌, nat_lt, if◌then◌else◌}
use Rattle.ppc_bits.specs.Bits.{bit, word_of}
use Rattle.fixed_logic.specs.Parts.{byte_of, of_bytes}

-- ones where the bytes are equal, else zeros
abbrev pub equality_of : ℕ → ℕ → ℕ
equality_of x y = if x == y then 255 else 0

abbrev pub cmpb_of : ℕ → ℕ → ℕ
cmpb_of s b = of_bytes (λ i. equality_of (byte_of s i) (byte_of b i))

-- bit n of b, 0 where it has none
abbrev pub picked : ℕ → ℕ → ℕ
picked b n = if nat_lt n 64 then bit 64 b n else 0

-- bit i of the lowest byte is the bit of b that byte i of s numbers
abbrev pub bpermd_of : ℕ → ℕ → ℕ
bpermd_of s b = word_of 8 (λ i. picked b (byte_of s i))
