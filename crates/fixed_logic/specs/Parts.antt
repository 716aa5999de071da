-- Bytes and words of a doubleword, numbered from the highest, and sums over bits (Power ISA, Book I, 1.3.2).
use Rattle.std.specs.Prelude.{ℕ, zero, suc, ◌+◌, ◌-◌, ◌*◌, ◌^◌}
use Rattle.ppc_bits.specs.Bits.{field_of}

-- f 0 + .. + f (k - 1)
unfoldable pub sum_below : ℕ → (ℕ → ℕ) → ℕ
sum_below zero f = 0
sum_below (suc k) f = f k + sum_below k f

-- g 0 · 2^0 + g 1 · 2^w + .. + g (k - 1) · 2^(w (k - 1))
unfoldable pub joined : ℕ → ℕ → (ℕ → ℕ) → ℕ
joined w zero g = 0
joined w (suc k) g = g k * 2 ^ (w * k) + joined w k g

-- byte i of a doubleword
abbrev pub byte_of : ℕ → ℕ → ℕ
byte_of s i = field_of 64 s (8 * i) (8 * i + 7)

-- word i of a doubleword
abbrev pub word_in : ℕ → ℕ → ℕ
word_in s i = field_of 64 s (32 * i) (32 * i + 31)

-- the doubleword whose byte i is f i
abbrev pub of_bytes : (ℕ → ℕ) → ℕ
of_bytes f = joined 8 8 (λ j. f (7 - j))

-- the doubleword whose word i is f i
abbrev pub of_words : (ℕ → ℕ) → ℕ
of_words f = joined 32 2 (λ j. f (1 - j))
