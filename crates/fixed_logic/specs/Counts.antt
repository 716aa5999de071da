-- Counts of zeros and ones, and parities (Power ISA, Book I, 3.3.13).
use Rattle.std.specs.Prelude.{ℕ, zero, suc, ◌+◌, ◌-◌, ◌*◌, ◌%◌, ◌==◌, if◌then◌else◌}
use Rattle.ppc_bits.specs.Bits.{bit, low}
use Rattle.fixed_logic.specs.Parts.{sum_below, byte_of, word_in, of_bytes, of_words}

-- how many of f 0, f 1, .. f (k - 1) are 0 before the first that is not
unfoldable pub zeros_first : ℕ → (ℕ → ℕ) → ℕ
zeros_first zero f = 0
zeros_first (suc k) f = if f 0 == 0 then 1 + zeros_first k (λ i. f (suc i)) else 0

-- the zeros before the first 1 of a word of w bits, and those after its last
abbrev pub leading_of : ℕ → ℕ → ℕ
leading_of w v = zeros_first w (λ i. bit w v i)

abbrev pub trailing_of : ℕ → ℕ → ℕ
trailing_of w v = zeros_first w (λ i. bit w v (w - 1 - i))

abbrev pub cntlzw_of : ℕ → ℕ
cntlzw_of s = leading_of 32 (low 32 s)

abbrev pub cntlzd_of : ℕ → ℕ
cntlzd_of s = leading_of 64 s

abbrev pub cnttzw_of : ℕ → ℕ
cnttzw_of s = trailing_of 32 (low 32 s)

abbrev pub cnttzd_of : ℕ → ℕ
cnttzd_of s = trailing_of 64 s

-- the ones of a word of w bits
abbrev pub ones_of : ℕ → ℕ → ℕ
ones_of w v = sum_below w (λ i. bit w v i)

abbrev pub popcntb_of : ℕ → ℕ
popcntb_of s = of_bytes (λ i. ones_of 8 (byte_of s i))

abbrev pub popcntw_of : ℕ → ℕ
popcntw_of s = of_words (λ i. ones_of 32 (word_in s i))

abbrev pub popcntd_of : ℕ → ℕ
popcntd_of s = ones_of 64 s

-- the parity of the lowest bits of the k bytes of a word of w bits
abbrev pub parity_of : ℕ → ℕ → ℕ → ℕ
parity_of w k v = sum_below k (λ i. bit w v (8 * i + 7)) % 2

abbrev pub prtyw_of : ℕ → ℕ
prtyw_of s = of_words (λ i. parity_of 32 4 (word_in s i))

abbrev pub prtyd_of : ℕ → ℕ
prtyd_of s = parity_of 64 8 s
