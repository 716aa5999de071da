-- Doublewords made of bytes, of words, and of eight bits, as the code makes them.
use Rattle.std.proofs.Common.{◌≡◌, ℕ, zero, suc, ◌+◌, ◌*◌, ◌%◌, ◌^◌, ◌<◌, List, ap, ◌∙◌, arith, slice_index}
use Rattle.std.specs.Int.{to_be_bytes, w64}
use Rattle.ppc_bits.specs.Bits.{weights, word_of}
use Rattle.fixed_logic.specs.Parts.{sum_below, joined, byte_of, word_in, of_bytes, of_words}
use Rattle.fixed_logic.specs.Counts.{parity_of, prtyd_of}

-- byte i of the list of bytes is byte i of the doubleword
byte_is : (s i : ℕ) → i < 8 → slice_index (to_be_bytes w64 s) i ≡ byte_of s i
byte_is s zero h = omega arith
byte_is s (suc zero) h = omega arith
byte_is s (suc (suc zero)) h = omega arith
byte_is s (suc (suc (suc zero))) h = omega arith
byte_is s (suc (suc (suc (suc zero)))) h = omega arith
byte_is s (suc (suc (suc (suc (suc zero))))) h = omega arith
byte_is s (suc (suc (suc (suc (suc (suc zero)))))) h = omega arith
byte_is s (suc (suc (suc (suc (suc (suc (suc zero))))))) h = omega arith
byte_is s (suc (suc (suc (suc (suc (suc (suc (suc i)))))))) h = absurd (omega arith)

pub byte_in : (s : ℕ) (xs : List ℕ) → xs ≡ to_be_bytes w64 s → (i : ℕ) → i < 8 → slice_index xs i ≡ byte_of s i
byte_in s xs e i h = ap (λ (l : List ℕ). slice_index l i) e ∙ byte_is s i h

-- eight bytes, the highest first, each of which is f of its number
pub eight_bytes : (x f : ℕ → ℕ) → ((i : ℕ) → i < 8 → x i ≡ f i) → (a b c d e g h i : ℕ) → a ≡ x 0 → b ≡ x 1 → c ≡ x 2 → d ≡ x 3 → e ≡ x 4 → g ≡ x 5 → h ≡ x 6 → i ≡ x 7
    → a * 72057594037927936 + b * 281474976710656 + c * 1099511627776 + d * 4294967296 + e * 16777216 + g * 65536 + h * 256 + i ≡ of_bytes f
unfolding joined
eight_bytes x f each a b c d e g h i p q r s t u v w =
    let e0 : x 0 ≡ f 0 = each 0 (omega arith) in
    let e1 : x 1 ≡ f 1 = each 1 (omega arith) in
    let e2 : x 2 ≡ f 2 = each 2 (omega arith) in
    let e3 : x 3 ≡ f 3 = each 3 (omega arith) in
    let e4 : x 4 ≡ f 4 = each 4 (omega arith) in
    let e5 : x 5 ≡ f 5 = each 5 (omega arith) in
    let e6 : x 6 ≡ f 6 = each 6 (omega arith) in
    let e7 : x 7 ≡ f 7 = each 7 (omega arith) in
    omega arith

-- two words, the high one first
pub two_words : (f : ℕ → ℕ) (a b : ℕ) → a < 2 ^ 32 → a ≡ f 0 → b ≡ f 1 → a * 4294967296 % 18446744073709551616 + b ≡ of_words f
unfolding joined
two_words f a b h p q = omega arith

-- eight bits, the highest first
pub eight_bits : (x f : ℕ → ℕ) → ((i : ℕ) → i < 8 → x i ≡ f i) → (a b c d e g h i : ℕ) → a ≡ x 0 → b ≡ x 1 → c ≡ x 2 → d ≡ x 3 → e ≡ x 4 → g ≡ x 5 → h ≡ x 6 → i ≡ x 7
    → 16 * (8 * a + (4 * b + (2 * c + d))) + (8 * e + (4 * g + (2 * h + i))) ≡ word_of 8 f
unfolding weights
eight_bits x f each a b c d e g h i p q r s t u v w =
    let e0 : x 0 ≡ f 0 = each 0 (omega arith) in
    let e1 : x 1 ≡ f 1 = each 1 (omega arith) in
    let e2 : x 2 ≡ f 2 = each 2 (omega arith) in
    let e3 : x 3 ≡ f 3 = each 3 (omega arith) in
    let e4 : x 4 ≡ f 4 = each 4 (omega arith) in
    let e5 : x 5 ≡ f 5 = each 5 (omega arith) in
    let e6 : x 6 ≡ f 6 = each 6 (omega arith) in
    let e7 : x 7 ≡ f 7 = each 7 (omega arith) in
    omega arith

-- ---- parities

abbrev four_lowest : List ℕ → ℕ → ℕ
four_lowest l i = slice_index l i % 2 + slice_index l (i + 1) % 2 + slice_index l (i + 2) % 2 + slice_index l (i + 3) % 2

pub doubleword_parity : (s : ℕ) (xs : List ℕ) → xs ≡ to_be_bytes w64 s → (four_lowest xs 0 + four_lowest xs 4) % 2 ≡ prtyd_of s
unfolding sum_below
doubleword_parity s xs e = ap (λ (l : List ℕ). (four_lowest l 0 + four_lowest l 4) % 2) e ∙ omega arith

pub high_parity : (s : ℕ) (xs : List ℕ) → xs ≡ to_be_bytes w64 s → four_lowest xs 0 % 2 ≡ parity_of 32 4 (word_in s 0)
unfolding sum_below
high_parity s xs e = ap (λ (l : List ℕ). four_lowest l 0 % 2) e ∙ omega arith

pub low_parity : (s : ℕ) (xs : List ℕ) → xs ≡ to_be_bytes w64 s → four_lowest xs 4 % 2 ≡ parity_of 32 4 (word_in s 1)
unfolding sum_below
low_parity s xs e = ap (λ (l : List ℕ). four_lowest l 4 % 2) e ∙ omega arith
