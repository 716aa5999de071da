-- The bytes of numbers, as std has them.
use Rattle.std.proofs.Common.{◌≡◌, ℕ, zero, suc, ◌+◌, ◌*◌, ◌/◌, ◌%◌, ◌^◌, ◌<◌, ◌≤◌, List, [], ◌∷◌, length, take, refl, sym, ap, ◌∙◌, arith, subst, get_or}
use Rattle.std.proofs.Math.Nat.{div-div-eq-div-mul, div-one, pow-suc}
use Rattle.std.specs.Int.{w64, byte_at, bytes_low_first, to_le_bytes, from_be_bytes, swap_bytes}
use Rattle.journal_core.specs.Bytes.{le_bytes, le_value, be_value, placed, IsBytes}
use Rattle.journal_core.proofs.BytesLemmas.{le_bytes-le_value}

-- byte i of a number is its lowest one after a division by 256 to the i
byte_at-is : (i n : ℕ) → byte_at i n ≡ n / 256 ^ i % 256
byte_at-is zero n = omega arith
byte_at-is (suc i) n = refl

div-div : (i n : ℕ) → n / 256 ^ i / 256 ≡ n / 256 ^ suc i
div-div i n = div-div-eq-div-mul n (256 ^ i) 256 ∙ ap (λ (p : ℕ). n / p) (sym (pow-suc 256 i))

-- so many bytes of a number from byte i on
bytes_from : (i k n : ℕ) → bytes_low_first i k n ≡ le_bytes k (n / 256 ^ i)
unfolding le_bytes
bytes_from i zero n = refl
bytes_from i (suc k) n =
    rw (byte_at-is i n, bytes_from (suc i) k n, div-div i n) refl

-- fewer bytes of a number
take_bytes : (i k n x : ℕ) → n ≤ k → take n (bytes_low_first i k x) ≡ bytes_low_first i n x
take_bytes i k zero x few = refl
take_bytes i zero (suc n) x few = absurd (omega arith)
take_bytes i (suc k) (suc n) x few = ap (λ (r : List ℕ). byte_at i x ∷ r) (take_bytes (suc i) k n x (omega arith))

-- the lowest bytes of a number
pub first_bytes : (size value : ℕ) → size ≤ 8 → take size (to_le_bytes w64 value) ≡ le_bytes size value
first_bytes size value few = take_bytes 0 8 size value few ∙ bytes_from 0 size value ∙ ap (λ (n : ℕ). le_bytes size n) (div-one value)

-- all eight
pub all_bytes : (value : ℕ) → to_le_bytes w64 value ≡ le_bytes 8 value
all_bytes value = bytes_from 0 8 value ∙ ap (λ (n : ℕ). le_bytes 8 n) (div-one value)

highest_first : (bs : List ℕ) → length bs ≡ 8 → from_be_bytes w64 bs ≡ be_value bs 0
unfolding be_value
highest_first (a ∷ b ∷ c ∷ d ∷ e ∷ f ∷ g ∷ h ∷ []) eight = omega arith
highest_first bs eight = absurd (omega arith)

-- the number of eight bytes with their order turned is that with the highest byte first
pub turned : (bs : List ℕ) → IsBytes bs → length bs ≡ 8 → swap_bytes w64 (le_value bs) ≡ be_value bs 0
turned bs all eight =
    let same : to_le_bytes w64 (le_value bs) ≡ bs = all_bytes (le_value bs) ∙ subst (λ (k : ℕ). le_bytes k (le_value bs) ≡ bs) eight (le_bytes-le_value bs all) in
    ap (λ (turned_bytes : List ℕ). from_be_bytes w64 turned_bytes) same ∙ highest_first bs eight

-- the number of eight bytes is that of the first four and that of the other four
pub two_words : (bs : List ℕ) → length bs ≡ 8 →
    le_value (get_or bs 0 0 ∷ get_or bs 1 0 ∷ get_or bs 2 0 ∷ get_or bs 3 0 ∷ []) + 4294967296 * le_value (get_or bs 4 0 ∷ get_or bs 5 0 ∷ get_or bs 6 0 ∷ get_or bs 7 0 ∷ []) ≡ le_value bs
unfolding le_value
two_words (a ∷ b ∷ c ∷ d ∷ e ∷ f ∷ g ∷ h ∷ []) eight = omega arith
two_words bs eight = absurd (omega arith)

-- bytes by their places
pub IsBytes-by_place : (bs : List ℕ) → ((i : ℕ) → get_or bs i 0 < 256) → IsBytes bs
IsBytes-by_place [] below = tt
IsBytes-by_place (b ∷ bs) below = (below 0, IsBytes-by_place bs (λ i. below (suc i)))

-- the first bytes of a number placed in storage
pub placed_first : (ram : List ℕ) (at n size value : ℕ) (bytes : List ℕ) → bytes ≡ to_le_bytes w64 value → size ≡ n → n ≤ 8 → placed ram at (take n bytes) ≡ placed ram at (le_bytes size value)
placed_first ram at n size value bytes are same few =
    ap (λ (bs : List ℕ). placed ram at bs) (ap (λ (bs : List ℕ). take n bs) are ∙ first_bytes n value few ∙ ap (λ (k : ℕ). le_bytes k value) (sym same))

-- all eight of them
pub placed_all : (ram : List ℕ) (at size value : ℕ) (bytes : List ℕ) → bytes ≡ to_le_bytes w64 value → size ≡ 8 → placed ram at bytes ≡ placed ram at (le_bytes size value)
placed_all ram at size value bytes are same =
    ap (λ (bs : List ℕ). placed ram at bs) (are ∙ all_bytes value ∙ ap (λ (k : ℕ). le_bytes k value) (sym same))
