-- The longest front that is a token.
use Rattle.std.proofs.Common.{◌≡◌, ◌≤◌, ◌<◌, ℕ, zero, suc, Bool, true, false, cond, List, length, take, refl, ap, arith, inl, inr}
use Rattle.std.specs.Prelude.{◌⊎◌, is_some}
use Rattle.std.proofs.lemmas.Bool.{cases_lt}
use Rattle.asm_lex.specs.Lexemes.{kind_of, longest, lexeme}

-- whether the first m bytes are a token
abbrev pub stands : List ℕ → ℕ → Bool
stands bytes m = is_some (kind_of (take m bytes))

-- none of the fronts up to n, from more than k bytes on, is a token
abbrev pub NoneAbove : List ℕ → ℕ → ℕ → Type 0
NoneAbove bytes k n = (m : ℕ) → k < m → m ≤ n → stands bytes m ≡ false

pub longest-none : (bytes : List ℕ) (n : ℕ) → NoneAbove bytes 0 n → longest bytes n ≡ 0
longest-none bytes zero none = refl
longest-none bytes (suc n) none = rw (none (suc n) (omega arith) (omega arith)) (longest-none bytes n (λ m lt le. none m lt (omega arith)))

pub longest-at : (bytes : List ℕ) (k n : ℕ) → stands bytes (suc k) ≡ true → suc k ≤ n → NoneAbove bytes (suc k) n → longest bytes n ≡ suc k
longest-at bytes k zero is le none = absurd (omega arith)
longest-at bytes k (suc n) is le none = by (cases_lt k n) (λ more. longest-at bytes k n is more (λ m lt le. none m lt (omega arith)))
  where
    by : (k < n) ⊎ (n ≤ k) → (suc k ≤ n → longest bytes n ≡ suc k) → cond (stands bytes (suc n)) (suc n) (longest bytes n) ≡ suc k
    by (inl lt) rest = rw (none (suc n) (omega arith) (omega arith)) (rest (omega arith))
    by (inr ge) rest = let same : n ≡ k = omega arith in rw (same, is) refl

-- a front that is a token, and than which none is longer, is the lexeme
pub lexeme-at : (bytes : List ℕ) (k : ℕ) → stands bytes (suc k) ≡ true → suc k ≤ length bytes → NoneAbove bytes (suc k) (length bytes) → lexeme bytes ≡ take (suc k) bytes
lexeme-at bytes k is le none = ap (λ n. take n bytes) (longest-at bytes k (length bytes) is le none)

pub lexeme-none : (bytes : List ℕ) → NoneAbove bytes 0 (length bytes) → lexeme bytes ≡ take 0 bytes
lexeme-none bytes none = ap (λ n. take n bytes) (longest-none bytes (length bytes) none)
