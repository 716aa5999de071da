-- Reading a number digit by digit.
use Rattle.std.proofs.Common.{◌≡◌, ℕ, ◌+◌, ◌-◌, ◌*◌, ◌<◌, ◌≤◌, Bool, true, false, cond, leb, eqb, List, [], ◌∷◌, length, get_or, None, refl, arith}
use Rattle.std.specs.Prelude.{option_and_then}
use Rattle.std.proofs.lemmas.Bool.Decides.{nat_tests}
use Rattle.number_text.specs.Number.{is_digit, number_from, number_of, up_to, number_up_to}

pub number_of-empty : (bytes : List ℕ) (greatest : ℕ) → length bytes ≡ 0 → number_up_to greatest bytes ≡ None
number_of-empty [] greatest e = refl
number_of-empty (b ∷ bs) greatest e = absurd (omega arith)

pub number_of-zero : (bytes : List ℕ) (greatest : ℕ) → 1 < length bytes → get_or bytes 0 0 ≡ 48 → number_up_to greatest bytes ≡ None
number_of-zero [] greatest lt e = absurd (omega arith)
number_of-zero (b ∷ []) greatest lt e = absurd (omega arith)
number_of-zero (b ∷ c ∷ bs) greatest lt e = rw e refl

pub number_of-one : (bytes : List ℕ) → 0 < length bytes → length bytes ≤ 1 → number_of bytes ≡ number_from 0 bytes
number_of-one [] lt le = absurd (omega arith)
number_of-one (b ∷ []) lt le = refl
number_of-one (b ∷ c ∷ bs) lt le = absurd (omega arith)

pub number_of-more : (bytes : List ℕ) → 1 < length bytes → eqb (get_or bytes 0 0) 48 ≡ false → number_of bytes ≡ number_from 0 bytes
number_of-more [] lt e = absurd (omega arith)
number_of-more (b ∷ []) lt e = refl
number_of-more (b ∷ c ∷ bs) lt e = rw e refl

pub by_test : (t : Bool) (greatest : ℕ) (bytes : List ℕ) (n : ℕ) → option_and_then (up_to greatest) (number_from n bytes) ≡ None → option_and_then (up_to greatest) (cond t (number_from n bytes) None) ≡ None
by_test true greatest bytes n e = e
by_test false greatest bytes n e = refl

-- a number that is too large already stays so
pub number_from-above : (n greatest : ℕ) (bytes : List ℕ) → greatest < n → option_and_then (up_to greatest) (number_from n bytes) ≡ None
number_from-above n greatest [] lt = let t : leb n greatest ≡ false = grind (arith, nat_tests) in rw t refl
number_from-above n greatest (b ∷ bs) lt = by_test (is_digit b) greatest bs (10 * n + (b - 48)) (number_from-above (10 * n + (b - 48)) greatest bs (omega arith))
