-- Reading a hexadecimal number digit by digit.
use Rattle.std.proofs.Common.{◌≡◌, ℕ, ◌+◌, ◌*◌, ◌<◌, Bool, true, false, cond, leb, List, [], ◌∷◌, None, refl, arith}
use Rattle.std.specs.Prelude.{option_and_then}
use Rattle.std.proofs.lemmas.Bool.Decides.{nat_tests}
use Rattle.number_text.specs.Number.{up_to}
use Rattle.number_text.specs.Hex.{is_hex_digit, hex_digit, hex_from}

pub hex_by_test : (t : Bool) (greatest : ℕ) (bytes : List ℕ) (n : ℕ) → option_and_then (up_to greatest) (hex_from n bytes) ≡ None → option_and_then (up_to greatest) (cond t (hex_from n bytes) None) ≡ None
hex_by_test true greatest bytes n e = e
hex_by_test false greatest bytes n e = refl

-- a number that is too large already stays so
pub hex_from-above : (n greatest : ℕ) (bytes : List ℕ) → greatest < n → option_and_then (up_to greatest) (hex_from n bytes) ≡ None
hex_from-above n greatest [] lt = let t : leb n greatest ≡ false = grind (arith, nat_tests) in rw t refl
hex_from-above n greatest (b ∷ bs) lt = hex_by_test (is_hex_digit b) greatest bs (16 * n + hex_digit b) (hex_from-above (16 * n + hex_digit b) greatest bs (omega arith))
