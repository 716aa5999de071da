-- Hexadecimal numbers without sign, with digits of either case.
use Rattle.std.specs.Prelude.{ℕ, ◌+◌, ◌-◌, ◌*◌, List, [], ◌∷◌, length, Bool, ◌&&◌, ◌||◌, Option, Some, None, option_and_then, nat_le, if◌then◌else◌}
use Rattle.number_text.specs.Number.{is_digit, up_to}

abbrev pub is_low_letter : ℕ → Bool
is_low_letter b = nat_le 97 b && nat_le b 102

abbrev pub is_high_letter : ℕ → Bool
is_high_letter b = nat_le 65 b && nat_le b 70

abbrev pub is_hex_digit : ℕ → Bool
is_hex_digit b = is_digit b || is_low_letter b || is_high_letter b

-- what a digit is worth: 0 to 9, then a to f or A to F
abbrev pub hex_digit : ℕ → ℕ
hex_digit b = if is_digit b then b - 48 else if is_low_letter b then b - 87 else b - 55

-- the number whose first digits are those of n
abbrev pub hex_from : ℕ → List ℕ → Option ℕ
hex_from n [] = Some n
hex_from n (b ∷ bs) = if is_hex_digit b then hex_from (16 * n + hex_digit b) bs else None

-- one digit or more, the first ones zeros or not
abbrev pub hex_of : List ℕ → Option ℕ
hex_of [] = None
hex_of (b ∷ bs) = hex_from 0 (b ∷ bs)

abbrev pub hex_up_to : ℕ → List ℕ → Option ℕ
hex_up_to greatest bytes = option_and_then (up_to greatest) (hex_of bytes)

-- the number of one to sixteen digits, which is below 2 ^ 64
abbrev pub short_hex : List ℕ → Option ℕ
short_hex bytes = if nat_le (length bytes) 16 then hex_up_to 18446744073709551615 bytes else None
