-- The ranges of numbers of w bits.
use Rattle.std.specs.Prelude.{ℕ, ◌-◌, ◌^◌, ℤ, pos, ◌-ℤ◌, int_lt, Bool, ◌||◌, not}

-- z is no signed number of w bits
abbrev pub leaves_signed : ℕ → ℤ → Bool
leaves_signed w z = int_lt z (pos 0 -ℤ pos (2 ^ (w - 1))) || not (int_lt z (pos (2 ^ (w - 1))))

-- z is no unsigned number of w bits
abbrev pub leaves_unsigned : ℕ → ℤ → Bool
leaves_unsigned w z = int_lt z (pos 0) || not (int_lt z (pos (2 ^ w)))
