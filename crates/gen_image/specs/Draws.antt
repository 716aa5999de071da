-- Numbers that are drawn, in a fixed order for each seed.
use Rattle.std.specs.Prelude.{ℕ, zero, suc, ◌+◌, ◌*◌, ◌/◌, ◌%◌, ◌^◌, List, [], ◌∷◌, take, drop}

-- the number behind another
abbrev pub next : ℕ → ℕ
next x = (x * 6364136223846793005 + 1442695040888963407) % 2 ^ 64

-- what is drawn with a number: 0 to size - 1
abbrev pub drawn : ℕ → ℕ → ℕ
drawn size x = x / 2 ^ 33 % size

-- so many draws behind a number
abbrev pub draws : ℕ → ℕ → ℕ → List ℕ
draws size x zero = []
draws size x (suc n) = drawn size (next x) ∷ draws size (next x) n

-- the draws of guest 1: the first ones
abbrev pub first_draws : ℕ → ℕ → List ℕ
first_draws seed size = take size (draws size seed (2 * size))

-- the draws of guest 2: those behind them
abbrev pub second_draws : ℕ → ℕ → List ℕ
second_draws seed size = drop size (draws size seed (2 * size))
