-- Numbers as text, and lines one after another.
use Rattle.std.specs.Prelude.{ℕ, zero, suc, ◌+◌, ◌-◌, ◌/◌, ◌%◌, List, [], ◌∷◌, ◌++◌, nat_lt, if◌then◌else◌}

-- a digit in base 16, in lower case
abbrev pub glyph : ℕ → ℕ
glyph d = if nat_lt d 10 then 48 + d else 97 + (d - 10)

-- this many digits of a number in base 16, the lowest ones, the highest of them first
unfoldable pub hex : ℕ → ℕ → List ℕ
hex zero value = []
hex (suc width) value = hex width (value / 16) ++ glyph (value % 16) ∷ []

-- what ends each line
abbrev pub end_of_line : List ℕ
end_of_line = 10 ∷ []

-- lines, or other parts of a text, one after another
unfoldable pub text_of : List (List ℕ) → List ℕ
text_of [] = []
text_of (part ∷ parts) = part ++ text_of parts
