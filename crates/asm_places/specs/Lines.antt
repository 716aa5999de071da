-- The lines of a source.
use Rattle.std.specs.Prelude.{ℕ, List, [], ◌∷◌, ◌==◌, if◌then◌else◌}

-- a byte before the first line of others
abbrev pub and_lines : ℕ → List (List ℕ) → List (List ℕ)
and_lines b [] = (b ∷ []) ∷ []
and_lines b (line ∷ lines) = (b ∷ line) ∷ lines

-- the lines of a source, without their newlines; behind the last newline there is a line only where there is a byte
abbrev pub lines_of : List ℕ → List (List ℕ)
lines_of [] = []
lines_of (b ∷ bs) = if b == 10 then [] ∷ lines_of bs else and_lines b (lines_of bs)
