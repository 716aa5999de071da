-- Lines that are words with one space between two of them.
use Rattle.std.specs.Prelude.{ℕ, ◌+◌, List, [], ◌∷◌, ◌++◌, codes}
use Rattle.line_text.specs.Text.{end_of_line}

-- a text with these words after it, each behind a space
abbrev pub with_words : List ℕ → List (List ℕ) → List ℕ
with_words text [] = text
with_words text (word ∷ words) = with_words (text ++ codes " " ++ word) words

-- the line of these words
abbrev pub line_of : List (List ℕ) → List ℕ
line_of [] = end_of_line
line_of (word ∷ words) = with_words word words ++ end_of_line

-- the lines of rows, each with its number, numbered from this number on
abbrev pub numbered : {R : Type 0} → (ℕ → R → List ℕ) → ℕ → List R → List (List ℕ)
numbered line number [] = []
numbered line number (row ∷ rows) = line number row ∷ numbered line (number + 1) rows
