-- How a token begins, and how long it is, by the bytes themselves.
use Rattle.std.specs.Prelude.{ℕ, ◌+◌, List, [], ◌∷◌, Bool, false, ◌&&◌, ◌==◌, nat_lt, if◌then◌else◌}
use Rattle.asm_lex.specs.declared.classes.Class.TheVariants as classes
use Rattle.asm_lex.specs.Classes.{is_name_start, run}
use Rattle.asm_lex.specs.Lexemes.{after_dot}

-- how many bytes `0x` and the digits behind them are, or 0 without a digit
abbrev pub hex_length : List ℕ → ℕ
hex_length [] = 0
hex_length (b ∷ []) = 0
hex_length (b ∷ c ∷ digits) =
    if (b == 48) && (c == 120) then (if nat_lt 0 (run classes.HexDigit digits) then run classes.HexDigit digits + 2 else 0) else 0

abbrev pub starts_name : List ℕ → Bool
starts_name [] = false
starts_name (b ∷ bs) = is_name_start b

-- the bytes begin a name, perhaps after a dot
abbrev pub begins_word : List ℕ → Bool
begins_word bytes = starts_name (after_dot bytes)
