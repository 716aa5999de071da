-- Which bytes stand in names, texts, signs, gaps and comments.
use Rattle.std.specs.Prelude.{ℕ, suc, List, [], ◌∷◌, Bool, true, not, ◌&&◌, ◌||◌, nat_le, ◌==◌, if◌then◌else◌}
use Rattle.number_text.specs.Number.{is_digit}
use Rattle.number_text.specs.Hex.{is_hex_digit}
use Rattle.asm_lex.specs.declared.classes.Class.{Class}
use Rattle.asm_lex.specs.declared.classes.Class.TheVariants as classes

-- a letter or `_`
abbrev pub is_name_start : ℕ → Bool
is_name_start b = (nat_le 97 b && nat_le b 122) || (nat_le 65 b && nat_le b 90) || (b == 95)

abbrev pub is_name_byte : ℕ → Bool
is_name_byte b = is_name_start b || is_digit b

-- a printed byte of ASCII, but a quote and a backslash
abbrev pub is_text_byte : ℕ → Bool
is_text_byte b = nat_le 32 b && nat_le b 126 && not (b == 34) && not (b == 92)

abbrev pub is_dot : ℕ → Bool
is_dot b = b == 46

abbrev pub is_quote : ℕ → Bool
is_quote b = b == 34

-- `:`, `,`, `+`, `-`, `.`, `@`, `(` or `)`
abbrev pub is_sign_byte : ℕ → Bool
is_sign_byte b = (b == 58) || (b == 44) || (b == 43) || (b == 45) || is_dot b || (b == 64) || (b == 40) || (b == 41)

abbrev pub is_newline_byte : ℕ → Bool
is_newline_byte b = b == 10

-- a space or a tab
abbrev pub is_blank : ℕ → Bool
is_blank b = (b == 32) || (b == 9)

-- `#`, which begins a comment
abbrev pub is_hash : ℕ → Bool
is_hash b = b == 35

-- a byte of a comment, which ends before its newline
abbrev pub is_comment_byte : ℕ → Bool
is_comment_byte b = not (is_newline_byte b)

-- the bytes of a class
abbrev pub is_of : Class → ℕ → Bool
is_of classes.Digit b = is_digit b
is_of classes.HexDigit b = is_hex_digit b
is_of classes.Name b = is_name_byte b
is_of classes.Text b = is_text_byte b
is_of classes.Blank b = is_blank b
is_of classes.Comment b = is_comment_byte b

-- all of some bytes are of a class
abbrev pub every : Class → List ℕ → Bool
every class [] = true
every class (b ∷ bs) = is_of class b && every class bs

-- how many bytes at the beginning are of a class
abbrev pub run : Class → List ℕ → ℕ
run class [] = 0
run class (b ∷ bs) = if is_of class b then suc (run class bs) else 0
