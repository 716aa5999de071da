-- What some bytes are as a whole: one token of a kind, or none.
use Rattle.std.specs.Prelude.{ℕ, zero, suc, List, [], ◌∷◌, length, take, Bool, false, ◌&&◌, Option, Some, None, is_some, ◌==◌, if◌then◌else◌}
use Rattle.number_text.specs.Number.{number_of}
use Rattle.number_text.specs.Hex.{hex_of}
use Rattle.asm_lex.specs.declared.classes.Class.TheVariants as classes
use Rattle.asm_lex.specs.declared.token.TokenKind.{TokenKind}
use Rattle.asm_lex.specs.declared.token.TokenKind.TheVariants.{Number, Word, Text, Sign, Newline}
use Rattle.asm_lex.specs.Classes.{is_name_start, is_text_byte, is_dot, is_quote, is_sign_byte, is_newline_byte, every}

-- `0x` and one hexadecimal digit or more
abbrev pub hexadecimal : List ℕ → Option ℕ
hexadecimal [] = None
hexadecimal (b ∷ []) = None
hexadecimal (b ∷ c ∷ digits) = if (b == 48) && (c == 120) then hex_of digits else None

abbrev pub first_some : {A : Type 0} → Option A → Option A → Option A
first_some (Some x) other = Some x
first_some None other = other

-- the number that the bytes are: a decimal one without leading zero, or a hexadecimal one
abbrev pub number_in : List ℕ → Option ℕ
number_in bytes = first_some (number_of bytes) (hexadecimal bytes)

-- a letter or `_`, then letters, digits and `_`
abbrev pub is_name : List ℕ → Bool
is_name [] = false
is_name (b ∷ bs) = is_name_start b && every classes.Name bs

-- without one dot at the beginning
abbrev pub after_dot : List ℕ → List ℕ
after_dot [] = []
after_dot (b ∷ bs) = if is_dot b then bs else b ∷ bs

-- without one dot at the end
abbrev pub before_dot : List ℕ → List ℕ
before_dot [] = []
before_dot (b ∷ []) = if is_dot b then [] else b ∷ []
before_dot (b ∷ c ∷ bs) = b ∷ before_dot (c ∷ bs)

-- the name in a word, which may have one dot directly before it and one directly after it
abbrev pub name_in : List ℕ → List ℕ
name_in bytes = before_dot (after_dot bytes)

abbrev pub is_word : List ℕ → Bool
is_word bytes = is_name (name_in bytes)

-- bytes of a text, and the quote that ends it
abbrev pub is_closed : List ℕ → Bool
is_closed [] = false
is_closed (b ∷ []) = is_quote b
is_closed (b ∷ c ∷ bs) = is_text_byte b && is_closed (c ∷ bs)

abbrev pub is_text : List ℕ → Bool
is_text [] = false
is_text (b ∷ bs) = is_quote b && is_closed bs

abbrev pub is_sign : List ℕ → Bool
is_sign [] = false
is_sign (b ∷ []) = is_sign_byte b
is_sign (b ∷ c ∷ bs) = false

abbrev pub is_newline : List ℕ → Bool
is_newline [] = false
is_newline (b ∷ []) = is_newline_byte b
is_newline (b ∷ c ∷ bs) = false

-- a number, or what is no number
abbrev pub numbered : Option ℕ → Option TokenKind → Option TokenKind
numbered (Some n) kind = Some (Number n)
numbered None kind = kind

-- the kind of token that the bytes are
abbrev pub kind_of : List ℕ → Option TokenKind
kind_of bytes =
    numbered (number_in bytes)
    (if is_word bytes then Some Word
    else if is_text bytes then Some Text
    else if is_sign bytes then Some Sign
    else if is_newline bytes then Some Newline
    else None)

-- how many of the first bytes are a token, at most so many: the greatest such number, or 0
abbrev pub longest : List ℕ → ℕ → ℕ
longest bytes zero = 0
longest bytes (suc n) = if is_some (kind_of (take (suc n) bytes)) then suc n else longest bytes n

-- the longest token that begins the bytes, or nothing
abbrev pub lexeme : List ℕ → List ℕ
lexeme bytes = take (longest bytes (length bytes)) bytes
