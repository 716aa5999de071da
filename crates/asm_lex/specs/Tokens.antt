-- The tokens of bytes, in order, or the first fault by place.
use Rattle.std.specs.Prelude.{◌≡◌, ◌<◌, ◌≤◌, ℕ, zero, suc, ◌+◌, ◌-◌, List, [], ◌∷◌, length, drop, Option, Some, None, Result, Ok, Err, nat_le, if◌then◌else◌}
use Rattle.number_text.specs.Number.{up_to}
use Rattle.asm_lex.specs.declared.classes.Class.TheVariants as classes
use Rattle.asm_lex.specs.declared.token.Token.{Token}
use Rattle.asm_lex.specs.declared.token.TokenKind.{TokenKind}
use Rattle.asm_lex.specs.declared.token.TokenKind.TheVariants.{Number, Word, Text, Sign, Newline}
use Rattle.asm_lex.specs.declared.fault.LexFault.{LexFault}
use Rattle.asm_lex.specs.declared.fault.LexFault.TheVariants.{BadByte, NumberTooWide, Memory}
use Rattle.asm_lex.specs.Classes.{is_dot, is_blank, is_hash, run}
use Rattle.asm_lex.specs.Lexemes.{name_in, kind_of, lexeme}

-- the token of so many bytes from a place on
abbrev pub token : TokenKind → ℕ → ℕ → Token
token kind place len = record { kind = kind; from = place; to = place + len }

-- a number token, where the number is below 2 ^ 64
abbrev pub number_token : ℕ → ℕ → Option ℕ → Result Token LexFault
number_token place len (Some n) = Ok (token (Number n) place len)
number_token place len None = Err (NumberTooWide place)

-- how many dots begin the bytes, at most one
abbrev pub dots_before : List ℕ → ℕ
dots_before [] = 0
dots_before (b ∷ bs) = if is_dot b then 1 else 0

-- a word token, where the name in it has at most 32 bytes; else the 33rd of these is bad
abbrev pub word_token : ℕ → List ℕ → Result Token LexFault
word_token place bytes =
    if nat_le (length (name_in bytes)) 32 then Ok (token Word place (length bytes)) else Err (BadByte (place + dots_before bytes + 32))

-- the token that some bytes at a place are, where they are of a kind
abbrev pub token_of : ℕ → List ℕ → Option TokenKind → Result Token LexFault
token_of place bytes None = Err (BadByte place)
token_of place bytes (Some (Number n)) = number_token place (length bytes) (up_to 18446744073709551615 n)
token_of place bytes (Some Word) = word_token place bytes
token_of place bytes (Some Text) = Ok (token Text place (length bytes))
token_of place bytes (Some Sign) = Ok (token Sign place (length bytes))
token_of place bytes (Some Newline) = Ok (token Newline place (length bytes))

-- the token that begins the bytes, which stand from a place on: as long as it can be
unfoldable pub token_at : ℕ → List ℕ → Result Token LexFault
token_at place bytes = token_of place (lexeme bytes) (kind_of (lexeme bytes))

-- a token and those after it
abbrev pub prepended : Token → Result (List Token) LexFault → Result (List Token) LexFault
prepended t (Ok ts) = Ok (t ∷ ts)
prepended t (Err fault) = Err fault

-- a token, where it is one, and those after it
abbrev pub and_after : Result Token LexFault → (Token → Result (List Token) LexFault) → Result (List Token) LexFault
and_after (Ok t) after = prepended t (after t)
and_after (Err fault) after = Err fault

-- The tokens of bytes that stand from a place on, of which the first so many belong to what came before.
-- Between tokens stand blanks, and comments from `#` up to the next newline.
unfoldable pub tokens_from : ℕ → ℕ → List ℕ → Result (List Token) LexFault
tokens_from place skipped [] = Ok []
tokens_from place (suc skipped) (b ∷ bytes) = tokens_from (place + 1) skipped bytes
tokens_from place zero (b ∷ bytes) =
    if is_blank b then tokens_from (place + 1) 0 bytes
    else if is_hash b then tokens_from (place + 1) (run classes.Comment bytes) bytes
    else and_after (token_at place (b ∷ bytes)) (λ t. tokens_from (place + 1) (t.to - (place + 1)) bytes)

-- the tokens of bytes
abbrev pub tokens_of : List ℕ → Result (List Token) LexFault
tokens_of bytes = tokens_from 0 0 bytes

-- a place in bytes that are read
pub record Cursor : Type 0 where
  pub bytes : List ℕ
  pub place : ℕ

-- the tokens from there on
abbrev pub tokens_at : Cursor → Result (List Token) LexFault
tokens_at c = tokens_from c.place 0 (drop c.place c.bytes)

-- the bytes of a token lie in a text, from a place on
pub record LiesIn (bytes : List ℕ) (place : ℕ) (t : Token) : Type 0 where
  pub after : place ≤ t.from
  pub some : t.from < t.to
  pub within : t.to ≤ length bytes

-- the bytes of tokens lie in a text, from a place on, each behind the one before
abbrev pub InOrder : List ℕ → ℕ → List Token → Type 0
InOrder bytes place [] = Unit {0}
InOrder bytes place (t ∷ ts) = LiesIn bytes place t × InOrder bytes t.to ts

-- What reading one token answers: the first of those from the place on, and the cursor stands behind it; that there is
-- none; or the first fault, after which the cursor stands where it stood.
abbrev pub ReadsOne : Cursor → Cursor → Result (Option Token) LexFault → Type 0
ReadsOne old new (Ok (Some t)) = (tokens_at old ≡ prepended t (tokens_at new)) × (new ≡ record { bytes = old.bytes; place = t.to }) × LiesIn old.bytes old.place t
ReadsOne old new (Ok None) = (tokens_at old ≡ Ok []) × (new ≡ old)
ReadsOne old new (Err Memory) = ⊥
ReadsOne old new (Err fault) = (tokens_at old ≡ Err fault) × (new ≡ old)

-- What reading all tokens answers. That memory ran out says nothing of the bytes.
abbrev pub Reads : List ℕ → Result (List Token) LexFault → Type 0
Reads bytes (Ok tokens) = tokens_of bytes ≡ Ok tokens
Reads bytes (Err Memory) = Unit {0}
Reads bytes (Err fault) = tokens_of bytes ≡ Err fault
