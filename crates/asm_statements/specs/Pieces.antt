-- The pieces of a line: its tokens with what they say.
use Rattle.std.specs.Prelude.{ℕ, ◌-◌, List, [], ◌∷◌, length, take, drop, Bool, true, false, Option, Some, None, Result, Ok, Err, is_ok, ◌==◌, if◌then◌else◌}
use Rattle.asm_lex.specs.declared.token.Token.{Token}
use Rattle.asm_lex.specs.declared.token.TokenKind.{TokenKind}
use Rattle.asm_lex.specs.declared.token.TokenKind.TheVariants as kinds
use Rattle.asm_lex.specs.declared.fault.LexFault.{LexFault}
use Rattle.asm_lex.specs.Tokens.{tokens_of}
use Rattle.asm_statements.specs.declared.piece.Sign.{Sign}
use Rattle.asm_statements.specs.declared.piece.Sign.TheVariants as signs
use Rattle.asm_statements.specs.declared.piece.Piece.{Piece}
use Rattle.asm_statements.specs.declared.piece.Piece.TheVariants as pieces

-- the sign that a byte is
abbrev pub sign_of : ℕ → Sign
sign_of b =
    if b == 58 then signs.Colon
    else if b == 44 then signs.Comma
    else if b == 43 then signs.Plus
    else if b == 45 then signs.Minus
    else if b == 46 then signs.Dot
    else if b == 64 then signs.At
    else if b == 40 then signs.Open
    else signs.Close

-- the bytes between the first and the last
abbrev pub without_quotes : List ℕ → List ℕ
without_quotes text = take (length text - 2) (drop 1 text)

-- the piece that a token of a kind with some bytes is; a newline is none
abbrev pub piece_as : TokenKind → List ℕ → Option Piece
piece_as (kinds.Number n) bytes = Some (pieces.Number n)
piece_as kinds.Word bytes = Some (pieces.Word bytes)
piece_as kinds.Text bytes = Some (pieces.Text (without_quotes bytes))
piece_as kinds.Sign [] = None
piece_as kinds.Sign (b ∷ bs) = Some (pieces.Sign (sign_of b))
piece_as kinds.Newline bytes = None

-- the bytes of a token
abbrev pub bytes_of : List ℕ → Token → List ℕ
bytes_of source t = take (t.to - t.from) (drop t.from source)

-- a piece and those after it; what is none ends the line
abbrev pub and_pieces : Option Piece → List Piece → List Piece
and_pieces None after = []
and_pieces (Some p) after = p ∷ after

-- the pieces of tokens of a source, up to a newline
abbrev pub pieces_in : List ℕ → List Token → List Piece
pieces_in source [] = []
pieces_in source (t ∷ ts) = and_pieces (piece_as t.kind (bytes_of source t)) (pieces_in source ts)

-- the pieces of a source that has tokens
abbrev pub pieces_for : List ℕ → Result (List Token) LexFault → List Piece
pieces_for source (Ok ts) = pieces_in source ts
pieces_for source (Err fault) = []

abbrev pub pieces_of : List ℕ → List Piece
pieces_of line = pieces_for line (tokens_of line)

-- every byte of a line stands in a token or between tokens
abbrev pub has_tokens : List ℕ → Bool
has_tokens line = is_ok (tokens_of line)

-- the pieces of a line, where every byte of it stands in a token or between tokens
abbrev pub line_pieces : List ℕ → Option (List Piece)
line_pieces line = if has_tokens line then Some (pieces_of line) else None

-- the piece is this sign
abbrev pub same_sign : Sign → Sign → Bool
same_sign signs.Colon signs.Colon = true
same_sign signs.Comma signs.Comma = true
same_sign signs.Plus signs.Plus = true
same_sign signs.Minus signs.Minus = true
same_sign signs.Dot signs.Dot = true
same_sign signs.At signs.At = true
same_sign signs.Open signs.Open = true
same_sign signs.Close signs.Close = true
same_sign s t = false

abbrev pub is_sign : Sign → Piece → Bool
is_sign s (pieces.Sign t) = same_sign t s
is_sign s p = false

-- the pieces before the first that is a sign
abbrev pub before : Sign → List Piece → List Piece
before s [] = []
before s (p ∷ ps) = if is_sign s p then [] else p ∷ before s ps

-- the pieces behind the first that is a sign, where there is one
abbrev pub behind : Sign → List Piece → Option (List Piece)
behind s [] = None
behind s (p ∷ ps) = if is_sign s p then Some ps else behind s ps
