-- The pieces that bytes show: those of a first token or blank, and those of the bytes behind it.
use Rattle.std.proofs.Common.{◌≡◌, ◌<◌, ℕ, ◌+◌, ◌-◌, true, false, cond, List, [], ◌∷◌, ◌++◌, length, get_or, map, take, drop, Some, None, Option, Ok, Err, refl, sym, ap, ◌∙◌, arith}
use Rattle.std.specs.Prelude.{Result, is_ok}
use Rattle.std.proofs.lemmas.List.{drop-drop, length-append}
use Rattle.asm_lex.specs.declared.token.Token.{Token}
use Rattle.asm_lex.specs.declared.token.TokenKind.{TokenKind}
use Rattle.asm_lex.specs.declared.token.TokenKind.TheVariants as kinds
use Rattle.asm_lex.specs.declared.fault.LexFault.{LexFault}
use Rattle.asm_lex.specs.Classes.{is_blank, is_hash, is_sign_byte}
use Rattle.asm_lex.specs.Laws.{moved_token, moved}
use Rattle.asm_lex.specs.Tokens.{token, token_at, prepended, tokens_from, tokens_of}
use Rattle.asm_lex.proofs.Moved.{tokens_from-moved}
use Rattle.asm_lex.proofs.Steps.{token_step}
use Rattle.asm_lex.proofs.TokenAt.{IsOther, sign_at}
use Rattle.asm_statements.specs.declared.piece.Piece.{Piece}
use Rattle.asm_statements.specs.declared.piece.Piece.TheVariants as pieces
use Rattle.asm_statements.specs.Pieces.{sign_of, piece_as, bytes_of, and_pieces, pieces_in, pieces_for, line_pieces}

-- every byte stands in a token or between tokens, and these are the pieces of the tokens
abbrev pub Shows : List ℕ → List Piece → Type 0
Shows bytes ps = line_pieces bytes ≡ Some ps

pub front_of : (front rest : List ℕ) → take (length front) (front ++ rest) ≡ front
front_of [] rest = refl
front_of (b ∷ bs) rest = ap (λ l. b ∷ l) (front_of bs rest)

pub back_of : (front rest : List ℕ) → drop (length front) (front ++ rest) ≡ rest
back_of [] rest = refl
back_of (b ∷ bs) rest = back_of bs rest

-- the bytes of a token that stands further on
bytes_of-moved : (by : ℕ) (source : List ℕ) (t : Token) → bytes_of source (moved_token by t) ≡ bytes_of (drop by source) t
bytes_of-moved by source t =
    let same : t.to + by - (t.from + by) ≡ t.to - t.from = omega arith in
    let start : t.from + by ≡ by + t.from = omega arith in
    rw (same, start) (ap (take (t.to - t.from)) (sym (drop-drop t.from by source)))

pieces_in-moved : (by : ℕ) (source : List ℕ) (ts : List Token) → pieces_in source (map (moved_token by) ts) ≡ pieces_in (drop by source) ts
pieces_in-moved by source [] = refl
pieces_in-moved by source (t ∷ ts) =
    ap (λ (bytes : List ℕ). and_pieces (piece_as t.kind bytes) (pieces_in source (map (moved_token by) ts))) (bytes_of-moved by source t)
    ∙ ap (and_pieces (piece_as t.kind (bytes_of (drop by source) t))) (pieces_in-moved by source ts)

-- the pieces of bytes with these tokens
abbrev shown : List ℕ → Result (List Token) LexFault → Option (List Piece)
shown bytes tokens = cond (is_ok tokens) (Some (pieces_for bytes tokens)) None

some_same : (ps qs : List Piece) → Some ps ≡ Some qs → ps ≡ qs
some_same ps qs e = cc

-- bytes that are further on show the same
later_shown : (by : ℕ) (bytes rest : List ℕ) (ps : List Piece) (later : Result (List Token) LexFault) → drop by bytes ≡ rest → shown rest later ≡ Some ps → shown bytes (moved by later) ≡ Some ps
later_shown by bytes rest ps (Ok ts) behind e = ap Some (pieces_in-moved by bytes ts ∙ ap (λ (l : List ℕ). pieces_in l ts) behind) ∙ e
later_shown by bytes rest ps (Err f) behind e = cc

-- and a token in front of them one piece more
first_shown : (bytes : List ℕ) (t : Token) (p : Piece) (ps : List Piece) (later : Result (List Token) LexFault)
    → piece_as t.kind (bytes_of bytes t) ≡ Some p → shown bytes later ≡ Some ps → shown bytes (prepended t later) ≡ Some (p ∷ ps)
first_shown bytes t p ps (Ok ts) e rest = ap (λ o. Some (and_pieces o (pieces_in bytes ts))) e ∙ ap (λ (l : List Piece). Some (p ∷ l)) (some_same (pieces_in bytes ts) ps rest)
first_shown bytes t p ps (Err f) e rest = cc

pub shows_nothing : Shows [] []
unfolding tokens_from
shows_nothing = refl

-- a token in front of bytes
pub shows_token : (kind : TokenKind) (t rest : List ℕ) (p : Piece) (ps : List Piece)
    → 0 < length t
    → is_blank (get_or (t ++ rest) 0 0) ≡ false
    → is_hash (get_or (t ++ rest) 0 0) ≡ false
    → token_at 0 (t ++ rest) ≡ Ok (token kind 0 (length t))
    → piece_as kind t ≡ Some p
    → Shows rest ps → Shows (t ++ rest) (p ∷ ps)
shows_token kind t rest p ps some blank hash at e behind =
    let n = length t in
    let one : Token = token kind 0 n in
    let none_before : 0 + n ≡ n = omega arith in
    let none_less : 0 + n - 0 ≡ n = omega arith in
    let long : 0 < length (t ++ rest) = omega (arith, length-append t rest) in
    let all : tokens_of (t ++ rest) ≡ prepended one (moved n (tokens_of rest)) =
    token_step (t ++ rest) 0 one long blank hash at
    ∙ ap (λ k. prepended one (tokens_from (0 + n) 0 (drop k (t ++ rest)))) none_before
    ∙ ap (λ (l : List ℕ). prepended one (tokens_from (0 + n) 0 l)) (back_of t rest)
    ∙ ap (prepended one) (tokens_from-moved 0 n 0 rest) in
    let its_bytes : bytes_of (t ++ rest) one ≡ t = ap (λ k. take k (t ++ rest)) none_less ∙ front_of t rest in
    let its_piece : piece_as kind (bytes_of (t ++ rest) one) ≡ Some p = ap (piece_as kind) its_bytes ∙ e in
    ap (shown (t ++ rest)) all
    ∙ first_shown (t ++ rest) one p ps (moved n (tokens_of rest)) its_piece (later_shown n (t ++ rest) rest ps (tokens_of rest) (back_of t rest) behind)

blank_first : (rest : List ℕ) → tokens_of (32 ∷ rest) ≡ tokens_from (0 + 1) 0 rest
unfolding tokens_from
blank_first rest = refl

-- a space in front of bytes
pub shows_space : (rest : List ℕ) (ps : List Piece) → Shows rest ps → Shows (32 ∷ rest) ps
shows_space rest ps behind =
    ap (shown (32 ∷ rest)) (blank_first rest ∙ tokens_from-moved 0 1 0 rest)
    ∙ later_shown 1 (32 ∷ rest) rest ps (tokens_of rest) refl behind

-- a sign in front of bytes with which it begins no word
pub shows_sign : (b : ℕ) (rest : List ℕ) (ps : List Piece) → IsOther (b ∷ rest) b → is_sign_byte b ≡ true → is_blank b ≡ false → is_hash b ≡ false → Shows rest ps → Shows (b ∷ rest) (pieces.Sign (sign_of b) ∷ ps)
shows_sign b rest ps other e blank hash behind = shows_token kinds.Sign (b ∷ []) rest (pieces.Sign (sign_of b)) ps (omega arith) blank hash (sign_at 0 b rest other e) refl behind
