-- How many tokens, pieces and terms bytes have at most.
use Rattle.std.proofs.Common.{ℕ, zero, suc, ◌+◌, ◌-◌, ◌*◌, ◌≤◌, Bool, true, false, cond, List, [], ◌∷◌, length, Some, None, Ok, Err, Option, arith}
use Rattle.std.specs.Prelude.{Result}
use Rattle.asm_lex.specs.declared.classes.Class.TheVariants as classes
use Rattle.asm_lex.specs.declared.token.Token.{Token}
use Rattle.asm_lex.specs.declared.fault.LexFault.{LexFault}
use Rattle.asm_lex.specs.Classes.{is_blank, is_hash, run}
use Rattle.asm_lex.specs.Tokens.{token_at, prepended, and_after, tokens_from, tokens_of}
use Rattle.asm_statements.specs.declared.piece.Sign.{Sign}
use Rattle.asm_statements.specs.declared.piece.Sign.TheVariants as signs
use Rattle.asm_statements.specs.declared.piece.Piece.{Piece}
use Rattle.asm_statements.specs.declared.piece.Piece.TheVariants as kinds
use Rattle.asm_statements.specs.declared.expression.Term.{Term}
use Rattle.asm_statements.specs.Pieces.{piece_as, bytes_of, and_pieces, pieces_in, pieces_for, pieces_of, is_sign, before}
use Rattle.asm_statements.specs.Expressions.{and_terms, joined, with_sign, terms_from, atom_of, signed}
use Rattle.asm_statements.specs.Readings.{listed}
use Rattle.asm_statements.specs.Cursors.{until}
use Rattle.std.specs.Prelude.{option_map}

-- how many tokens there are
abbrev count : Result (List Token) LexFault → ℕ
count (Ok ts) = length ts
count (Err f) = 0

prepended-count : (t : Token) (r : Result (List Token) LexFault) (n : ℕ) → count r ≤ n → count (prepended t r) ≤ suc n
prepended-count t (Ok ts) n e = omega arith
prepended-count t (Err f) n e = omega arith

after-count : (r : Result Token LexFault) (after : Token → Result (List Token) LexFault) (n : ℕ) → ((t : Token) → count (after t) ≤ n) → count (and_after r after) ≤ suc n
after-count (Ok t) after n e = prepended-count t (after t) n (e t)
after-count (Err f) after n e = omega arith

more : (a n : ℕ) → a ≤ n → a ≤ suc n
more a n e = omega arith

tokens-count : (bytes : List ℕ) (place skipped : ℕ) → count (tokens_from place skipped bytes) ≤ length bytes
unfolding tokens_from
tokens-count [] place skipped = omega arith
tokens-count (b ∷ bytes) place (suc skipped) = more (count (tokens_from (place + 1) skipped bytes)) (length bytes) (tokens-count bytes (place + 1) skipped)
tokens-count (b ∷ bytes) place zero = cases (λ p k. tokens-count bytes p k) (is_blank b) (is_hash b)
  where
    cases : ((p k : ℕ) → count (tokens_from p k bytes) ≤ length bytes) → (blank hash : Bool) → count (cond blank (tokens_from (place + 1) 0 bytes) (cond hash (tokens_from (place + 1) (run classes.Comment bytes) bytes) (and_after (token_at place (b ∷ bytes)) (λ t. tokens_from (place + 1) (t.to - (place + 1)) bytes)))) ≤ suc (length bytes)
    cases fewer true hash = more (count (tokens_from (place + 1) 0 bytes)) (length bytes) (fewer (place + 1) 0)
    cases fewer false true = more (count (tokens_from (place + 1) (run classes.Comment bytes) bytes)) (length bytes) (fewer (place + 1) (run classes.Comment bytes))
    cases fewer false false = after-count (token_at place (b ∷ bytes)) (λ t. tokens_from (place + 1) (t.to - (place + 1)) bytes) (length bytes) (λ t. fewer (place + 1) (t.to - (place + 1)))

and_pieces-length : (o : Option Piece) (ps : List Piece) (n : ℕ) → length ps ≤ n → length (and_pieces o ps) ≤ suc n
and_pieces-length (Some p) ps n e = omega arith
and_pieces-length None ps n e = omega arith

pieces_in-length : (source : List ℕ) (ts : List Token) → length (pieces_in source ts) ≤ length ts
pieces_in-length source [] = omega arith
pieces_in-length source (t ∷ ts) = and_pieces-length (piece_as t.kind (bytes_of source t)) (pieces_in source ts) (length ts) (pieces_in-length source ts)

for-length : (source : List ℕ) (r : Result (List Token) LexFault) (n : ℕ) → count r ≤ n → length (pieces_for source r) ≤ n
for-length source (Ok ts) n e = let f : length (pieces_in source ts) ≤ length ts = pieces_in-length source ts in omega arith
for-length source (Err f) n e = omega arith

pieces_of-length : (source : List ℕ) → length (pieces_of source) ≤ length source
pieces_of-length source = for-length source (tokens_of source) (length source) (tokens-count source 0 0)

before-length : (s : Sign) (ps : List Piece) → length (before s ps) ≤ length ps
before-length s [] = omega arith
before-length s (p ∷ ps) = cases (before-length s ps) (is_sign s p)
  where
    cases : length (before s ps) ≤ length ps → (ends : Bool) → length (cond ends [] (p ∷ before s ps)) ≤ suc (length ps)
    cases e true = omega arith
    cases e false = omega arith

until-length : (ends : Bool) (s : Sign) (ps : List Piece) → length (until ends s ps) ≤ length ps
until-length true s ps = before-length s ps
until-length false s ps = omega arith

-- the pieces that are left are no more than the bytes that are left
pub left-length : (at_comma at_open : Bool) (source : List ℕ) → length (until at_comma signs.Comma (until at_open signs.Open (pieces_of source))) ≤ length source
left-length at_comma at_open source =
    let a : length (until at_comma signs.Comma (until at_open signs.Open (pieces_of source))) ≤ length (until at_open signs.Open (pieces_of source)) = until-length at_comma signs.Comma (until at_open signs.Open (pieces_of source)) in
    let b : length (until at_open signs.Open (pieces_of source)) ≤ length (pieces_of source) = until-length at_open signs.Open (pieces_of source) in
    let c : length (pieces_of source) ≤ length source = pieces_of-length source in
    omega arith

and_terms-length : (o : Option Term) (r : Option (List Term)) (n : ℕ) → 2 * length (listed r) ≤ n → 2 * length (listed (and_terms o r)) ≤ n + 2
and_terms-length (Some t) (Some ts) n e = omega arith
and_terms-length (Some t) None n e = omega arith
and_terms-length None r n e = omega arith

joined-length : (ps : List Piece) → 2 * length (listed (joined ps)) ≤ length ps
joined-length [] = omega arith
joined-length (kinds.Sign signs.Plus ∷ p ∷ ps) = let e : 2 * length (listed (and_terms (option_map (signed false) (atom_of p)) (joined ps))) ≤ length ps + 2 = and_terms-length (option_map (signed false) (atom_of p)) (joined ps) (length ps) (joined-length ps) in omega arith
joined-length (kinds.Sign signs.Minus ∷ p ∷ ps) = let e : 2 * length (listed (and_terms (option_map (signed true) (atom_of p)) (joined ps))) ≤ length ps + 2 = and_terms-length (option_map (signed true) (atom_of p)) (joined ps) (length ps) (joined-length ps) in omega arith
joined-length (kinds.Sign signs.Plus ∷ []) = omega arith
joined-length (kinds.Sign signs.Minus ∷ []) = omega arith
joined-length (kinds.Sign signs.Colon ∷ ps) = omega arith
joined-length (kinds.Sign signs.Comma ∷ ps) = omega arith
joined-length (kinds.Sign signs.Dot ∷ ps) = omega arith
joined-length (kinds.Sign signs.At ∷ ps) = omega arith
joined-length (kinds.Sign signs.Open ∷ ps) = omega arith
joined-length (kinds.Sign signs.Close ∷ ps) = omega arith
joined-length (kinds.Number n ∷ ps) = omega arith
joined-length (kinds.Word w ∷ ps) = omega arith
joined-length (kinds.Text t ∷ ps) = omega arith

with_sign-length : (ps : List Piece) → length (with_sign ps) ≤ length ps + 1
with_sign-length [] = omega arith
with_sign-length (kinds.Sign signs.Minus ∷ ps) = omega arith
with_sign-length (kinds.Sign signs.Plus ∷ ps) = omega arith
with_sign-length (kinds.Sign signs.Colon ∷ ps) = omega arith
with_sign-length (kinds.Sign signs.Comma ∷ ps) = omega arith
with_sign-length (kinds.Sign signs.Dot ∷ ps) = omega arith
with_sign-length (kinds.Sign signs.At ∷ ps) = omega arith
with_sign-length (kinds.Sign signs.Open ∷ ps) = omega arith
with_sign-length (kinds.Sign signs.Close ∷ ps) = omega arith
with_sign-length (kinds.Number n ∷ ps) = omega arith
with_sign-length (kinds.Word w ∷ ps) = omega arith
with_sign-length (kinds.Text t ∷ ps) = omega arith

-- a term takes one piece, and so does the sign between two
pub terms-length : (is_first : Bool) (ps : List Piece) → 2 * length (listed (terms_from is_first ps)) ≤ length ps + 1
terms-length true ps =
    let a : 2 * length (listed (joined (with_sign ps))) ≤ length (with_sign ps) = joined-length (with_sign ps) in
    let b : length (with_sign ps) ≤ length ps + 1 = with_sign-length ps in
    omega arith
terms-length false ps = let a : 2 * length (listed (joined ps)) ≤ length ps = joined-length ps in omega arith
