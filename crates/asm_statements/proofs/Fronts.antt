-- The first piece of bytes, and the pieces of the bytes behind it.
use Rattle.std.proofs.Common.{◌≡◌, ℕ, ◌+◌, ◌-◌, true, List, [], ◌∷◌, map, take, drop, Some, Ok, Err, refl, sym, ap, ◌∙◌, arith}
use Rattle.std.specs.Prelude.{Result, is_ok}
use Rattle.std.proofs.lemmas.List.{drop-drop}
use Rattle.asm_lex.specs.declared.token.Token.{Token}
use Rattle.asm_lex.specs.declared.fault.LexFault.{LexFault}
use Rattle.asm_lex.specs.Laws.{moved_token, moved}
use Rattle.asm_lex.specs.Tokens.{Cursor, prepended, tokens_from, tokens_of, tokens_at, ReadsOne}
use Rattle.asm_lex.proofs.Moved.{tokens_from-moved}
use Rattle.asm_statements.specs.declared.piece.Piece.{Piece}
use Rattle.asm_statements.specs.Pieces.{piece_as, bytes_of, and_pieces, pieces_in, pieces_for, pieces_of, has_tokens}

-- the bytes of a token that stands further on
bytes_of-moved : (by : ℕ) (source : List ℕ) (t : Token) → bytes_of source (moved_token by t) ≡ bytes_of (drop by source) t
bytes_of-moved by source t =
    let same : t.to + by - (t.from + by) ≡ t.to - t.from = omega arith in
    let start : t.from + by ≡ by + t.from = omega arith in
    rw (same, start) (ap (take (t.to - t.from)) (sym (drop-drop t.from by source)))

pieces_in-moved : (by : ℕ) (source : List ℕ) (ts : List Token) → pieces_in source (map (moved_token by) ts) ≡ pieces_in (drop by source) ts
pieces_in-moved by source [] = refl
pieces_in-moved by source (t ∷ ts) =
    ap (λ (bytes : List ℕ). and_pieces (piece_as t.kind bytes) (pieces_in source (map (moved_token by) ts))) (bytes_of-moved by source t)
    ∙ ap (and_pieces (piece_as t.kind (bytes_of (drop by source) t))) (pieces_in-moved by source ts)

-- the pieces of a first token and of those that stand behind it
first_of_them : (rest : List ℕ) (t : Token) (p : Piece) (later : Result (List Token) LexFault)
    → is_ok (prepended t (moved t.to later)) ≡ true
    → piece_as t.kind (bytes_of rest t) ≡ Some p
    → (pieces_for rest (prepended t (moved t.to later)) ≡ p ∷ pieces_for (drop t.to rest) later) × (is_ok later ≡ true)
first_of_them rest t p (Ok ts) ok e = (ap (λ o. and_pieces o (pieces_in rest (map (moved_token t.to) ts))) e ∙ ap (λ ps. p ∷ ps) (pieces_in-moved t.to rest ts), refl)
first_of_them rest t p (Err f) ok e = cc

pub begins : (rest : List ℕ) (old new : Cursor) (t : Token) (p : Piece)
    → has_tokens rest ≡ true
    → old ≡ record { bytes = rest; place = 0 }
    → ReadsOne old new (Ok (Some t))
    → piece_as t.kind (bytes_of rest t) ≡ Some p
    → (pieces_of rest ≡ p ∷ pieces_of (drop t.to rest)) × (has_tokens (drop t.to rest) ≡ true)
begins rest old new t p ok start read e =
    let behind : List ℕ = drop t.to rest in
    let none_before : 0 + t.to ≡ t.to = omega arith in
    let there : new ≡ record { bytes = rest; place = t.to } = read.1 ∙ ap (λ (d : Cursor). at d.bytes t.to) start in
    let later : tokens_at new ≡ moved t.to (tokens_of behind) =
    ap tokens_at there ∙ ap (λ place. tokens_from place 0 behind) (sym none_before) ∙ tokens_from-moved 0 t.to 0 behind in
    let all : tokens_of rest ≡ prepended t (moved t.to (tokens_of behind)) =
    sym (ap tokens_at start) ∙ read.0 ∙ ap (prepended t) later in
    let parts = first_of_them rest t p (tokens_of behind) (sym (ap is_ok all) ∙ ok) e in
    (ap (pieces_for rest) all ∙ parts.0, parts.1)
  where
    at : List ℕ → ℕ → Cursor
    at bytes place = record { bytes = bytes; place = place }
