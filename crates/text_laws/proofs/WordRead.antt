-- The text of a word shows the word's number.
use Rattle.std.proofs.Common.{◌≡◌, ◌≤◌, ◌<◌, ℕ, zero, suc, ◌+◌, ◌-◌, ◌*◌, ◌/◌, ◌%◌, ◌^◌, Bool, true, false, cond, leb, ltb, List, [], ◌∷◌, ◌++◌, length, Some, None, Ok, refl, sym, ap, ◌∙◌, arith}
use Rattle.std.specs.Prelude.{codes, slice_range}
use Rattle.std.proofs.lemmas.Bool.Decides.{nat_tests}
use Rattle.std.proofs.lemmas.List.{append-nil, length-append, take_all}
use Rattle.number_text.specs.Number.{is_digit}
use Rattle.number_text.specs.Hex.{is_low_letter, is_hex_digit, hex_digit, hex_from, hex_of, hex_up_to}
use Rattle.asm_lex.specs.declared.classes.Class.TheVariants as classes
use Rattle.asm_lex.specs.declared.token.TokenKind.TheVariants as kinds
use Rattle.asm_lex.specs.Classes.{every, run}
use Rattle.asm_lex.specs.Fronts.{hex_length}
use Rattle.asm_lex.specs.Tokens.{token, number_token, token_at}
use Rattle.asm_lex.proofs.NumberAt.{hex_found}
use Rattle.asm_lex.proofs.WordAt.{word_at}
use Rattle.asm_statements.specs.declared.piece.Piece.TheVariants as pieces
use Rattle.asm_statements.specs.Pieces.{line_pieces}
use Rattle.line_text.specs.Text.{hex, glyph}
use Rattle.text_laws.proofs.Shown.{Shows, shows_nothing, shows_token, shows_space}
use Rattle.text_laws.proofs.ShownNumbers.{run-front, every-push}

-- a digit and its worth
glyph_digit : (d : ℕ) → d < 16 → (is_hex_digit (glyph d) ≡ true) × (hex_digit (glyph d) ≡ d)
glyph_digit d lt = by (ltb d 10) refl
  where
    by : (t : Bool) → ltb d 10 ≡ t → (is_hex_digit (cond t (48 + d) (97 + (d - 10))) ≡ true) × (hex_digit (cond t (48 + d) (97 + (d - 10))) ≡ d)
    by true e =
        let digit : is_digit (48 + d) ≡ true = grind (arith, nat_tests) in
        let same : 48 + d - 48 ≡ d = omega arith in
        (rw digit refl, rw digit same)
    by false e =
        let more : 10 ≤ d = grind (arith, nat_tests) in
        let no_digit : is_digit (97 + (d - 10)) ≡ false = grind (arith, nat_tests) in
        let letter : is_low_letter (97 + (d - 10)) ≡ true = grind (arith, nat_tests) in
        let same : 97 + (d - 10) - 87 ≡ d = omega arith in
        (rw (no_digit, letter) refl, rw (no_digit, letter) same)

-- one digit more
hex_from-push : (n m : ℕ) (bs : List ℕ) (b : ℕ) → hex_from n bs ≡ Some m → is_hex_digit b ≡ true → hex_from n (bs ++ b ∷ []) ≡ Some (16 * m + hex_digit b)
hex_from-push n m [] b e f = let same : n ≡ m = cc in rw (f, same) refl
hex_from-push n m (c ∷ cs) b e f = by (is_hex_digit c) e (λ g. hex_from-push (16 * n + hex_digit c) m cs b g f)
  where
    by : (t : Bool) → cond t (hex_from (16 * n + hex_digit c) cs) None ≡ Some m → (hex_from (16 * n + hex_digit c) cs ≡ Some m → hex_from (16 * n + hex_digit c) (cs ++ b ∷ []) ≡ Some (16 * m + hex_digit b))
        → cond t (hex_from (16 * n + hex_digit c) (cs ++ b ∷ [])) None ≡ Some (16 * m + hex_digit b)
    by true g tail = tail g
    by false g tail = cc

-- digits that are a number
record SpellsHex (width n : ℕ) (ds : List ℕ) : Type 0 where
  digits : every classes.HexDigit ds ≡ true
  value : hex_from 0 ds ≡ Some n
  len : length ds ≡ width

hex_spells : (width n : ℕ) → n < 16 ^ width → SpellsHex width n (hex width n)
unfolding hex
hex_spells zero n lt = let none : 0 ≡ n = omega arith in record { digits = refl; value = ap Some none; len = refl }
hex_spells (suc width) n lt =
    let front : SpellsHex width (n / 16) (hex width (n / 16)) = hex_spells width (n / 16) (omega arith) in
    let last = glyph_digit (n % 16) (omega arith) in
    let same : 16 * (n / 16) + hex_digit (glyph (n % 16)) ≡ n = omega (arith, last.1) in
    record {
      digits = every-push classes.HexDigit (hex width (n / 16)) (glyph (n % 16)) front.digits last.0;
      value = hex_from-push 0 (n / 16) (hex width (n / 16)) (glyph (n % 16)) front.value last.0 ∙ ap Some same;
      len = omega (arith, length-append (hex width (n / 16)) (glyph (n % 16) ∷ []), front.len);
    }

hex_of-from : (bytes : List ℕ) → 0 < length bytes → hex_of bytes ≡ hex_from 0 bytes
hex_of-from [] lt = absurd (omega arith)
hex_of-from (b ∷ bs) lt = refl

hex_up_to-of : (n : ℕ) (bytes : List ℕ) → n < 2 ^ 64 → hex_of bytes ≡ Some n → hex_up_to 18446744073709551615 bytes ≡ Some n
hex_up_to-of n bytes lt e = let small : leb n 18446744073709551615 ≡ true = grind (arith, nat_tests) in rw (e, small) refl

-- eight digits behind `0x` are a number
eight_digits : (w : ℕ) (ds : List ℕ) → w < 2 ^ 32 → SpellsHex 8 w ds → Shows (48 ∷ 120 ∷ ds) (pieces.Number w ∷ [])
eight_digits w ds lt spells =
    let all : run classes.HexDigit ds ≡ 8 = ap (run classes.HexDigit) (sym (append-nil ds)) ∙ run-front classes.HexDigit ds [] spells.digits refl ∙ spells.len in
    let bytes : List ℕ = 48 ∷ 120 ∷ ds in
    let long : hex_length bytes ≡ 10 = rw all refl in
    let some : 0 < length ds = omega (arith, spells.len) in
    let value : hex_up_to 18446744073709551615 ds ≡ Some w = hex_up_to-of w ds (omega arith) (hex_of-from ds some ∙ spells.value) in
    let at : token_at 0 bytes ≡ Ok (token (kinds.Number w) 0 10) =
    hex_found 0 bytes (omega (arith, long))
    ∙ ap (λ k. number_token 0 k (hex_up_to 18446744073709551615 (slice_range bytes 2 k))) long
    ∙ ap (λ (l : List ℕ). number_token 0 10 (hex_up_to 18446744073709551615 l)) (take_all 8 ds (omega (arith, spells.len)))
    ∙ ap (number_token 0 10) value in
    let ten : 10 ≡ length bytes = omega (arith, spells.len) in
    let whole : token_at 0 (bytes ++ []) ≡ Ok (token (kinds.Number w) 0 (length bytes)) = ap (token_at 0) (append-nil bytes) ∙ at ∙ ap (λ k. Ok (token (kinds.Number w) 0 k)) ten in
    ap (λ (l : List ℕ). line_pieces l) (sym (append-nil bytes)) ∙ shows_token (kinds.Number w) bytes [] (pieces.Number w) [] (omega arith) refl refl whole refl shows_nothing

-- the word of a directive before a space
directive : (rest : List ℕ) → token_at 0 (codes ".word " ++ rest) ≡ Ok (token kinds.Word 0 5)
directive rest = word_at 0 (codes ".word " ++ rest) refl

-- the pieces of a word's text
pub word_read : (w : ℕ) → w < 2 ^ 32 → line_pieces (codes ".word 0x" ++ hex 8 w) ≡ Some (pieces.Word (codes ".word") ∷ pieces.Number w ∷ [])
word_read w lt =
    shows_token kinds.Word (codes ".word") (32 ∷ 48 ∷ 120 ∷ hex 8 w) (pieces.Word (codes ".word")) (pieces.Number w ∷ []) (omega arith) refl refl
    (directive (48 ∷ 120 ∷ hex 8 w)) refl (shows_space (48 ∷ 120 ∷ hex 8 w) (pieces.Number w ∷ []) (eight_digits w (hex 8 w) lt (hex_spells 8 w (omega arith))))
