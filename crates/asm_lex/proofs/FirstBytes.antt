-- The kind of a token by its first byte.
use Rattle.std.proofs.Common.{◌≡◌, ℕ, ◌+◌, ◌-◌, ◌*◌, Bool, true, false, cond, eqb, List, [], ◌∷◌, None, refl, arith}
use Rattle.std.specs.Prelude.{◌&&◌, is_some}
use Rattle.std.proofs.lemmas.Bool.Decides.{nat_tests}
use Rattle.number_text.specs.Number.{is_digit, number_from}
use Rattle.number_text.specs.Hex.{is_hex_digit, hex_digit, hex_from}
use Rattle.asm_lex.specs.declared.classes.Class.TheVariants as classes
use Rattle.asm_lex.specs.Classes.{is_name_start, is_dot, is_quote, is_sign_byte, is_newline_byte, every}
use Rattle.asm_lex.specs.Lexemes.{number_in, before_dot, is_word, is_sign, is_newline, numbered, kind_of}

-- digits all through are a number
pub number_from-some : (n : ℕ) (bytes : List ℕ) → is_some (number_from n bytes) ≡ every classes.Digit bytes
number_from-some n [] = refl
number_from-some n (b ∷ bs) = by (is_digit b) (number_from-some (10 * n + (b - 48)) bs)
  where
    by : (t : Bool) → is_some (number_from (10 * n + (b - 48)) bs) ≡ every classes.Digit bs → is_some (cond t (number_from (10 * n + (b - 48)) bs) None) ≡ (t && every classes.Digit bs)
    by true rest = rest
    by false rest = refl

pub hex_from-some : (n : ℕ) (bytes : List ℕ) → is_some (hex_from n bytes) ≡ every classes.HexDigit bytes
hex_from-some n [] = refl
hex_from-some n (b ∷ bs) = by (is_hex_digit b) (hex_from-some (16 * n + hex_digit b) bs)
  where
    by : (t : Bool) → is_some (hex_from (16 * n + hex_digit b) bs) ≡ every classes.HexDigit bs → is_some (cond t (hex_from (16 * n + hex_digit b) bs) None) ≡ (t && every classes.HexDigit bs)
    by true rest = rest
    by false rest = refl

-- what begins with no digit is no number
pub not_number : (b : ℕ) (bs : List ℕ) → is_digit b ≡ false → number_in (b ∷ bs) ≡ None
not_number b [] e = rw e refl
not_number b (c ∷ cs) e = let z : eqb b 48 ≡ false = grind (arith, nat_tests) in rw (z, e) refl

-- what begins with no dot and no letter is no word
pub before_dot-cons : (b : ℕ) (bs : List ℕ) → is_dot b ≡ false → before_dot (b ∷ bs) ≡ b ∷ before_dot bs
before_dot-cons b [] e = rw e refl
before_dot-cons b (c ∷ cs) e = refl

pub not_word : (b : ℕ) (bs : List ℕ) → is_dot b ≡ false → is_name_start b ≡ false → is_word (b ∷ bs) ≡ false
not_word b bs d e = rw (d, before_dot-cons b bs d, e) refl

pub one_sign : (b : ℕ) (bs : List ℕ) → is_sign_byte b ≡ false → is_sign (b ∷ bs) ≡ false
one_sign b [] e = e
one_sign b (c ∷ cs) e = refl

pub one_newline : (b : ℕ) (bs : List ℕ) → is_newline_byte b ≡ false → is_newline (b ∷ bs) ≡ false
one_newline b [] e = e
one_newline b (c ∷ cs) e = refl

-- behind a digit stands a number or nothing
pub kind_of-digit : (b : ℕ) (bs : List ℕ) → is_digit b ≡ true → kind_of (b ∷ bs) ≡ numbered (number_in (b ∷ bs)) None
kind_of-digit b bs e =
    let d : is_dot b ≡ false = grind (arith, nat_tests) in
    let n : is_name_start b ≡ false = grind (arith, nat_tests) in
    let q : is_quote b ≡ false = grind (arith, nat_tests) in
    let s : is_sign_byte b ≡ false = grind (arith, nat_tests) in
    let l : is_newline_byte b ≡ false = grind (arith, nat_tests) in
    rw (not_word b bs d n, q, one_sign b bs s, one_newline b bs l) refl
