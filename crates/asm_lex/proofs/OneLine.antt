-- No token but a newline holds one, so the longest token ends before the newline.
use Rattle.std.proofs.Common.{◌≡◌, ◌≤◌, ◌<◌, ℕ, zero, suc, ◌+◌, ◌-◌, Bool, true, false, cond, eqb, List, [], ◌∷◌, ◌++◌, length, take, Some, None, Option, refl, ap, ◌∙◌, arith, length-append, inl, inr}
use Rattle.std.specs.Prelude.{◌&&◌, ◌⊎◌, is_some}
use Rattle.std.proofs.lemmas.Bool.{cases_lt}
use Rattle.std.proofs.lemmas.List.{take-append-le}
use Rattle.number_text.specs.Number.{number_from, number_of}
use Rattle.number_text.specs.Hex.{hex_of}
use Rattle.asm_lex.specs.declared.classes.Class.{Class}
use Rattle.asm_lex.specs.declared.classes.Class.TheVariants as classes
use Rattle.asm_lex.specs.Classes.{is_of, is_dot, is_quote, is_text_byte, is_name_start, every}
use Rattle.asm_lex.specs.Lexemes.{hexadecimal, before_dot, is_name, is_word, is_closed, is_sign, is_newline, kind_of, longest, lexeme}
use Rattle.asm_lex.proofs.Longest.{stands, NoneAbove}
use Rattle.asm_lex.proofs.FirstBytes.{number_from-some, hex_from-some}

no_and : (t : Bool) → (t && false) ≡ false
no_and true = refl
no_and false = refl

-- a newline among bytes of a class without newlines
pub every-with : (class : Class) (xs ys : List ℕ) → is_of class 10 ≡ false → every class (xs ++ 10 ∷ ys) ≡ false
every-with class [] ys e = rw e refl
every-with class (x ∷ xs) ys e = rw (every-with class xs ys e) (no_and (is_of class x))

none_from : {A : Type 0} (o : Option A) → is_some o ≡ false → o ≡ None
none_from (Some x) e = cc
none_from None e = refl

no_decimal : (b : ℕ) (bs ys : List ℕ) → number_of (b ∷ (bs ++ 10 ∷ ys)) ≡ None
no_decimal b bs ys = by bs
  where
    zero_or : (c : ℕ) (cs : List ℕ) → every classes.Digit (b ∷ c ∷ cs) ≡ false → number_of (b ∷ c ∷ cs) ≡ None
    zero_or c cs e = by (eqb b 48)
      where
        by : (t : Bool) → cond t None (number_from 0 (b ∷ c ∷ cs)) ≡ None
        by true = refl
        by false = none_from (number_from 0 (b ∷ c ∷ cs)) (number_from-some 0 (b ∷ c ∷ cs) ∙ e)

    by : (l : List ℕ) → number_of (b ∷ (l ++ 10 ∷ ys)) ≡ None
    by [] = zero_or 10 ys (every-with classes.Digit (b ∷ []) ys refl)
    by (c ∷ cs) = zero_or c (cs ++ 10 ∷ ys) (every-with classes.Digit (b ∷ c ∷ cs) ys refl)

no_hex_of : (xs ys : List ℕ) → hex_of (xs ++ 10 ∷ ys) ≡ None
no_hex_of [] ys = refl
no_hex_of (x ∷ xs) ys = none_from (hex_of (x ∷ (xs ++ 10 ∷ ys))) (hex_from-some 0 (x ∷ (xs ++ 10 ∷ ys)) ∙ every-with classes.HexDigit (x ∷ xs) ys refl)

no_hexadecimal : (b : ℕ) (bs ys : List ℕ) → hexadecimal (b ∷ (bs ++ 10 ∷ ys)) ≡ None
no_hexadecimal b [] ys = rw (no_and (eqb b 48)) refl
no_hexadecimal b (c ∷ cs) ys = rw (no_hex_of cs ys) (by (eqb b 48 && eqb c 120))
  where
    by : (t : Bool) → cond {A = Option ℕ} t None None ≡ None
    by true = refl
    by false = refl

before_dot-more : (x : ℕ) (xs ys : List ℕ) → before_dot (x ∷ (xs ++ 10 ∷ ys)) ≡ x ∷ before_dot (xs ++ 10 ∷ ys)
before_dot-more x [] ys = refl
before_dot-more x (z ∷ zs) ys = refl

every-before : (xs ys : List ℕ) → every classes.Name (before_dot (xs ++ 10 ∷ ys)) ≡ false
every-before [] [] = refl
every-before [] (y ∷ ys) = refl
every-before (x ∷ xs) ys = rw (before_dot-more x xs ys, every-before xs ys) (no_and (is_of classes.Name x))

no_name : (xs ys : List ℕ) → is_name (before_dot (xs ++ 10 ∷ ys)) ≡ false
no_name [] [] = refl
no_name [] (y ∷ ys) = refl
no_name (x ∷ xs) ys = rw (before_dot-more x xs ys, every-before xs ys) (no_and (is_name_start x))

no_word : (b : ℕ) (bs ys : List ℕ) → is_word (b ∷ (bs ++ 10 ∷ ys)) ≡ false
no_word b bs ys = by (is_dot b)
  where
    by : (t : Bool) → is_name (before_dot (cond t (bs ++ 10 ∷ ys) (b ∷ (bs ++ 10 ∷ ys)))) ≡ false
    by true = no_name bs ys
    by false = no_name (b ∷ bs) ys

no_closed : (xs ys : List ℕ) → is_closed (xs ++ 10 ∷ ys) ≡ false
no_closed [] [] = refl
no_closed [] (y ∷ ys) = refl
no_closed (x ∷ []) ys = rw (no_closed [] ys) (no_and (is_text_byte x))
no_closed (x ∷ z ∷ zs) ys = rw (no_closed (z ∷ zs) ys) (no_and (is_text_byte x))

no_sign : (b : ℕ) (bs ys : List ℕ) → is_sign (b ∷ (bs ++ 10 ∷ ys)) ≡ false
no_sign b [] ys = refl
no_sign b (c ∷ cs) ys = refl

no_newline : (b : ℕ) (bs ys : List ℕ) → is_newline (b ∷ (bs ++ 10 ∷ ys)) ≡ false
no_newline b [] ys = refl
no_newline b (c ∷ cs) ys = refl

no_kind : (b : ℕ) (bs ys : List ℕ) → kind_of (b ∷ (bs ++ 10 ∷ ys)) ≡ None
no_kind b bs ys = rw (no_decimal b bs ys, no_hexadecimal b bs ys, no_word b bs ys, no_closed bs ys, no_and (is_quote b), no_sign b bs ys, no_newline b bs ys) refl

take-over : (xs ys : List ℕ) (j : ℕ) → take (length xs + suc j) (xs ++ 10 ∷ ys) ≡ xs ++ 10 ∷ take j ys
take-over [] ys j = let z : 0 + suc j ≡ suc j = omega arith in ap (λ n. take n (10 ∷ ys)) z
take-over (x ∷ xs) ys j =
    let more : suc (length xs) + suc j ≡ suc (length xs + suc j) = omega arith in
    rw more (ap (λ l. x ∷ l) (take-over xs ys j))

none_past : (b : ℕ) (bs ys : List ℕ) (n : ℕ) → NoneAbove (b ∷ (bs ++ 10 ∷ ys)) (suc (length bs)) n
none_past b bs ys n m lt le =
    let j = m - suc (suc (length bs)) in
    let same : m ≡ suc (length bs) + suc j = omega arith in
    let kind : kind_of (take m (b ∷ (bs ++ 10 ∷ ys))) ≡ None = ap (λ k. kind_of (take k (b ∷ (bs ++ 10 ∷ ys)))) same ∙ ap (λ (l : List ℕ). kind_of l) (take-over (b ∷ bs) ys j) ∙ no_kind b bs (take j ys) in
    ap is_some kind

longest-below : (bytes : List ℕ) (k n : ℕ) → k ≤ n → NoneAbove bytes k n → longest bytes n ≡ longest bytes k
longest-below bytes k zero le none = let z : 0 ≡ k = omega arith in ap (longest bytes) z
longest-below bytes k (suc n) le none = by (cases_lt n k) (λ more. longest-below bytes k n more (λ m lt le. none m lt (omega arith)))
  where
    by : (n < k) ⊎ (k ≤ n) → (k ≤ n → longest bytes n ≡ longest bytes k) → longest bytes (suc n) ≡ longest bytes k
    by (inl lt) rest = let same : suc n ≡ k = omega arith in ap (longest bytes) same
    by (inr ge) rest = rw (none (suc n) (omega arith) (omega arith)) (rest ge)

longest-front : (xs ys : List ℕ) (n : ℕ) → n ≤ length xs → longest (xs ++ ys) n ≡ longest xs n
longest-front xs ys zero le = refl
longest-front xs ys (suc n) le = rw (take-append-le (suc n) xs ys le, longest-front xs ys n (omega arith)) refl

pub longest-le : (bytes : List ℕ) (n : ℕ) → longest bytes n ≤ n
longest-le bytes zero = omega arith
longest-le bytes (suc n) = by (stands bytes (suc n)) (longest-le bytes n)
  where
    by : (t : Bool) → longest bytes n ≤ n → cond t (suc n) (longest bytes n) ≤ suc n
    by true rest = omega arith
    by false rest = omega arith

longest-line : (b : ℕ) (bs ys : List ℕ) → longest (b ∷ (bs ++ 10 ∷ ys)) (length (b ∷ (bs ++ 10 ∷ ys))) ≡ longest (b ∷ bs) (length (b ∷ bs))
longest-line b bs ys =
    let n = length (b ∷ (bs ++ 10 ∷ ys)) in
    let len = length-append bs (10 ∷ ys) in
    longest-below (b ∷ (bs ++ 10 ∷ ys)) (suc (length bs)) n (omega (arith, len)) (none_past b bs ys n) ∙ longest-front (b ∷ bs) (10 ∷ ys) (suc (length bs)) (omega arith)

-- the lexeme at the beginning of a line is that of the line without its newline
pub lexeme-line : (b : ℕ) (bs ys : List ℕ) → lexeme (b ∷ (bs ++ 10 ∷ ys)) ≡ lexeme (b ∷ bs)
lexeme-line b bs ys =
    ap (λ n. take n (b ∷ (bs ++ 10 ∷ ys))) (longest-line b bs ys) ∙ take-append-le (longest (b ∷ bs) (length (b ∷ bs))) (b ∷ bs) (10 ∷ ys) (longest-le (b ∷ bs) (length (b ∷ bs)))
