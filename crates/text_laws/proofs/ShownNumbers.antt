-- A decimal number in front of bytes that cannot lengthen it.
use Rattle.std.proofs.Common.{◌≡◌, ◌≤◌, ◌<◌, ℕ, zero, suc, ◌+◌, ◌-◌, ◌*◌, ◌/◌, ◌%◌, ◌^◌, Bool, true, false, cond, leb, eqb, List, [], ◌∷◌, ◌++◌, length, get_or, take, Some, None, Ok, refl, ap, ◌∙◌, arith}
use Rattle.std.specs.Prelude.{◌&&◌, ◌||◌, ◌==◌}
use Rattle.std.specs.Fmt.{decimal}
use Rattle.std.proofs.lemmas.Bool.Decides.{nat_tests}
use Rattle.std.proofs.lemmas.Fmt.{decimal_by_steps, decimal_digit, decimal_nonempty, first_decimal}
use Rattle.number_text.specs.Number.{is_digit, number_from, number_of, number_up_to}
use Rattle.asm_lex.specs.declared.classes.Class.{Class}
use Rattle.asm_lex.specs.declared.classes.Class.TheVariants as classes
use Rattle.asm_lex.specs.declared.token.TokenKind.TheVariants as kinds
use Rattle.asm_lex.specs.Classes.{is_of, is_blank, is_hash, every, run}
use Rattle.asm_lex.specs.Fronts.{hex_length}
use Rattle.asm_lex.specs.Tokens.{token, number_token, token_at}
use Rattle.asm_lex.proofs.NumberAt.{decimal_found, zero_at}
use Rattle.asm_statements.specs.declared.piece.Piece.{Piece}
use Rattle.asm_statements.specs.declared.piece.Piece.TheVariants as pieces
use Rattle.text_laws.proofs.Shown.{Shows, shows_token, front_of}

-- a space, a comma or a bracket
abbrev pub is_end_byte : ℕ → Bool
is_end_byte b = (b == 32) || (b == 44) || (b == 40) || (b == 41)

-- nothing stands there, or what ends a number and a word
abbrev pub is_end : List ℕ → Bool
is_end [] = true
is_end (b ∷ bs) = is_end_byte b

-- bytes of a class, and behind them none of it
pub run-front : (class : Class) (front rest : List ℕ) → every class front ≡ true → run class rest ≡ 0 → run class (front ++ rest) ≡ length front
run-front class [] rest e none = none
run-front class (b ∷ bs) rest e none = by (is_of class b) e (λ f. run-front class bs rest f none)
  where
    by : (t : Bool) → (t && every class bs) ≡ true → (every class bs ≡ true → run class (bs ++ rest) ≡ length bs) → cond t (suc (run class (bs ++ rest))) 0 ≡ suc (length bs)
    by true f tail = ap suc (tail f)
    by false f tail = cc

pub every-push : (class : Class) (bs : List ℕ) (b : ℕ) → every class bs ≡ true → is_of class b ≡ true → every class (bs ++ b ∷ []) ≡ true
every-push class [] b e f = rw f refl
every-push class (c ∷ cs) b e f = by (is_of class c) e (λ g. every-push class cs b g f)
  where
    by : (t : Bool) → (t && every class cs) ≡ true → (every class cs ≡ true → every class (cs ++ b ∷ []) ≡ true) → (t && every class (cs ++ b ∷ [])) ≡ true
    by true g tail = tail g
    by false g tail = cc

pub no_digits : (rest : List ℕ) → is_end rest ≡ true → run classes.Digit rest ≡ 0
no_digits [] e = refl
no_digits (b ∷ bs) e = let no_digit : is_digit b ≡ false = grind (arith, nat_tests) in rw no_digit refl

-- one digit more
number_from-push : (n m : ℕ) (bs : List ℕ) (b : ℕ) → number_from n bs ≡ Some m → is_digit b ≡ true → number_from n (bs ++ b ∷ []) ≡ Some (10 * m + (b - 48))
number_from-push n m [] b e f = let same : n ≡ m = cc in rw (f, same) refl
number_from-push n m (c ∷ cs) b e f = by (is_digit c) e (λ g. number_from-push (10 * n + (c - 48)) m cs b g f)
  where
    by : (t : Bool) → cond t (number_from (10 * n + (c - 48)) cs) None ≡ Some m → (number_from (10 * n + (c - 48)) cs ≡ Some m → number_from (10 * n + (c - 48)) (cs ++ b ∷ []) ≡ Some (10 * m + (b - 48)))
        → cond t (number_from (10 * n + (c - 48)) (cs ++ b ∷ [])) None ≡ Some (10 * m + (b - 48))
    by true g tail = tail g
    by false g tail = cc

-- digits that are a number
pub record Spells (n : ℕ) (ds : List ℕ) : Type 0 where
  pub digits : every classes.Digit ds ≡ true
  pub value : number_from 0 ds ≡ Some n

pub decimal_spells : (n : ℕ) → n < 2 ^ 64 → Spells n (decimal n)
decimal_spells = decimal_by_steps Spells one more
  where
    one : (n : ℕ) → n < 10 → Spells n ((48 + n) ∷ [])
    one n lt =
        let digit : is_digit (48 + n) ≡ true = grind (arith, nat_tests) in
        let same : 10 * 0 + (48 + n - 48) ≡ n = omega arith in
        record { digits = rw digit refl; value = rw digit (ap Some same) }

    more : (n : ℕ) (ds : List ℕ) → 10 ≤ n → Spells (n / 10) ds → Spells n (ds ++ ((48 + n % 10) ∷ []))
    more n ds le front =
        let digit : is_digit (48 + n % 10) ≡ true = grind (arith, nat_tests) in
        let same : 10 * (n / 10) + (48 + n % 10 - 48) ≡ n = omega arith in
        record {
          digits = every-push classes.Digit ds (48 + n % 10) front.digits digit;
          value = number_from-push 0 (n / 10) ds (48 + n % 10) front.value digit ∙ ap Some same;
        }

number_of-more : (bytes : List ℕ) → 0 < length bytes → eqb (get_or bytes 0 0) 48 ≡ false → number_of bytes ≡ number_from 0 bytes
number_of-more [] lt e = absurd (omega arith)
number_of-more (b ∷ []) lt e = refl
number_of-more (b ∷ c ∷ bs) lt e = rw e refl

number_up_to-of : (n : ℕ) (bytes : List ℕ) → n < 2 ^ 64 → number_of bytes ≡ Some n → number_up_to 18446744073709551615 bytes ≡ Some n
number_up_to-of n bytes lt e = let small : leb n 18446744073709551615 ≡ true = grind (arith, nat_tests) in rw (e, small) refl

pub first_of : (front rest : List ℕ) → 0 < length front → get_or (front ++ rest) 0 0 ≡ get_or front 0 0
first_of [] rest lt = absurd (omega arith)
first_of (b ∷ bs) rest lt = refl

first_digit : (ds : List ℕ) → 0 < length ds → every classes.Digit ds ≡ true → is_digit (get_or ds 0 0) ≡ true
first_digit [] lt e = absurd (omega arith)
first_digit (b ∷ bs) lt e = by (is_digit b) e
  where
    by : (t : Bool) → (t && every classes.Digit bs) ≡ true → t ≡ true
    by true f = refl
    by false f = f

-- a number that is not 0
some_decimal : (n : ℕ) (rest : List ℕ) (ps : List Piece) → 0 < n → n < 2 ^ 64 → is_end rest ≡ true → Shows rest ps → Shows (decimal n ++ rest) (pieces.Number n ∷ ps)
some_decimal n rest ps some lt e behind =
    let ds = decimal n in
    let spells = decimal_spells n lt in
    let nonempty : 0 < length ds = decimal_nonempty n lt in
    let first : 48 < get_or ds 0 0 = first_decimal n some lt in
    let same : get_or (ds ++ rest) 0 0 ≡ get_or ds 0 0 = first_of ds rest nonempty in
    let digit : is_digit (get_or (ds ++ rest) 0 0) ≡ true = ap is_digit same ∙ first_digit ds nonempty spells.digits in
    let no_zero : eqb (get_or (ds ++ rest) 0 0) 48 ≡ false = ap (λ b. eqb b 48) same ∙ above_zero (get_or ds 0 0) first in
    let no_zero_alone : eqb (get_or ds 0 0) 48 ≡ false = above_zero (get_or ds 0 0) first in
    let long : run classes.Digit (ds ++ rest) ≡ length ds = run-front classes.Digit ds rest spells.digits (no_digits rest e) in
    let value : number_up_to 18446744073709551615 ds ≡ Some n = number_up_to-of n ds lt (number_of-more ds nonempty no_zero_alone ∙ spells.value) in
    let at : token_at 0 (ds ++ rest) ≡ Ok (token (kinds.Number n) 0 (length ds)) =
    decimal_found 0 (ds ++ rest) digit no_zero
    ∙ ap (λ k. number_token 0 k (number_up_to 18446744073709551615 (take k (ds ++ rest)))) long
    ∙ ap (λ (l : List ℕ). number_token 0 (length ds) (number_up_to 18446744073709551615 l)) (front_of ds rest)
    ∙ ap (number_token 0 (length ds)) value in
    shows_token (kinds.Number n) ds rest (pieces.Number n) ps nonempty (no_blank (get_or (ds ++ rest) 0 0) digit) (no_hash (get_or (ds ++ rest) 0 0) digit) at refl behind
  where
    above_zero : (b : ℕ) → 48 < b → eqb b 48 ≡ false
    above_zero b lt = grind (arith, nat_tests)

    no_blank : (b : ℕ) → is_digit b ≡ true → is_blank b ≡ false
    no_blank b digit = grind (arith, nat_tests)

    no_hash : (b : ℕ) → is_digit b ≡ true → is_hash b ≡ false
    no_hash b digit = grind (arith, nat_tests)

zero_hex : (rest : List ℕ) → is_end rest ≡ true → hex_length (48 ∷ rest) ≡ 0
zero_hex [] e = refl
zero_hex (c ∷ cs) e = let no_x : eqb c 120 ≡ false = grind (arith, nat_tests) in rw no_x refl

pub shows_zero : (rest : List ℕ) (ps : List Piece) → is_end rest ≡ true → Shows rest ps → Shows (48 ∷ rest) (pieces.Number 0 ∷ ps)
shows_zero rest ps e behind = shows_token (kinds.Number 0) (48 ∷ []) rest (pieces.Number 0) ps (omega arith) refl refl (zero_at 0 (48 ∷ rest) (zero_hex rest e) refl) refl behind

-- a number in front of bytes
pub shows_decimal : (n : ℕ) (rest : List ℕ) (ps : List Piece) → n < 2 ^ 64 → is_end rest ≡ true → Shows rest ps → Shows (decimal n ++ rest) (pieces.Number n ∷ ps)
shows_decimal zero rest ps lt e behind = rw (decimal_digit 0 (omega arith)) (shows_zero rest ps e behind)
shows_decimal (suc n) rest ps lt e behind = some_decimal (suc n) rest ps (omega arith) lt e behind
