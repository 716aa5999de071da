-- The number at a place.
use Rattle.std.proofs.Common.{◌≡◌, ◌≤◌, ◌<◌, ℕ, zero, suc, ◌+◌, ◌-◌, Bool, true, false, cond, leb, ltb, eqb, List, [], ◌∷◌, length, get_or, take, Some, None, Option, refl, sym, ap, ◌∙◌, arith, subst}
use Rattle.std.specs.Prelude.{◌&&◌, is_some, option_and_then, slice_range}
use Rattle.std.proofs.lemmas.Bool.Decides.{nat_tests}
use Rattle.std.proofs.lemmas.List.{length-take-le}
use Rattle.number_text.specs.Number.{is_digit, number_from, number_of, up_to, number_up_to}
use Rattle.number_text.specs.Hex.{hex_of, hex_up_to}
use Rattle.asm_lex.specs.declared.classes.Class.TheVariants as classes
use Rattle.asm_lex.specs.Classes.{run}
use Rattle.asm_lex.specs.Lexemes.{hexadecimal, first_some, number_in, numbered}
use Rattle.asm_lex.specs.Fronts.{hex_length}
use Rattle.asm_lex.specs.Tokens.{token_of, number_token, token_at}
use Rattle.asm_lex.proofs.Longest.{stands, NoneAbove}
use Rattle.asm_lex.proofs.Runs.{every-take, run-within}
use Rattle.asm_lex.proofs.FirstBytes.{number_from-some, hex_from-some, kind_of-digit}
use Rattle.asm_lex.proofs.TokenAt.{token_at-is}

some_number : (o : Option ℕ) → is_some (numbered o None) ≡ is_some o
some_number (Some n) = refl
some_number None = refl

number_of_some : (place : ℕ) (bytes : List ℕ) (o : Option ℕ) → is_some o ≡ true → token_of place bytes (numbered o None) ≡ number_token place (length bytes) (option_and_then (up_to 18446744073709551615) o)
number_of_some place bytes (Some n) e = refl
number_of_some place bytes None e = cc

-- a front of k + 1 bytes that is a number, than which none is longer
number_is : (place k b : ℕ) (bs : List ℕ) → is_digit b ≡ true → k ≤ length bs → is_some (number_in (take (suc k) (b ∷ bs))) ≡ true
    → ((m : ℕ) → suc k < m → m ≤ length (b ∷ bs) → is_some (number_in (take m (b ∷ bs))) ≡ false)
    → token_at place (b ∷ bs) ≡ number_token place (suc k) (option_and_then (up_to 18446744073709551615) (number_in (take (suc k) (b ∷ bs))))
number_is place k b bs e le some above =
    let kind = kind_of-digit b (take k bs) e in
    let is : stands (b ∷ bs) (suc k) ≡ true = ap is_some kind ∙ some_number (number_in (take (suc k) (b ∷ bs))) ∙ some in
    let len : length (take (suc k) (b ∷ bs)) ≡ suc k = length-take-le (suc k) (b ∷ bs) (omega arith) in
    token_at-is place k (b ∷ bs) is (omega arith) (none e above)
    ∙ ap (token_of place (take (suc k) (b ∷ bs))) kind
    ∙ number_of_some place (take (suc k) (b ∷ bs)) (number_in (take (suc k) (b ∷ bs))) some
    ∙ ap (λ n. number_token place n (option_and_then (up_to 18446744073709551615) (number_in (take (suc k) (b ∷ bs))))) len
  where
    none : is_digit b ≡ true → ((m : ℕ) → suc k < m → m ≤ length (b ∷ bs) → is_some (number_in (take m (b ∷ bs))) ≡ false) → NoneAbove (b ∷ bs) (suc k) (length (b ∷ bs))
    none e above zero lt le = absurd (omega arith)
    none e above (suc m) lt le = ap is_some (kind_of-digit b (take m bs) e) ∙ some_number (number_in (b ∷ take m bs)) ∙ above (suc m) lt le

leb-more : (m n : ℕ) → n < m → leb m n ≡ false
leb-more m n lt = grind (arith, nat_tests)

leb-same : (n : ℕ) → leb n n ≡ true
leb-same n = grind (arith, nat_tests)

-- decimal digits, the first of which is not 0
decimal : (b : ℕ) (bs : List ℕ) → eqb b 48 ≡ false → number_of (b ∷ bs) ≡ number_from 0 (b ∷ bs)
decimal b [] z = refl
decimal b (c ∷ cs) z = rw z refl

no_hex : (b : ℕ) (bs : List ℕ) → eqb b 48 ≡ false → hexadecimal (b ∷ bs) ≡ None
no_hex b [] z = refl
no_hex b (c ∷ cs) z = rw z refl

first_or_none : (o : Option ℕ) → first_some o None ≡ o
first_or_none (Some n) = refl
first_or_none None = refl

decimal_in : (b : ℕ) (bs : List ℕ) → eqb b 48 ≡ false → number_in (b ∷ bs) ≡ number_of (b ∷ bs)
decimal_in b bs z = rw (no_hex b bs z) (first_or_none (number_of (b ∷ bs)))

decimal_some : (b : ℕ) (bs : List ℕ) (m : ℕ) → eqb b 48 ≡ false → suc m ≤ length (b ∷ bs) → is_some (number_in (take (suc m) (b ∷ bs))) ≡ leb (suc m) (run classes.Digit (b ∷ bs))
decimal_some b bs m z le = ap is_some (decimal_in b (take m bs) z ∙ decimal b (take m bs) z) ∙ number_from-some 0 (b ∷ take m bs) ∙ every-take classes.Digit (b ∷ bs) (suc m) le

pub decimal_at : (place b : ℕ) (bs : List ℕ) → is_digit b ≡ true → eqb b 48 ≡ false
    → token_at place (b ∷ bs) ≡ number_token place (run classes.Digit (b ∷ bs)) (number_up_to 18446744073709551615 (take (run classes.Digit (b ∷ bs)) (b ∷ bs)))
decimal_at place b bs e z =
    let n = run classes.Digit bs in
    let all : run classes.Digit (b ∷ bs) ≡ suc n = rw e refl in
    let within = run-within classes.Digit bs in
    let some : is_some (number_in (take (suc n) (b ∷ bs))) ≡ true = decimal_some b bs n z (omega arith) ∙ rw all (leb-same (suc n)) in
    number_is place n b bs e within some (above e z)
    ∙ rw (all, decimal_in b (take n bs) z) refl
  where
    above : is_digit b ≡ true → eqb b 48 ≡ false → (m : ℕ) → suc (run classes.Digit bs) < m → m ≤ length (b ∷ bs) → is_some (number_in (take m (b ∷ bs))) ≡ false
    above e z zero lt le = absurd (omega arith)
    above e z (suc m) lt le = decimal_some b bs m z le ∙ rw e (leb-more (suc m) (suc (run classes.Digit bs)) lt)

-- a number that begins with 0
zero_more : (b c : ℕ) (cs : List ℕ) → eqb b 48 ≡ true → number_in (b ∷ c ∷ cs) ≡ cond (eqb c 120) (hex_of cs) None
zero_more b c cs z = rw z refl

hex_some : (digits : List ℕ) (m : ℕ) → suc m ≤ length digits → is_some (hex_of (take (suc m) digits)) ≡ leb (suc m) (run classes.HexDigit digits)
hex_some [] m le = absurd (omega arith)
hex_some (d ∷ ds) m le = hex_from-some 0 (d ∷ take m ds) ∙ every-take classes.HexDigit (d ∷ ds) (suc m) le

digit_is_zero : (b : ℕ) → eqb b 48 ≡ true → is_digit b ≡ true
digit_is_zero b z = grind (arith, nat_tests)

hex_at : (place b c : ℕ) (digits : List ℕ) → eqb b 48 ≡ true → eqb c 120 ≡ true → 0 < run classes.HexDigit digits
    → token_at place (b ∷ c ∷ digits) ≡ number_token place (run classes.HexDigit digits + 2) (hex_up_to 18446744073709551615 (take (run classes.HexDigit digits) digits))
hex_at place b c digits z x lt =
    let n = run classes.HexDigit digits in
    let within = run-within classes.HexDigit digits in
    let one : suc (n - 1) ≡ n = omega arith in
    let two : n + 2 ≡ suc (suc n) = omega arith in
    let in_hex : number_in (take (suc (suc n)) (b ∷ c ∷ digits)) ≡ hex_of (take n digits) = zero_more b c (take n digits) z ∙ rw x refl in
    let hex : is_some (hex_of (take n digits)) ≡ true = rw (← one) (hex_some digits (n - 1) (omega arith) ∙ rw one (leb-same n)) in
    let some : is_some (number_in (take (suc (suc n)) (b ∷ c ∷ digits))) ≡ true = ap is_some in_hex ∙ hex in
    number_is place (suc n) b (c ∷ digits) (digit_is_zero b z) (omega arith) some (above z x lt)
    ∙ rw (in_hex, two) refl
  where
    above : eqb b 48 ≡ true → eqb c 120 ≡ true → 0 < run classes.HexDigit digits → (m : ℕ) → suc (suc (run classes.HexDigit digits)) < m → m ≤ length (b ∷ c ∷ digits) → is_some (number_in (take m (b ∷ c ∷ digits))) ≡ false
    above z x lt zero more le = absurd (omega arith)
    above z x lt (suc zero) more le = absurd (omega arith)
    above z x lt (suc (suc zero)) more le = absurd (omega arith)
    above z x lt (suc (suc (suc m))) more le =
        let in_hex : number_in (b ∷ c ∷ take (suc m) digits) ≡ hex_of (take (suc m) digits) = zero_more b c (take (suc m) digits) z ∙ rw x refl in
        ap is_some in_hex ∙ hex_some digits m (omega arith) ∙ leb-more (suc m) (run classes.HexDigit digits) (omega arith)

pub hex_found : (place : ℕ) (bytes : List ℕ) → 0 < hex_length bytes
    → token_at place bytes ≡ number_token place (hex_length bytes) (hex_up_to 18446744073709551615 (slice_range bytes 2 (hex_length bytes)))
hex_found place [] lt = absurd (omega arith)
hex_found place (b ∷ []) lt = absurd (omega arith)
hex_found place (b ∷ c ∷ digits) lt = by (eqb b 48) (eqb c 120) (ltb 0 (run classes.HexDigit digits)) refl refl refl lt
  where
    by : (t u v : Bool) → eqb b 48 ≡ t → eqb c 120 ≡ u → ltb 0 (run classes.HexDigit digits) ≡ v → 0 < cond (t && u) (cond v (run classes.HexDigit digits + 2) 0) 0
        → token_at place (b ∷ c ∷ digits) ≡ number_token place (cond (t && u) (cond v (run classes.HexDigit digits + 2) 0) 0) (hex_up_to 18446744073709551615 (take (cond (t && u) (cond v (run classes.HexDigit digits + 2) 0) 0 - 2) digits))
    by true true true z x some lt =
        let n = run classes.HexDigit digits in
        let back : n + 2 - 2 ≡ n = omega arith in
        let more : 0 < n = grind (arith, nat_tests) in
        hex_at place b c digits z x more ∙ rw back refl
    by true true false z x some lt = absurd (omega arith)
    by true false v z x some lt = absurd (omega arith)
    by false u v z x some lt = absurd (omega arith)

zero_above : (bs : List ℕ) → hex_length (48 ∷ bs) ≡ 0 → (m : ℕ) → 1 < m → m ≤ length (48 ∷ bs) → is_some (number_in (take m (48 ∷ bs))) ≡ false
zero_above bs h zero lt le = absurd (omega arith)
zero_above bs h (suc zero) lt le = absurd (omega arith)
zero_above [] h (suc (suc m)) lt le = absurd (omega arith)
zero_above (c ∷ cs) h (suc (suc m)) lt le = by (eqb c 120) (ltb 0 (run classes.HexDigit cs)) refl h m (omega arith)
  where
    by : (u v : Bool) → ltb 0 (run classes.HexDigit cs) ≡ v → cond u (cond v (run classes.HexDigit cs + 2) 0) 0 ≡ 0 → (k : ℕ) → k ≤ length cs → is_some (cond u (hex_of (take k cs)) None) ≡ false
    by true true some z k le = absurd (omega arith)
    by true false none z zero le = refl
    by true false none z (suc k) le = let no : run classes.HexDigit cs < suc k = grind (arith, nat_tests) in hex_some cs k le ∙ leb-more (suc k) (run classes.HexDigit cs) no
    by false v none z k le = refl

zero_48 : (place : ℕ) (bs : List ℕ) → hex_length (48 ∷ bs) ≡ 0 → token_at place (48 ∷ bs) ≡ number_token place 1 (Some 0)
zero_48 place bs h = number_is place 0 48 bs refl (omega arith) refl (zero_above bs h)

pub zero_at : (place : ℕ) (bytes : List ℕ) → hex_length bytes ≡ 0 → get_or bytes 0 0 ≡ 48 → token_at place bytes ≡ number_token place 1 (Some 0)
zero_at place [] h e = absurd (omega arith)
zero_at place (b ∷ bs) h e =
    let P : ℕ → Type 0 = λ d. hex_length (d ∷ bs) ≡ 0 → token_at place (d ∷ bs) ≡ number_token place 1 (Some 0) in
    subst P (sym e) (zero_48 place bs) h

pub decimal_found : (place : ℕ) (bytes : List ℕ) → is_digit (get_or bytes 0 0) ≡ true → eqb (get_or bytes 0 0) 48 ≡ false
    → token_at place bytes ≡ number_token place (run classes.Digit bytes) (number_up_to 18446744073709551615 (take (run classes.Digit bytes) bytes))
decimal_found place [] e z = cc
decimal_found place (b ∷ bs) e z = decimal_at place b bs e z
