-- The digits of a number, read as a number.
use Rattle.std.proofs.Common.{◌≡◌, ◌≢◌, ℕ, zero, suc, ◌+◌, ◌-◌, ◌*◌, ◌%◌, ◌/◌, ◌^◌, ◌<◌, ◌≤◌, Bool, true, false, cond, leb, eqb, List, [], ◌∷◌, ◌++◌, length, get_or, Some, None, refl, ap, ◌∙◌, decimal, arith}
use Rattle.std.specs.Prelude.{option_and_then}
use Rattle.std.proofs.lemmas.Bool.Decides.{nat_tests}
use Rattle.std.proofs.lemmas.Option.{none-some}
use Rattle.std.proofs.lemmas.Fmt.{decimal_by_steps, decimal_nonempty, decimal_digit, first_decimal}
use Rattle.number_text.specs.Number.{is_digit, number_from, number_of, up_to, number_up_to}

digit-known : (d : ℕ) → d < 10 → is_digit (48 + d) ≡ true
digit-known d small = grind (arith, nat_tests)

-- one more digit at the end
one_more : (from : ℕ) (ds : List ℕ) (front d : ℕ) → d < 10 → number_from from ds ≡ Some front → number_from from (ds ++ (48 + d) ∷ []) ≡ Some (10 * front + d)
one_more from [] front d small e =
    let same : from ≡ front = cc in
    let value : 10 * from + (48 + d - 48) ≡ 10 * front + d = omega arith in
    rw (digit-known d small, value) refl
one_more from (b ∷ bs) front d small e = by (is_digit b) (one_more (10 * from + (b - 48)) bs front d small) e
  where
    by : (t : Bool) → (number_from (10 * from + (b - 48)) bs ≡ Some front → number_from (10 * from + (b - 48)) (bs ++ (48 + d) ∷ []) ≡ Some (10 * front + d))
        → cond t (number_from (10 * from + (b - 48)) bs) None ≡ Some front
        → cond t (number_from (10 * from + (b - 48)) (bs ++ (48 + d) ∷ [])) None ≡ Some (10 * front + d)
    by true rest same = rest same
    by false rest same = absurd (none-some front same)

-- the digits of a number say the number
pub decimal_read : (n : ℕ) → n < 2 ^ 64 → number_from 0 (decimal n) ≡ Some n
decimal_read = decimal_by_steps (λ m ds. number_from 0 ds ≡ Some m) one more
  where
    one : (m : ℕ) → m < 10 → number_from 0 ((48 + m) ∷ []) ≡ Some m
    one m small = let same : 10 * 0 + m ≡ m = omega arith in one_more 0 [] 0 m small refl ∙ ap Some same

    more : (m : ℕ) (ds : List ℕ) → 10 ≤ m → number_from 0 ds ≡ Some (m / 10) → number_from 0 (ds ++ (48 + m % 10) ∷ []) ≡ Some m
    more m ds large e =
        let whole : 10 * (m / 10) + m % 10 ≡ m = omega arith in
        one_more 0 ds (m / 10) (m % 10) (omega arith) e ∙ ap Some whole

-- digits of which the first is no 0
no_zero_first : (ds : List ℕ) → 0 < length ds → get_or ds 0 0 ≢ 48 → number_of ds ≡ number_from 0 ds
no_zero_first [] some first = absurd (omega arith)
no_zero_first (b ∷ []) some first = refl
no_zero_first (b ∷ c ∷ bs) some first =
    let t : eqb b 48 ≡ false = grind (arith, nat_tests) in
    rw t refl

pub number_of_decimal : (n : ℕ) → n < 2 ^ 64 → number_of (decimal n) ≡ Some n
number_of_decimal zero small = ap number_of (decimal_digit 0 (omega arith))
number_of_decimal (suc n) small =
    no_zero_first (decimal (suc n)) (decimal_nonempty (suc n) small) (λ e. omega (arith, first_decimal (suc n) (omega arith) small)) ∙ decimal_read (suc n) small

-- a number up to a greatest one
pub decimal_up_to : (greatest n : ℕ) → n ≤ greatest → n < 2 ^ 64 → number_up_to greatest (decimal n) ≡ Some n
decimal_up_to greatest n within small =
    let t : leb n greatest ≡ true = grind (arith, nat_tests) in
    ap (option_and_then (up_to greatest)) (number_of_decimal n small) ∙ ap (λ b. cond b (Some n) None) t
