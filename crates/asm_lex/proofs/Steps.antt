-- One token more.
use Rattle.std.proofs.Common.{◌≡◌, ◌≤◌, ◌<◌, ℕ, zero, suc, ◌+◌, ◌-◌, Bool, true, false, cond, leb, List, [], ◌∷◌, length, get_or, drop, Some, None, Ok, Err, Option, refl, sym, ap, ◌∙◌, arith, length-take}
use Rattle.std.specs.Prelude.{Result}
use Rattle.std.proofs.lemmas.Bool.Decides.{nat_tests}
use Rattle.std.proofs.lemmas.List.{drop_all, drop_more, drop-drop}
use Rattle.asm_lex.specs.declared.classes.Class.{Class}
use Rattle.asm_lex.specs.declared.classes.Class.TheVariants as classes
use Rattle.asm_lex.specs.declared.token.Token.{Token}
use Rattle.asm_lex.specs.declared.token.TokenKind.{TokenKind}
use Rattle.asm_lex.specs.declared.token.TokenKind.TheVariants.{Number, Word, Text, Sign, Newline}
use Rattle.asm_lex.specs.declared.fault.LexFault.{LexFault}
use Rattle.asm_lex.specs.declared.fault.LexFault.TheVariants.{BadByte}
use Rattle.asm_lex.specs.Classes.{is_of, run, is_blank, is_hash, is_comment_byte}
use Rattle.asm_lex.specs.Lexemes.{kind_of, lexeme, longest, name_in}
use Rattle.asm_lex.specs.Tokens.{token, number_token, token_of, token_at, prepended, tokens_from, dots_before}
use Rattle.number_text.specs.Number.{up_to}

-- a run ends at its length
pub run-stops : (class : Class) (bytes : List ℕ) → run class bytes < length bytes → is_of class (get_or bytes (run class bytes) 0) ≡ false
run-stops class [] lt = absurd (omega arith)
run-stops class (b ∷ bs) lt = by (is_of class b) refl (run-stops class bs) lt
  where
    by : (t : Bool) → is_of class b ≡ t → (run class bs < length bs → is_of class (get_or bs (run class bs) 0) ≡ false) → cond t (suc (run class bs)) 0 < suc (length bs)
        → is_of class (get_or (b ∷ bs) (cond t (suc (run class bs)) 0) 0) ≡ false
    by true e rest lt = rest (omega arith)
    by false e rest lt = e

-- bytes that belong to what came before
pub skipping : (place k : ℕ) (bytes : List ℕ) → tokens_from place k bytes ≡ tokens_from (place + k) 0 (drop k bytes)
unfolding tokens_from
skipping place zero bytes = ap (λ p. tokens_from p 0 bytes) (omega arith)
skipping place (suc k) [] = refl
skipping place (suc k) (b ∷ bs) = skipping (place + 1) k bs ∙ ap (λ p. tokens_from p 0 (drop k bs)) (omega arith)

pub blanks : (place : ℕ) (bytes : List ℕ) → tokens_from place 0 bytes ≡ tokens_from (place + run classes.Blank bytes) 0 (drop (run classes.Blank bytes) bytes)
unfolding tokens_from
blanks place [] = refl
blanks place (b ∷ bs) = by (is_blank b) refl (blanks (place + 1) bs)
  where
    by : (t : Bool) → is_blank b ≡ t → tokens_from (place + 1) 0 bs ≡ tokens_from (place + 1 + run classes.Blank bs) 0 (drop (run classes.Blank bs) bs)
        → tokens_from place 0 (b ∷ bs) ≡ tokens_from (place + cond t (suc (run classes.Blank bs)) 0) 0 (drop (cond t (suc (run classes.Blank bs)) 0) (b ∷ bs))
    by true e rest = rw e (rest ∙ ap (λ p. tokens_from p 0 (drop (run classes.Blank bs) bs)) (omega arith))
    by false e rest = ap (λ p. tokens_from p 0 (b ∷ bs)) (omega arith)

pub comment : (place : ℕ) (bytes : List ℕ) → is_hash (get_or bytes 0 0) ≡ true → tokens_from place 0 bytes ≡ tokens_from (place + run classes.Comment bytes) 0 (drop (run classes.Comment bytes) bytes)
unfolding tokens_from
comment place [] e = refl
comment place (b ∷ bs) e =
    let blank : is_blank b ≡ false = grind (arith, nat_tests) in
    let part : is_comment_byte b ≡ true = grind (arith, nat_tests) in
    rw (blank, e, part) (skipping (place + 1) (run classes.Comment bs) bs ∙ ap (λ p. tokens_from p 0 (drop (run classes.Comment bs) bs)) (omega arith))

-- where a token lies
pub record Lies (place len : ℕ) (t : Token) : Type 0 where
  pub from : t.from ≡ place
  pub some : place < t.to
  pub within : t.to ≤ place + len

abbrev good : TokenKind → ℕ → ℕ → Result Token LexFault
good kind place len = Ok (token kind place len)

token_lies : (kind : TokenKind) (place len : ℕ) (t : Token) → 0 < len → good kind place len ≡ Ok t → Lies place len t
token_lies kind place len t lt e =
    let same : token kind place len ≡ t = cc in
    record { from = sym (ap (λ (u : Token). u.from) same); some = omega (arith, ap (λ (u : Token). u.to) same); within = omega (arith, ap (λ (u : Token). u.to) same) }

token_of-lies : (place : ℕ) (bytes : List ℕ) (kind : Option TokenKind) (t : Token) → 0 < length bytes → token_of place bytes kind ≡ Ok t → Lies place (length bytes) t
token_of-lies place bytes None t lt e = cc
token_of-lies place bytes (Some (Number n)) t lt e = by (up_to 18446744073709551615 n) e
  where
    by : (o : Option ℕ) → number_token place (length bytes) o ≡ Ok t → Lies place (length bytes) t
    by (Some m) f = token_lies (Number m) place (length bytes) t lt f
    by None f = cc
token_of-lies place bytes (Some Word) t lt e = by (leb (length (name_in bytes)) 32) e
  where
    by : (c : Bool) → cond c (Ok (token Word place (length bytes))) (Err (BadByte (place + dots_before bytes + 32))) ≡ Ok t → Lies place (length bytes) t
    by true f = token_lies Word place (length bytes) t lt f
    by false f = cc
token_of-lies place bytes (Some Text) t lt e = token_lies Text place (length bytes) t lt e
token_of-lies place bytes (Some Sign) t lt e = token_lies Sign place (length bytes) t lt e
token_of-lies place bytes (Some Newline) t lt e = token_lies Newline place (length bytes) t lt e

pub some_lies : (place : ℕ) (bytes : List ℕ) (t : Token) → token_of place bytes (kind_of bytes) ≡ Ok t → Lies place (length bytes) t
some_lies place [] t e = cc
some_lies place (b ∷ bs) t e = token_of-lies place (b ∷ bs) (kind_of (b ∷ bs)) t (omega arith) e

pub token_at-lies : (place : ℕ) (bytes : List ℕ) (t : Token) → token_at place bytes ≡ Ok t → Lies place (length bytes) t
unfolding token_at
token_at-lies place bytes t e =
    let lies = some_lies place (lexeme bytes) t e in
    let len = length-take (longest bytes (length bytes)) bytes in
    record { from = lies.from; some = lies.some; within = omega (arith, lies.within, len) }

-- a token and those behind it
step : (place b : ℕ) (bs : List ℕ) (t : Token) → is_blank b ≡ false → is_hash b ≡ false → token_at place (b ∷ bs) ≡ Ok t → place < t.to
    → tokens_from place 0 (b ∷ bs) ≡ prepended t (tokens_from t.to 0 (drop (t.to - (place + 1)) bs))
unfolding tokens_from
step place b bs t blank hash e lt =
    let to : place + 1 + (t.to - (place + 1)) ≡ t.to = omega arith in
    rw (blank, hash, e) (ap (prepended t) (skipping (place + 1) (t.to - (place + 1)) bs ∙ ap (λ p. tokens_from p 0 (drop (t.to - (place + 1)) bs)) to))

pub token_step : (all : List ℕ) (from : ℕ) (t : Token) → from < length all → is_blank (get_or all from 0) ≡ false → is_hash (get_or all from 0) ≡ false → token_at from (drop from all) ≡ Ok t
    → tokens_from from 0 (drop from all) ≡ prepended t (tokens_from t.to 0 (drop t.to all))
token_step all from t lt blank hash e =
    let split : drop from all ≡ get_or all from 0 ∷ drop (from + 1) all = drop_more all from 0 lt in
    let lies = token_at-lies from (drop from all) t e in
    let first : token_at from (get_or all from 0 ∷ drop (from + 1) all) ≡ Ok t = ap (token_at from) (sym split) ∙ e in
    let to : from + 1 + (t.to - (from + 1)) ≡ t.to = omega (arith, lies.some) in
    let behind : drop (t.to - (from + 1)) (drop (from + 1) all) ≡ drop t.to all = drop-drop (t.to - (from + 1)) (from + 1) all ∙ ap (λ k. drop k all) to in
    ap (tokens_from from 0) split ∙ step from (get_or all from 0) (drop (from + 1) all) t blank hash first lies.some ∙ ap (λ l. prepended t (tokens_from t.to 0 l)) behind

fault : (place b : ℕ) (bs : List ℕ) (f : LexFault) → is_blank b ≡ false → is_hash b ≡ false → token_at place (b ∷ bs) ≡ Err f → tokens_from place 0 (b ∷ bs) ≡ Err f
unfolding tokens_from
fault place b bs f blank hash e = rw (blank, hash, e) refl

pub fault_step : (all : List ℕ) (from : ℕ) (f : LexFault) → from < length all → is_blank (get_or all from 0) ≡ false → is_hash (get_or all from 0) ≡ false → token_at from (drop from all) ≡ Err f
    → tokens_from from 0 (drop from all) ≡ Err f
fault_step all from f lt blank hash e =
    let split : drop from all ≡ get_or all from 0 ∷ drop (from + 1) all = drop_more all from 0 lt in
    ap (tokens_from from 0) split ∙ fault from (get_or all from 0) (drop (from + 1) all) f blank hash (ap (token_at from) (sym split) ∙ e)

pub no_tokens : (place k : ℕ) (all : List ℕ) → length all ≤ k → tokens_from place 0 (drop k all) ≡ Ok []
unfolding tokens_from
no_tokens place k all le = ap (tokens_from place 0) (drop_all k all le)
