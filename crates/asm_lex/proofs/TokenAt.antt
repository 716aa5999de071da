-- The token at a place by its longest front; signs, newlines and bytes that begin nothing.
use Rattle.std.proofs.Common.{◌≡◌, ◌≤◌, ◌<◌, ℕ, zero, suc, ◌+◌, ◌-◌, Bool, true, false, cond, eqb, List, [], ◌∷◌, length, get_or, take, drop, Some, None, Ok, Err, refl, ap, ◌∙◌, arith}
use Rattle.std.specs.Prelude.{◌&&◌, is_some}
use Rattle.std.proofs.lemmas.Bool.Decides.{nat_tests}
use Rattle.std.proofs.lemmas.List.{length-take-le, get_or_past, take_rest}
use Rattle.number_text.specs.Number.{is_digit}
use Rattle.asm_lex.specs.declared.classes.Class.TheVariants as classes
use Rattle.asm_lex.specs.declared.token.TokenKind.TheVariants.{Text, Sign, Newline}
use Rattle.asm_lex.specs.declared.fault.LexFault.TheVariants.{BadByte}
use Rattle.asm_lex.specs.Classes.{is_name_start, is_dot, is_quote, is_sign_byte, is_newline_byte, run}
use Rattle.asm_lex.specs.Lexemes.{after_dot, before_dot, is_name, is_word, is_closed, is_sign, is_newline, kind_of}
use Rattle.asm_lex.specs.Fronts.{starts_name, begins_word}
use Rattle.asm_lex.specs.Tokens.{token, token_of, token_at}
use Rattle.asm_lex.proofs.Longest.{stands, NoneAbove, lexeme-at, lexeme-none}
use Rattle.asm_lex.proofs.Runs.{closed-take}
use Rattle.asm_lex.proofs.FirstBytes.{not_number, not_word, one_sign, one_newline}

pub token_at-none : (place : ℕ) (bytes : List ℕ) → NoneAbove bytes 0 (length bytes) → token_at place bytes ≡ Err (BadByte place)
unfolding token_at
token_at-none place bytes none = ap (λ (l : List ℕ). token_of place l (kind_of l)) (lexeme-none bytes none)

pub token_at-is : (place k : ℕ) (bytes : List ℕ) → stands bytes (suc k) ≡ true → suc k ≤ length bytes → NoneAbove bytes (suc k) (length bytes)
    → token_at place bytes ≡ token_of place (take (suc k) bytes) (kind_of (take (suc k) bytes))
unfolding token_at
token_at-is place k bytes is le none = ap (λ (l : List ℕ). token_of place l (kind_of l)) (lexeme-at bytes k is le none)

not_name : (bytes : List ℕ) → starts_name bytes ≡ false → is_name (before_dot bytes) ≡ false
not_name [] e = refl
not_name (b ∷ []) e = by (is_dot b)
  where
    by : (t : Bool) → is_name (cond t [] (b ∷ [])) ≡ false
    by true = refl
    by false = rw e refl
not_name (b ∷ c ∷ cs) e = rw e refl

begins-take : (bytes : List ℕ) (m : ℕ) → begins_word bytes ≡ false → begins_word (take (suc m) bytes) ≡ false
begins-take [] m e = refl
begins-take (b ∷ bs) zero e = by (is_dot b) e
  where
    by : (t : Bool) → starts_name (cond t bs (b ∷ bs)) ≡ false → starts_name (cond t [] (b ∷ [])) ≡ false
    by true f = refl
    by false f = f
begins-take (b ∷ []) (suc m) e = e
begins-take (b ∷ c ∷ cs) (suc m) e = by (is_dot b) e
  where
    by : (t : Bool) → starts_name (cond t (c ∷ cs) (b ∷ c ∷ cs)) ≡ false → starts_name (cond t (c ∷ take m cs) (b ∷ c ∷ take m cs)) ≡ false
    by true f = f
    by false f = f

not_begins : (bytes : List ℕ) (m : ℕ) → begins_word bytes ≡ false → is_word (take (suc m) bytes) ≡ false
not_begins bytes m e = not_name (after_dot (take (suc m) bytes)) (begins-take bytes m e)

-- the first byte begins no number, word or text
pub record IsOther (bytes : List ℕ) (b : ℕ) : Type 0 where
  pub no_digit : is_digit b ≡ false
  pub no_word : begins_word bytes ≡ false
  pub no_quote : is_quote b ≡ false

kind_of-other : (b : ℕ) (bs : List ℕ) (m : ℕ) → IsOther (b ∷ bs) b → kind_of (take (suc m) (b ∷ bs)) ≡ cond (is_sign (b ∷ take m bs)) (Some Sign) (cond (is_newline (b ∷ take m bs)) (Some Newline) None)
kind_of-other b bs m other = rw (not_number b (take m bs) other.no_digit, not_begins (b ∷ bs) m other.no_word, other.no_quote) refl

none_of_two : (b : ℕ) (bs : List ℕ) → IsOther (b ∷ bs) b → NoneAbove (b ∷ bs) 1 (length (b ∷ bs))
none_of_two b bs other zero lt le = absurd (omega arith)
none_of_two b bs other (suc zero) lt le = absurd (omega arith)
none_of_two b [] other (suc (suc m)) lt le = absurd (omega arith)
none_of_two b (c ∷ cs) other (suc (suc m)) lt le = ap is_some (kind_of-other b (c ∷ cs) (suc m) other)

pub sign_at : (place b : ℕ) (bs : List ℕ) → IsOther (b ∷ bs) b → is_sign_byte b ≡ true → token_at place (b ∷ bs) ≡ Ok (token Sign place 1)
sign_at place b bs other e =
    let kind : kind_of (b ∷ []) ≡ Some Sign = kind_of-other b bs 0 other ∙ rw e refl in
    token_at-is place 0 (b ∷ bs) (ap is_some kind) (omega arith) (none_of_two b bs other) ∙ ap (token_of place (b ∷ [])) kind

pub newline_at : (place b : ℕ) (bs : List ℕ) → IsOther (b ∷ bs) b → is_sign_byte b ≡ false → is_newline_byte b ≡ true → token_at place (b ∷ bs) ≡ Ok (token Newline place 1)
newline_at place b bs other f e =
    let kind : kind_of (b ∷ []) ≡ Some Newline = kind_of-other b bs 0 other ∙ rw (f, e) refl in
    token_at-is place 0 (b ∷ bs) (ap is_some kind) (omega arith) (none_of_two b bs other) ∙ ap (token_of place (b ∷ [])) kind

pub nothing_at : (place b : ℕ) (bs : List ℕ) → IsOther (b ∷ bs) b → is_sign_byte b ≡ false → is_newline_byte b ≡ false → token_at place (b ∷ bs) ≡ Err (BadByte place)
nothing_at place b bs other f e = token_at-none place (b ∷ bs) none
  where
    none : NoneAbove (b ∷ bs) 0 (length (b ∷ bs))
    none zero lt le = absurd (omega arith)
    none (suc m) lt le =
        let kind : kind_of (take (suc m) (b ∷ bs)) ≡ None = kind_of-other b bs m other ∙ rw (one_sign b (take m bs) f, one_newline b (take m bs) e) refl in
        ap is_some kind

-- texts
kind_of-quote : (b : ℕ) (bs : List ℕ) → is_quote b ≡ true → kind_of (b ∷ bs) ≡ cond (is_closed bs) (Some Text) None
kind_of-quote b bs e =
    let g : is_digit b ≡ false = grind (arith, nat_tests) in
    let d : is_dot b ≡ false = grind (arith, nat_tests) in
    let n : is_name_start b ≡ false = grind (arith, nat_tests) in
    let s : is_sign_byte b ≡ false = grind (arith, nat_tests) in
    let l : is_newline_byte b ≡ false = grind (arith, nat_tests) in
    rw (not_number b bs g, not_word b bs d n, e, one_sign b bs s, one_newline b bs l) refl

some_text : (t : Bool) → is_some (cond t (Some Text) None) ≡ t
some_text true = refl
some_text false = refl

text_stands : (b : ℕ) (bs : List ℕ) (m : ℕ) → is_quote b ≡ true → m ≤ length bs → stands (b ∷ bs) (suc m) ≡ (eqb m (suc (run classes.Text bs)) && is_quote (get_or bs (run classes.Text bs) 0))
text_stands b bs m e le = ap is_some (kind_of-quote b (take m bs) e) ∙ some_text (is_closed (take m bs)) ∙ closed-take bs m le

eqb-same : (n : ℕ) → eqb n n ≡ true
eqb-same n = grind (arith, nat_tests)

eqb-more : (m n : ℕ) → n < m → eqb m n ≡ false
eqb-more m n lt = grind (arith, nat_tests)

pub text_at : (place b : ℕ) (bs : List ℕ) → is_quote b ≡ true → run classes.Text bs < length bs → is_quote (get_or bs (run classes.Text bs) 0) ≡ true
    → token_at place (b ∷ bs) ≡ Ok (token Text place (suc (suc (run classes.Text bs))))
text_at place b bs e lt quote =
    let n = run classes.Text bs in
    let is : stands (b ∷ bs) (suc (suc n)) ≡ true = text_stands b bs (suc n) e (omega arith) ∙ rw (eqb-same (suc n), quote) refl in
    let closed : is_closed (take (suc n) bs) ≡ true = closed-take bs (suc n) (omega arith) ∙ rw (eqb-same (suc n), quote) refl in
    let kind : kind_of (take (suc (suc n)) (b ∷ bs)) ≡ Some Text = kind_of-quote b (take (suc n) bs) e ∙ rw closed refl in
    let len : length (take (suc (suc n)) (b ∷ bs)) ≡ suc (suc n) = length-take-le (suc (suc n)) (b ∷ bs) (omega arith) in
    token_at-is place (suc n) (b ∷ bs) is (omega arith) (none e) ∙ ap (token_of place (take (suc (suc n)) (b ∷ bs))) kind ∙ ap (λ k. Ok (token Text place k)) len
  where
    none : is_quote b ≡ true → NoneAbove (b ∷ bs) (suc (suc (run classes.Text bs))) (length (b ∷ bs))
    none e zero lt le = absurd (omega arith)
    none e (suc m) lt le = text_stands b bs m e (omega arith) ∙ rw (eqb-more m (suc (run classes.Text bs)) (omega arith)) refl

pub no_text_at : (place b : ℕ) (bs : List ℕ) → is_quote b ≡ true → is_quote (get_or bs (run classes.Text bs) 0) ≡ false → token_at place (b ∷ bs) ≡ Err (BadByte place)
no_text_at place b bs e quote = token_at-none place (b ∷ bs) none
  where
    both : (t : Bool) → (t && false) ≡ false
    both true = refl
    both false = refl

    none : NoneAbove (b ∷ bs) 0 (length (b ∷ bs))
    none zero lt le = absurd (omega arith)
    none (suc m) lt le = text_stands b bs m e (omega arith) ∙ rw quote (both (eqb m (suc (run classes.Text bs))))

-- the same of bytes as the code sees them
pub text_found : (place n : ℕ) (bytes : List ℕ) → is_quote (get_or bytes 0 0) ≡ true → n ≡ run classes.Text (take (length bytes - 1) (drop 1 bytes)) → 1 + n < length bytes → is_quote (get_or bytes (1 + n) 0) ≡ true
    → token_at place bytes ≡ Ok (token Text place (1 + n + 1))
text_found place n [] e same lt quote = absurd (omega arith)
text_found place n (b ∷ bs) e whole lt quote =
    let next : 1 + n ≡ suc n = omega arith in
    let same : n ≡ run classes.Text bs = whole ∙ ap (λ l. run classes.Text l) (take_rest (b ∷ bs) 1) in
    let behind : suc n + 1 ≡ suc (suc (run classes.Text bs)) = omega (arith, same) in
    let closing : is_quote (get_or bs (run classes.Text bs) 0) ≡ true = rw (← same) (rw next at quote) in
    text_at place b bs e (omega (arith, same)) closing ∙ rw (next, behind) refl

pub text_missing : (place n : ℕ) (bytes : List ℕ) → is_quote (get_or bytes 0 0) ≡ true → n ≡ run classes.Text (take (length bytes - 1) (drop 1 bytes)) → is_quote (get_or bytes (1 + n) 0) ≡ false
    → token_at place bytes ≡ Err (BadByte place)
text_missing place n [] e same quote = cc
text_missing place n (b ∷ bs) e whole quote =
    let next : 1 + n ≡ suc n = omega arith in
    let same : n ≡ run classes.Text bs = whole ∙ ap (λ l. run classes.Text l) (take_rest (b ∷ bs) 1) in
    let closing : is_quote (get_or bs (run classes.Text bs) 0) ≡ false = rw (← same) (rw next at quote) in
    no_text_at place b bs e closing

pub past_quote : (bytes : List ℕ) (k : ℕ) → length bytes ≤ k → is_quote (get_or bytes k 0) ≡ false
past_quote bytes k le = rw (get_or_past bytes k 0 le) refl

pub other_of : (bytes : List ℕ) → is_digit (get_or bytes 0 0) ≡ false → begins_word bytes ≡ false → is_quote (get_or bytes 0 0) ≡ false → IsOther bytes (get_or bytes 0 0)
other_of bytes d w q = record { no_digit = d; no_word = w; no_quote = q }

pub sign_found : (place : ℕ) (bytes : List ℕ) → 0 < length bytes → IsOther bytes (get_or bytes 0 0) → is_sign_byte (get_or bytes 0 0) ≡ true → token_at place bytes ≡ Ok (token Sign place 1)
sign_found place [] lt other e = absurd (omega arith)
sign_found place (b ∷ bs) lt other e = sign_at place b bs other e

pub newline_found : (place : ℕ) (bytes : List ℕ) → 0 < length bytes → IsOther bytes (get_or bytes 0 0) → is_sign_byte (get_or bytes 0 0) ≡ false → is_newline_byte (get_or bytes 0 0) ≡ true
    → token_at place bytes ≡ Ok (token Newline place 1)
newline_found place [] lt other f e = absurd (omega arith)
newline_found place (b ∷ bs) lt other f e = newline_at place b bs other f e

pub nothing_found : (place : ℕ) (bytes : List ℕ) → 0 < length bytes → IsOther bytes (get_or bytes 0 0) → is_sign_byte (get_or bytes 0 0) ≡ false → is_newline_byte (get_or bytes 0 0) ≡ false
    → token_at place bytes ≡ Err (BadByte place)
nothing_found place [] lt other f e = absurd (omega arith)
nothing_found place (b ∷ bs) lt other f e = nothing_at place b bs other f e
