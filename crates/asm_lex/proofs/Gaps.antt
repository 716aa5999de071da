-- Blanks and comments between tokens, and what reading one token answers.
use Rattle.std.proofs.Common.{◌≡◌, ◌≤◌, ◌<◌, ℕ, ◌+◌, ◌-◌, Bool, true, false, cond, leb, eqb, List, length, get_or, take, drop, Some, None, Ok, Err, Option, refl, sym, ap, ◌∙◌, arith, subst}
use Rattle.std.specs.Prelude.{not}
use Rattle.std.proofs.lemmas.Bool.Decides.{nat_tests}
use Rattle.std.proofs.lemmas.List.{take_rest, drop-drop, length-drop, get_or-drop}
use Rattle.asm_lex.specs.declared.classes.Class.TheVariants as classes
use Rattle.asm_lex.specs.declared.token.Token.{Token}
use Rattle.asm_lex.specs.declared.token.TokenKind.{TokenKind}
use Rattle.asm_lex.specs.declared.token.TokenKind.TheVariants.{Number, Word, Text, Sign, Newline}
use Rattle.asm_lex.specs.declared.fault.LexFault.{LexFault}
use Rattle.asm_lex.specs.declared.fault.LexFault.TheVariants.{BadByte, NumberTooWide, Memory}
use Rattle.asm_lex.specs.Classes.{run, is_blank, is_hash, is_comment_byte}
use Rattle.asm_lex.specs.Lexemes.{kind_of, lexeme, name_in}
use Rattle.asm_lex.specs.Tokens.{token, number_token, token_of, token_at, tokens_from, Cursor, ReadsOne, dots_before}
use Rattle.number_text.specs.Number.{up_to}
use Rattle.asm_lex.proofs.Steps.{run-stops, blanks, comment, token_at-lies, token_step, fault_step, no_tokens}

abbrev behind : List ℕ → ℕ → List ℕ
behind bytes k = take (length bytes - k) (drop k bytes)

-- what the code knows of the length of a gap
abbrev pub IsGap : List ℕ → ℕ → Type 0
IsGap bytes n = (place : ℕ) → tokens_from place 0 bytes ≡ tokens_from (place + n) 0 (drop n bytes)

pub blank_gap : (bytes : List ℕ) (n : ℕ) → n ≡ run classes.Blank bytes → IsGap bytes n
blank_gap bytes n e place = rw e (blanks place bytes)

pub comment_gap : (bytes : List ℕ) (n m : ℕ) → n ≡ run classes.Blank bytes → get_or bytes n 0 ≡ 35 → m ≡ run classes.Comment (behind bytes n) → IsGap bytes (n + m)
comment_gap bytes n m e hash f place =
    let m_is : m ≡ run classes.Comment (drop n bytes) = f ∙ ap (λ l. run classes.Comment l) (take_rest bytes n) in
    let n_zero : n + 0 ≡ n = omega arith in
    let first : is_hash (get_or (drop n bytes) 0 0) ≡ true = rw (get_or-drop n bytes 0 0, n_zero, hash) refl in
    let rest = comment (place + n) (drop n bytes) first in
    blank_gap bytes n e place ∙ rest ∙ rw (← m_is, drop-drop m n bytes) (ap (λ p. tokens_from p 0 (drop (n + m) bytes)) (omega arith))

pub no_blank_behind : (bytes : List ℕ) (n : ℕ) → n ≡ run classes.Blank bytes → n < length bytes → is_blank (get_or bytes n 0) ≡ false
no_blank_behind bytes n e lt =
    let P : ℕ → Type 0 = λ k. k < length bytes → is_blank (get_or bytes k 0) ≡ false in
    subst P (sym e) (run-stops classes.Blank bytes) lt

newline_is_no_blank : (b : ℕ) → is_comment_byte b ≡ false → is_blank b ≡ false
newline_is_no_blank b e = by (eqb b 10) refl e
  where
    by : (t : Bool) → eqb b 10 ≡ t → not t ≡ false → is_blank b ≡ false
    by true same f = grind (arith, nat_tests)
    by false same f = cc

newline_is_no_hash : (b : ℕ) → is_comment_byte b ≡ false → is_hash b ≡ false
newline_is_no_hash b e = by (eqb b 10) refl e
  where
    by : (t : Bool) → eqb b 10 ≡ t → not t ≡ false → is_hash b ≡ false
    by true same f = grind (arith, nat_tests)
    by false same f = cc

ends_at_newline : (bytes : List ℕ) (n m : ℕ) → m ≡ run classes.Comment (behind bytes n) → n + m < length bytes → is_comment_byte (get_or bytes (n + m) 0) ≡ false
ends_at_newline bytes n m f lt =
    let m_is : m ≡ run classes.Comment (drop n bytes) = f ∙ ap (λ l. run classes.Comment l) (take_rest bytes n) in
    let P : ℕ → Type 0 = λ k. k < length (drop n bytes) → is_comment_byte (get_or (drop n bytes) k 0) ≡ false in
    let stops = subst P (sym m_is) (run-stops classes.Comment (drop n bytes)) (omega (arith, length-drop n bytes)) in
    rw (← get_or-drop n bytes m 0) stops

pub no_blank_after : (bytes : List ℕ) (n m : ℕ) → m ≡ run classes.Comment (behind bytes n) → n + m < length bytes → is_blank (get_or bytes (n + m) 0) ≡ false
no_blank_after bytes n m f lt = newline_is_no_blank (get_or bytes (n + m) 0) (ends_at_newline bytes n m f lt)

pub no_hash_after : (bytes : List ℕ) (n m : ℕ) → m ≡ run classes.Comment (behind bytes n) → n + m < length bytes → is_hash (get_or bytes (n + m) 0) ≡ false
no_hash_after bytes n m f lt = newline_is_no_hash (get_or bytes (n + m) 0) (ends_at_newline bytes n m f lt)

-- a place behind the gap at another place
pub record AfterGap (all : List ℕ) (place from : ℕ) : Type 0 where
  pub same : tokens_from place 0 (drop place all) ≡ tokens_from from 0 (drop from all)
  pub further : place ≤ from
  pub no_blank : from < length all → is_blank (get_or all from 0) ≡ false
  pub no_hash : from < length all → is_hash (get_or all from 0) ≡ false

pub after_gap : (all : List ℕ) (place n : ℕ) → place ≤ length all → IsGap (behind all place) n
    → (n < length (behind all place) → is_blank (get_or (behind all place) n 0) ≡ false)
    → (n < length (behind all place) → is_hash (get_or (behind all place) n 0) ≡ false)
    → AfterGap all place (place + n)
after_gap all place n le gap blank hash =
    let whole = take_rest all place in
    let P : List ℕ → Type 0 = λ l. IsGap l n in
    let B : List ℕ → Type 0 = λ l. n < length l → is_blank (get_or l n 0) ≡ false in
    let H : List ℕ → Type 0 = λ l. n < length l → is_hash (get_or l n 0) ≡ false in
    let byte = get_or-drop place all n 0 in
    record {
      same = subst P whole gap place ∙ ap (tokens_from (place + n) 0) (drop-drop n place all);
      further = omega arith;
      no_blank = λ lt. rw (← byte) (subst B whole blank (omega (arith, length-drop place all)));
      no_hash = λ lt. rw (← byte) (subst H whole hash (omega (arith, length-drop place all)));
    }

pub reads_none : (c : Cursor) (from : ℕ) → AfterGap c.bytes c.place from → from ≡ length c.bytes → ReadsOne c c (Ok None)
reads_none c from gap e = (gap.same ∙ no_tokens from from c.bytes (omega arith), refl)

pub reads_token : (c : Cursor) (from : ℕ) (t : Token) → AfterGap c.bytes c.place from → from < length c.bytes → token_at from (behind c.bytes from) ≡ Ok t
    → ReadsOne c (record { bytes = c.bytes; place = t.to }) (Ok (Some t))
reads_token c from t gap lt e =
    let here : token_at from (drop from c.bytes) ≡ Ok t = ap (token_at from) (sym (take_rest c.bytes from)) ∙ e in
    let lies = token_at-lies from (drop from c.bytes) t here in (
      gap.same ∙ token_step c.bytes from t lt (gap.no_blank lt) (gap.no_hash lt) here,
      refl,
      record { after = omega (arith, gap.further, lies.from); some = omega (arith, lies.from, lies.some); within = omega (arith, lies.within, length-drop from c.bytes) },
    )

pub to_within : (c : Cursor) (from : ℕ) (t : Token) → AfterGap c.bytes c.place from → from < length c.bytes → token_at from (behind c.bytes from) ≡ Ok t → t.to ≤ length c.bytes
to_within c from t gap lt e = (reads_token c from t gap lt e).2.within

-- want of memory is no fault of bytes
no_memory : (place : ℕ) (bytes : List ℕ) (kind : Option TokenKind) → token_of place bytes kind ≡ Err Memory → ⊥
no_memory place bytes None e = cc
no_memory place bytes (Some (Number n)) e = by (up_to 18446744073709551615 n) e
  where
    by : (o : Option ℕ) → number_token place (length bytes) o ≡ Err Memory → ⊥
    by (Some m) f = cc
    by None f = cc
no_memory place bytes (Some Word) e = by (leb (length (name_in bytes)) 32) e
  where
    by : (t : Bool) → cond t (Ok (token Word place (length bytes))) (Err (BadByte (place + dots_before bytes + 32))) ≡ Err Memory → ⊥
    by true f = cc
    by false f = cc
no_memory place bytes (Some Text) e = cc
no_memory place bytes (Some Sign) e = cc
no_memory place bytes (Some Newline) e = cc

token_at-memory : (place : ℕ) (bytes : List ℕ) → token_at place bytes ≡ Err Memory → ⊥
unfolding token_at
token_at-memory place bytes e = no_memory place (lexeme bytes) (kind_of (lexeme bytes)) e

pub reads_fault : (c : Cursor) (from : ℕ) (f : LexFault) → AfterGap c.bytes c.place from → from < length c.bytes → token_at from (behind c.bytes from) ≡ Err f → ReadsOne c c (Err f)
reads_fault c from f gap lt e = by f (ap (token_at from) (sym (take_rest c.bytes from)) ∙ e)
  where
    by : (f : LexFault) → token_at from (drop from c.bytes) ≡ Err f → ReadsOne c c (Err f)
    by (BadByte k) here = (gap.same ∙ fault_step c.bytes from (BadByte k) lt (gap.no_blank lt) (gap.no_hash lt) here, refl)
    by (NumberTooWide k) here = (gap.same ∙ fault_step c.bytes from (NumberTooWide k) lt (gap.no_blank lt) (gap.no_hash lt) here, refl)
    by Memory here = absurd (token_at-memory from (drop from c.bytes) here)
