-- The word at a place.
use Rattle.std.proofs.Common.{◌≡◌, ◌≤◌, ◌<◌, ℕ, zero, suc, ◌+◌, ◌-◌, Bool, true, false, cond, leb, List, [], ◌∷◌, length, take, drop, Some, None, Ok, Err, refl, sym, ap, ◌∙◌, arith}
use Rattle.std.specs.Prelude.{is_some, Result}
use Rattle.std.proofs.lemmas.Bool.Decides.{nat_tests}
use Rattle.std.proofs.lemmas.List.{length-take-le, take_rest}
use Rattle.number_text.specs.Number.{is_digit}
use Rattle.asm_lex.specs.declared.classes.Class.TheVariants as classes
use Rattle.asm_lex.specs.declared.token.Token.{Token}
use Rattle.asm_lex.specs.declared.token.TokenKind.TheVariants.{Word}
use Rattle.asm_lex.specs.declared.fault.LexFault.{LexFault}
use Rattle.asm_lex.specs.declared.fault.LexFault.TheVariants.{BadByte}
use Rattle.asm_lex.specs.Classes.{is_name_start, is_name_byte, is_dot, is_quote, is_sign_byte, is_newline_byte, every, run}
use Rattle.asm_lex.specs.Lexemes.{before_dot, name_in, kind_of}
use Rattle.asm_lex.specs.Fronts.{starts_name, begins_word}
use Rattle.asm_lex.specs.Tokens.{token, token_of, word_token, dots_before, token_at}
use Rattle.asm_lex.proofs.Longest.{NoneAbove}
use Rattle.asm_lex.proofs.Runs.{word_run, word_run-within, every-before_dot, length-before_dot}
use Rattle.asm_lex.proofs.FirstBytes.{not_number, before_dot-cons, one_sign, one_newline}
use Rattle.asm_lex.proofs.TokenAt.{token_at-is}

-- name bytes and a dot: how many name bytes, and how many dots behind them
pub word_run-split : (bytes : List ℕ) → word_run bytes ≡ run classes.Name bytes + dots_before (drop (run classes.Name bytes) bytes)
word_run-split [] = refl
word_run-split (b ∷ bs) = by (is_name_byte b) (is_dot b) refl (word_run-split bs)
  where
    by : (t u : Bool) → u ≡ is_dot b → word_run bs ≡ run classes.Name bs + dots_before (drop (run classes.Name bs) bs)
        → cond t (suc (word_run bs)) (cond u 1 0) ≡ cond t (suc (run classes.Name bs)) 0 + dots_before (drop (cond t (suc (run classes.Name bs)) 0) (b ∷ bs))
    by true u d rest = omega (arith, rest)
    by false true d rest = rw (sym d) refl
    by false false d rest = rw (sym d) refl

some_word : (t : Bool) → is_some (cond t (Some Word) None) ≡ t
some_word true = refl
some_word false = refl

leb-more : (m n : ℕ) → n < m → leb m n ≡ false
leb-more m n lt = grind (arith, nat_tests)

leb-same : (n : ℕ) → leb n n ≡ true
leb-same n = grind (arith, nat_tests)

name_is_byte : (b : ℕ) → is_name_start b ≡ true → is_name_byte b ≡ true
name_is_byte b e = rw e refl

kind_of-name : (b : ℕ) (bs : List ℕ) → is_name_start b ≡ true → kind_of (b ∷ bs) ≡ cond (every classes.Name (before_dot bs)) (Some Word) None
kind_of-name b bs e =
    let g : is_digit b ≡ false = grind (arith, nat_tests) in
    let d : is_dot b ≡ false = grind (arith, nat_tests) in
    let q : is_quote b ≡ false = grind (arith, nat_tests) in
    let s : is_sign_byte b ≡ false = grind (arith, nat_tests) in
    let l : is_newline_byte b ≡ false = grind (arith, nat_tests) in
    rw (not_number b bs g, d, before_dot-cons b bs d, e, q, one_sign b bs s, one_newline b bs l) refl

kind_of-dot_name : (a b : ℕ) (bs : List ℕ) → is_dot a ≡ true → is_name_start b ≡ true → kind_of (a ∷ b ∷ bs) ≡ cond (every classes.Name (before_dot bs)) (Some Word) None
kind_of-dot_name a b bs f e =
    let g : is_digit a ≡ false = grind (arith, nat_tests) in
    let d : is_dot b ≡ false = grind (arith, nat_tests) in
    let q : is_quote a ≡ false = grind (arith, nat_tests) in
    rw (not_number a (b ∷ bs) g, f, before_dot-cons b bs d, e, q) refl

-- a name without a dot before it
plain : (place b : ℕ) (bs : List ℕ) → is_name_start b ≡ true
    → token_at place (b ∷ bs) ≡ cond (leb (suc (run classes.Name bs)) 32) (Ok (token Word place (suc (word_run bs)))) (Err (BadByte (place + 0 + 32)))
plain place b bs e =
    let n = word_run bs in
    let within = word_run-within bs in
    let d : is_dot b ≡ false = grind (arith, nat_tests) in
    let all : every classes.Name (before_dot (take n bs)) ≡ true = every-before_dot bs n within ∙ leb-same n in
    let kind : kind_of (take (suc n) (b ∷ bs)) ≡ Some Word = kind_of-name b (take n bs) e ∙ rw all refl in
    let len : length (take (suc n) (b ∷ bs)) ≡ suc n = length-take-le (suc n) (b ∷ bs) (omega arith) in
    let name : length (name_in (take (suc n) (b ∷ bs))) ≡ suc (run classes.Name bs) = rw (d, before_dot-cons b (take n bs) d, length-before_dot bs) refl in
    let dots : dots_before (take (suc n) (b ∷ bs)) ≡ 0 = rw d refl in
    token_at-is place n (b ∷ bs) (ap is_some kind) (omega arith) (none e) ∙ ap (token_of place (take (suc n) (b ∷ bs))) kind ∙ same place (take (suc n) (b ∷ bs)) (suc n) (suc (run classes.Name bs)) 0 len name dots
  where
    none : is_name_start b ≡ true → NoneAbove (b ∷ bs) (suc (word_run bs)) (length (b ∷ bs))
    none e zero lt le = absurd (omega arith)
    none e (suc m) lt le = ap is_some (kind_of-name b (take m bs) e) ∙ some_word (every classes.Name (before_dot (take m bs))) ∙ every-before_dot bs m (omega arith) ∙ leb-more m (word_run bs) (omega arith)

    same : (place : ℕ) (bytes : List ℕ) (len name dots : ℕ) → length bytes ≡ len → length (name_in bytes) ≡ name → dots_before bytes ≡ dots
        → word_token place bytes ≡ cond (leb name 32) (Ok (token Word place len)) (Err (BadByte (place + dots + 32)))
    same place bytes len name dots l n d = rw (l, n, d) refl

-- a name with a dot before it
dotted : (place a b : ℕ) (bs : List ℕ) → is_dot a ≡ true → is_name_start b ≡ true
    → token_at place (a ∷ b ∷ bs) ≡ cond (leb (suc (run classes.Name bs)) 32) (Ok (token Word place (suc (suc (word_run bs))))) (Err (BadByte (place + 1 + 32)))
dotted place a b bs f e =
    let n = word_run bs in
    let within = word_run-within bs in
    let d : is_dot b ≡ false = grind (arith, nat_tests) in
    let all : every classes.Name (before_dot (take n bs)) ≡ true = every-before_dot bs n within ∙ leb-same n in
    let kind : kind_of (take (suc (suc n)) (a ∷ b ∷ bs)) ≡ Some Word = kind_of-dot_name a b (take n bs) f e ∙ rw all refl in
    let len : length (take (suc (suc n)) (a ∷ b ∷ bs)) ≡ suc (suc n) = length-take-le (suc (suc n)) (a ∷ b ∷ bs) (omega arith) in
    let name : length (name_in (take (suc (suc n)) (a ∷ b ∷ bs))) ≡ suc (run classes.Name bs) = rw (f, before_dot-cons b (take n bs) d, length-before_dot bs) refl in
    let dots : dots_before (take (suc (suc n)) (a ∷ b ∷ bs)) ≡ 1 = rw f refl in
    token_at-is place (suc n) (a ∷ b ∷ bs) (ap is_some kind) (omega arith) (none f e) ∙ ap (token_of place (take (suc (suc n)) (a ∷ b ∷ bs))) kind ∙ same place (take (suc (suc n)) (a ∷ b ∷ bs)) (suc (suc n)) (suc (run classes.Name bs)) 1 len name dots
  where
    none : is_dot a ≡ true → is_name_start b ≡ true → NoneAbove (a ∷ b ∷ bs) (suc (suc (word_run bs))) (length (a ∷ b ∷ bs))
    none f e zero lt le = absurd (omega arith)
    none f e (suc zero) lt le = absurd (omega arith)
    none f e (suc (suc m)) lt le = ap is_some (kind_of-dot_name a b (take m bs) f e) ∙ some_word (every classes.Name (before_dot (take m bs))) ∙ every-before_dot bs m (omega arith) ∙ leb-more m (word_run bs) (omega arith)

    same : (place : ℕ) (bytes : List ℕ) (len name dots : ℕ) → length bytes ≡ len → length (name_in bytes) ≡ name → dots_before bytes ≡ dots
        → word_token place bytes ≡ cond (leb name 32) (Ok (token Word place len)) (Err (BadByte (place + dots + 32)))
    same place bytes len name dots l n d = rw (l, n, d) refl

-- what the code counts: dots, name bytes, dots
abbrev pub counted : ℕ → ℕ → ℕ → ℕ → Result Token LexFault
counted place dots name more = cond (leb name 32) (Ok (token Word place (dots + name + more))) (Err (BadByte (place + dots + 32)))

plain_counted : (place b : ℕ) (bs : List ℕ) → is_name_start b ≡ true
    → token_at place (b ∷ bs) ≡ counted place 0 (run classes.Name (b ∷ bs)) (dots_before (drop (0 + run classes.Name (b ∷ bs)) (b ∷ bs)))
plain_counted place b bs e =
    let n = run classes.Name bs in
    let first : run classes.Name (b ∷ bs) ≡ suc n = rw (name_is_byte b e) refl in
    let front : 0 + suc n ≡ suc n = omega arith in
    let len : suc (word_run bs) ≡ suc n + dots_before (drop n bs) = omega (arith, word_run-split bs) in
    plain place b bs e ∙ rw (first, front, len) refl

dotted_counted : (place a b : ℕ) (bs : List ℕ) → is_dot a ≡ true → is_name_start b ≡ true
    → token_at place (a ∷ b ∷ bs) ≡ counted place 1 (run classes.Name (b ∷ bs)) (dots_before (drop (1 + run classes.Name (b ∷ bs)) (a ∷ b ∷ bs)))
dotted_counted place a b bs f e =
    let n = run classes.Name bs in
    let first : run classes.Name (b ∷ bs) ≡ suc n = rw (name_is_byte b e) refl in
    let front : 1 + suc n ≡ suc (suc n) = omega arith in
    let len : suc (suc (word_run bs)) ≡ suc (suc n) + dots_before (drop n bs) = omega (arith, word_run-split bs) in
    dotted place a b bs f e ∙ rw (first, front, len) refl

pub word_at : (place : ℕ) (bytes : List ℕ) → begins_word bytes ≡ true
    → token_at place bytes ≡ counted place (dots_before bytes) (run classes.Name (drop (dots_before bytes) bytes)) (dots_before (drop (dots_before bytes + run classes.Name (drop (dots_before bytes) bytes)) bytes))
word_at place [] e = cc
word_at place (b ∷ []) e = by (is_dot b) refl e
  where
    by : (t : Bool) → is_dot b ≡ t → starts_name (cond t [] (b ∷ [])) ≡ true
        → token_at place (b ∷ []) ≡ counted place (cond t 1 0) (run classes.Name (drop (cond t 1 0) (b ∷ []))) (dots_before (drop (cond t 1 0 + run classes.Name (drop (cond t 1 0) (b ∷ []))) (b ∷ [])))
    by true d s = cc
    by false d s = plain_counted place b [] s
word_at place (b ∷ c ∷ cs) e = by (is_dot b) refl e
  where
    by : (t : Bool) → is_dot b ≡ t → starts_name (cond t (c ∷ cs) (b ∷ c ∷ cs)) ≡ true
        → token_at place (b ∷ c ∷ cs) ≡ counted place (cond t 1 0) (run classes.Name (drop (cond t 1 0) (b ∷ c ∷ cs))) (dots_before (drop (cond t 1 0 + run classes.Name (drop (cond t 1 0) (b ∷ c ∷ cs))) (b ∷ c ∷ cs)))
    by true d s = dotted_counted place b c cs d s
    by false d s = plain_counted place b (c ∷ cs) s

-- the same of numbers as the code counts them
rest_of : (bytes : List ℕ) (k : ℕ) → take (length bytes - k) (drop k bytes) ≡ drop k bytes
rest_of bytes k = take_rest bytes k

abbrev behind : List ℕ → ℕ → List ℕ
behind bytes k = take (length bytes - k) (drop k bytes)

pub long_word : (place dots name : ℕ) (bytes : List ℕ) → begins_word bytes ≡ true → dots ≡ dots_before bytes → name ≡ run classes.Name (behind bytes dots) → 32 < name
    → token_at place bytes ≡ Err (BadByte (place + dots + 32))
long_word place dots name bytes e d n lt =
    let long : leb name 32 ≡ false = grind (arith, nat_tests) in
    let same : name ≡ run classes.Name (drop (dots_before bytes) bytes) = n ∙ ap (λ l. run classes.Name l) (rest_of bytes dots) ∙ ap (λ k. run classes.Name (drop k bytes)) d in
    word_at place bytes e ∙ rw (← same, ← d, long) refl

pub short_word : (place dots name more : ℕ) (bytes : List ℕ) → begins_word bytes ≡ true → dots ≡ dots_before bytes → name ≡ run classes.Name (behind bytes dots) → name ≤ 32
    → more ≡ dots_before (behind bytes (dots + name)) → token_at place bytes ≡ Ok (token Word place (dots + name + more))
short_word place dots name more bytes e d n le m =
    let short : leb name 32 ≡ true = grind (arith, nat_tests) in
    let same : name ≡ run classes.Name (drop (dots_before bytes) bytes) = n ∙ ap (λ l. run classes.Name l) (rest_of bytes dots) ∙ ap (λ k. run classes.Name (drop k bytes)) d in
    let last : more ≡ dots_before (drop (dots + name) bytes) = m ∙ ap (λ l. dots_before l) (rest_of bytes (dots + name)) in
    word_at place bytes e ∙ rw (← same, ← d, ← last, short) refl
