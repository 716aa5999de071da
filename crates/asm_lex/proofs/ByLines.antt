-- The tokens of a text are those of its lines.
use Rattle.std.proofs.Common.{◌≡◌, ◌≤◌, ℕ, zero, suc, ◌+◌, ◌-◌, Bool, true, false, cond, List, [], ◌∷◌, ◌++◌, length, Ok, Err, refl, ap, ◌∙◌, arith, length-take}
use Rattle.std.specs.Prelude.{Result, ◌&&◌}
use Rattle.asm_lex.specs.declared.classes.Class.TheVariants as classes
use Rattle.asm_lex.specs.declared.token.Token.{Token}
use Rattle.asm_lex.specs.declared.token.TokenKind.TheVariants.{Newline}
use Rattle.asm_lex.specs.declared.fault.LexFault.{LexFault}
use Rattle.asm_lex.specs.Classes.{is_blank, is_hash, is_comment_byte, every, run}
use Rattle.asm_lex.specs.Lexemes.{kind_of, lexeme, longest}
use Rattle.asm_lex.specs.Tokens.{token, token_of, token_at, prepended, and_after, tokens_from, tokens_of}
use Rattle.asm_lex.specs.Laws.{and_then_tokens, TokensByLines}
use Rattle.asm_lex.proofs.Steps.{some_lies}
use Rattle.asm_lex.proofs.TokenAt.{newline_found, other_of}
use Rattle.asm_lex.proofs.OneLine.{longest-le, lexeme-line}
use Rattle.asm_lex.proofs.Moved.{tokens_from-moved}

-- the token at the beginning of a line does not see behind its newline
token_at-line : (place b : ℕ) (bs ys : List ℕ) → token_at place (b ∷ (bs ++ 10 ∷ ys)) ≡ token_of place (lexeme (b ∷ bs)) (kind_of (lexeme (b ∷ bs)))
unfolding token_at
token_at-line place b bs ys = ap (λ (l : List ℕ). token_of place l (kind_of l)) (lexeme-line b bs ys)

-- and ends before it
ends_before : (place b : ℕ) (bs : List ℕ) (t : Token) → token_of place (lexeme (b ∷ bs)) (kind_of (lexeme (b ∷ bs))) ≡ Ok t → t.to - (place + 1) ≤ length bs
ends_before place b bs t e =
    let n = longest (b ∷ bs) (suc (length bs)) in
    let lies = some_lies place (lexeme (b ∷ bs)) t e in
    omega (arith, lies.within, length-take n (b ∷ bs), longest-le (b ∷ bs) (suc (length bs)))

newline_token : (place : ℕ) (ys : List ℕ) → token_at place (10 ∷ ys) ≡ Ok (token Newline place 1)
newline_token place ys = newline_found place (10 ∷ ys) (omega arith) (other_of (10 ∷ ys) refl refl refl) refl refl

run-line : (line ys : List ℕ) → every classes.Comment line ≡ true → run classes.Comment (line ++ 10 ∷ ys) ≡ length line
run-line [] ys e = refl
run-line (b ∷ bs) ys e = by (is_comment_byte b) e (run-line bs ys)
  where
    by : (t : Bool) → (t && every classes.Comment bs) ≡ true → (every classes.Comment bs ≡ true → run classes.Comment (bs ++ 10 ∷ ys) ≡ length bs) → cond t (suc (run classes.Comment (bs ++ 10 ∷ ys))) 0 ≡ suc (length bs)
    by true f rest = ap suc (rest f)
    by false f rest = cc

tail_of : (t s : Bool) → (t && s) ≡ true → s ≡ true
tail_of true s e = e
tail_of false s e = cc

and_then-prepended : (t : Token) (some rest : Result (List Token) LexFault) → prepended t (and_then_tokens some rest) ≡ and_then_tokens (prepended t some) rest
and_then-prepended t (Ok ts) (Ok us) = refl
and_then-prepended t (Ok ts) (Err f) = refl
and_then-prepended t (Err f) rest = refl

and_then-none : (rest : Result (List Token) LexFault) (t : Token) → prepended t rest ≡ and_then_tokens (Ok (t ∷ [])) rest
and_then-none (Ok us) t = refl
and_then-none (Err f) t = refl

-- one line, from a place on, and what follows it
abbrev Parts : ℕ → ℕ → List ℕ → List ℕ → Type 0
Parts place k line ys = tokens_from place k (line ++ 10 ∷ ys) ≡ and_then_tokens (tokens_from place k (line ++ 10 ∷ [])) (tokens_from (place + length line + 1) 0 ys)

at_end : (place : ℕ) (ys : List ℕ) → Parts place 0 [] ys
unfolding tokens_from
at_end place ys =
    let none : place + 1 - (place + 1) ≡ 0 = omega arith in
    let zero_more : place + 0 + 1 ≡ place + 1 = omega arith in
    rw (newline_token place ys, newline_token place [], none, zero_more) (and_then-none (tokens_from (place + 1) 0 ys) (token Newline place 1))

one_more : (place b : ℕ) (bs ys : List ℕ) (one : Result Token LexFault) → ((t : Token) → one ≡ Ok t → t.to - (place + 1) ≤ length bs)
    → ((k : ℕ) → k ≤ length bs → Parts (place + 1) k bs ys)
    → and_after one (λ t. tokens_from (place + 1) (t.to - (place + 1)) (bs ++ 10 ∷ ys))
    ≡ and_then_tokens (and_after one (λ t. tokens_from (place + 1) (t.to - (place + 1)) (bs ++ 10 ∷ []))) (tokens_from (place + 1 + length bs + 1) 0 ys)
one_more place b bs ys (Err f) within rest = refl
one_more place b bs ys (Ok t) within rest =
    let k = t.to - (place + 1) in
    ap (prepended t) (rest k (within t refl)) ∙ and_then-prepended t (tokens_from (place + 1) k (bs ++ 10 ∷ [])) (tokens_from (place + 1 + length bs + 1) 0 ys)

by_parts : (place k : ℕ) (line ys : List ℕ) → k ≤ length line → every classes.Comment line ≡ true → Parts place k line ys
unfolding tokens_from
by_parts place zero [] ys le e = at_end place ys
by_parts place (suc k) [] ys le e = absurd (omega arith)
by_parts place (suc k) (b ∷ bs) ys le e =
    let next : place + suc (length bs) + 1 ≡ place + 1 + length bs + 1 = omega arith in
    rw next (by_parts (place + 1) k bs ys (omega arith) (tail_of (is_comment_byte b) (every classes.Comment bs) e))
by_parts place zero (b ∷ bs) ys le e =
    let next : place + suc (length bs) + 1 ≡ place + 1 + length bs + 1 = omega arith in
    let tail = tail_of (is_comment_byte b) (every classes.Comment bs) e in
    rw next (cases (is_blank b) (is_hash b) tail (λ k le. by_parts (place + 1) k bs ys le tail))
  where
    cases : (t u : Bool) → every classes.Comment bs ≡ true → ((k : ℕ) → k ≤ length bs → Parts (place + 1) k bs ys)
        → cond t (tokens_from (place + 1) 0 (bs ++ 10 ∷ ys)) (cond u (tokens_from (place + 1) (run classes.Comment (bs ++ 10 ∷ ys)) (bs ++ 10 ∷ ys)) (and_after (token_at place (b ∷ (bs ++ 10 ∷ ys))) (λ t. tokens_from (place + 1) (t.to - (place + 1)) (bs ++ 10 ∷ ys))))
        ≡ and_then_tokens (cond t (tokens_from (place + 1) 0 (bs ++ 10 ∷ [])) (cond u (tokens_from (place + 1) (run classes.Comment (bs ++ 10 ∷ [])) (bs ++ 10 ∷ [])) (and_after (token_at place (b ∷ (bs ++ 10 ∷ []))) (λ t. tokens_from (place + 1) (t.to - (place + 1)) (bs ++ 10 ∷ []))))) (tokens_from (place + 1 + length bs + 1) 0 ys)
    cases true u tail rest = rest 0 (omega arith)
    cases false true tail rest = rw (run-line bs ys tail, run-line bs [] tail) (rest (length bs) (omega arith))
    cases false false tail rest =
        rw (token_at-line place b bs ys, token_at-line place b bs []) (one_more place b bs ys (token_of place (lexeme (b ∷ bs)) (kind_of (lexeme (b ∷ bs)))) (ends_before place b bs) rest)

pub by_lines : TokensByLines
by_lines line rest e =
    let further : 0 + length line + 1 ≡ 0 + (length line + 1) = omega arith in
    by_parts 0 0 line rest (omega arith) e
    ∙ ap (λ p. and_then_tokens (tokens_of (line ++ 10 ∷ [])) (tokens_from p 0 rest)) further
    ∙ ap (and_then_tokens (tokens_of (line ++ 10 ∷ []))) (tokens_from-moved 0 (length line + 1) 0 rest)
