-- Tokens of bytes that stand further on.
use Rattle.std.proofs.Common.{◌≡◌, ℕ, zero, suc, ◌+◌, ◌-◌, Bool, true, false, cond, leb, List, [], ◌∷◌, length, Some, None, Ok, Err, Option, refl, ap, ◌∙◌, arith}
use Rattle.std.specs.Prelude.{Result}
use Rattle.asm_lex.specs.declared.classes.Class.TheVariants as classes
use Rattle.asm_lex.specs.declared.token.Token.{Token}
use Rattle.asm_lex.specs.declared.token.TokenKind.{TokenKind}
use Rattle.asm_lex.specs.declared.token.TokenKind.TheVariants.{Number, Word, Text, Sign, Newline}
use Rattle.asm_lex.specs.declared.fault.LexFault.{LexFault}
use Rattle.asm_lex.specs.declared.fault.LexFault.TheVariants.{BadByte}
use Rattle.number_text.specs.Number.{up_to}
use Rattle.asm_lex.specs.Classes.{is_blank, is_hash, run}
use Rattle.asm_lex.specs.Lexemes.{kind_of, lexeme, name_in}
use Rattle.asm_lex.specs.Tokens.{token, number_token, word_token, token_of, token_at, prepended, and_after, tokens_from, dots_before}
use Rattle.asm_lex.specs.Laws.{moved_token, moved_fault, moved}

abbrev pub moved_one : ℕ → Result Token LexFault → Result Token LexFault
moved_one by (Ok t) = Ok (moved_token by t)
moved_one by (Err f) = Err (moved_fault by f)

token-moved : (kind : TokenKind) (place by len : ℕ) → token kind (place + by) len ≡ moved_token by (token kind place len)
token-moved kind place by len =
    let to : place + by + len ≡ place + len + by = omega arith in
    ap (λ (n : ℕ). of (place + by) n) to
  where
    of : ℕ → ℕ → Token
    of from to = record { kind = kind; from = from; to = to }

number-moved : (place by len : ℕ) (o : Option ℕ) → number_token (place + by) len o ≡ moved_one by (number_token place len o)
number-moved place by len (Some n) = ap Ok (token-moved (Number n) place by len)
number-moved place by len None = refl

word-moved : (place by : ℕ) (bytes : List ℕ) → word_token (place + by) bytes ≡ moved_one by (word_token place bytes)
word-moved place by bytes = cases (leb (length (name_in bytes)) 32)
  where
    cases : (t : Bool) → cond t (Ok (token Word (place + by) (length bytes))) (Err (BadByte (place + by + dots_before bytes + 32))) ≡ moved_one by (cond t (Ok (token Word place (length bytes))) (Err (BadByte (place + dots_before bytes + 32))))
    cases true = ap Ok (token-moved Word place by (length bytes))
    cases false =
        let same : place + by + dots_before bytes + 32 ≡ place + dots_before bytes + 32 + by = omega arith in
        ap (λ n. Err (BadByte n)) same

token_of-moved : (place by : ℕ) (bytes : List ℕ) (kind : Option TokenKind) → token_of (place + by) bytes kind ≡ moved_one by (token_of place bytes kind)
token_of-moved place by bytes None = refl
token_of-moved place by bytes (Some (Number n)) = number-moved place by (length bytes) (up_to 18446744073709551615 n)
token_of-moved place by bytes (Some Word) = word-moved place by bytes
token_of-moved place by bytes (Some Text) = ap Ok (token-moved Text place by (length bytes))
token_of-moved place by bytes (Some Sign) = ap Ok (token-moved Sign place by (length bytes))
token_of-moved place by bytes (Some Newline) = ap Ok (token-moved Newline place by (length bytes))

token_at-moved : (place by : ℕ) (bytes : List ℕ) → token_at (place + by) bytes ≡ moved_one by (token_at place bytes)
unfolding token_at
token_at-moved place by bytes = token_of-moved place by (lexeme bytes) (kind_of (lexeme bytes))

prepended-moved : (by : ℕ) (t : Token) (rest : Result (List Token) LexFault) → prepended (moved_token by t) (moved by rest) ≡ moved by (prepended t rest)
prepended-moved by t (Ok ts) = refl
prepended-moved by t (Err f) = refl

-- one token, and those after it
after-moved : (place by : ℕ) (bytes : List ℕ) (one : Result Token LexFault)
    → ((k : ℕ) → tokens_from (place + by + 1) k bytes ≡ moved by (tokens_from (place + 1) k bytes))
    → and_after (moved_one by one) (λ t. tokens_from (place + by + 1) (t.to - (place + by + 1)) bytes) ≡ moved by (and_after one (λ t. tokens_from (place + 1) (t.to - (place + 1)) bytes))
after-moved place by bytes (Err f) rest = refl
after-moved place by bytes (Ok t) rest =
    let same : t.to + by - (place + by + 1) ≡ t.to - (place + 1) = omega arith in
    ap (λ k. prepended (moved_token by t) (tokens_from (place + by + 1) k bytes)) same ∙ ap (prepended (moved_token by t)) (rest (t.to - (place + 1))) ∙ prepended-moved by t (tokens_from (place + 1) (t.to - (place + 1)) bytes)

pub tokens_from-moved : (place by k : ℕ) (bytes : List ℕ) → tokens_from (place + by) k bytes ≡ moved by (tokens_from place k bytes)
unfolding tokens_from
tokens_from-moved place by k [] = refl
tokens_from-moved place by (suc k) (b ∷ bs) =
    let next : place + by + 1 ≡ place + 1 + by = omega arith in
    ap (λ p. tokens_from p k bs) next ∙ tokens_from-moved (place + 1) by k bs
tokens_from-moved place by zero (b ∷ bs) =
    let next : place + by + 1 ≡ place + 1 + by = omega arith in
    cases (is_blank b) (is_hash b) (λ k. ap (λ p. tokens_from p k bs) next ∙ tokens_from-moved (place + 1) by k bs)
  where
    cases : (t u : Bool) → ((k : ℕ) → tokens_from (place + by + 1) k bs ≡ moved by (tokens_from (place + 1) k bs))
        → cond t (tokens_from (place + by + 1) 0 bs) (cond u (tokens_from (place + by + 1) (run classes.Comment bs) bs) (and_after (token_at (place + by) (b ∷ bs)) (λ t. tokens_from (place + by + 1) (t.to - (place + by + 1)) bs)))
        ≡ moved by (cond t (tokens_from (place + 1) 0 bs) (cond u (tokens_from (place + 1) (run classes.Comment bs) bs) (and_after (token_at place (b ∷ bs)) (λ t. tokens_from (place + 1) (t.to - (place + 1)) bs))))
    cases true u rest = rest 0
    cases false true rest = rest (run classes.Comment bs)
    cases false false rest = rw (token_at-moved place by (b ∷ bs)) (after-moved place by bs (token_at place (b ∷ bs)) rest)
