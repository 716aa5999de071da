-- Bytes whose tokens are read one by one, to see whether all of them have some.
use Rattle.std.proofs.Common.{◌≡◌, ℕ, List, Some, Ok, Err, refl, sym, ap, ◌∙◌}
use Rattle.std.specs.Prelude.{Result, is_ok}
use Rattle.asm_lex.specs.declared.token.Token.{Token}
use Rattle.asm_lex.specs.declared.fault.LexFault.{LexFault}
use Rattle.asm_lex.specs.Tokens.{Cursor, prepended, tokens_at, ReadsOne}
use Rattle.asm_statements.specs.Pieces.{has_tokens}

-- what the loop keeps
pub record Scanned (line : List ℕ) (c : Cursor) : Type 0 where
  pub same_bytes : c.bytes ≡ line
  pub same : is_ok (tokens_at c) ≡ has_tokens line

-- one token more changes nothing
pub is_ok-prepended : (t : Token) (rest : Result (List Token) LexFault) → is_ok (prepended t rest) ≡ is_ok rest
is_ok-prepended t (Ok ts) = refl
is_ok-prepended t (Err f) = refl

pub scanned-next : (line : List ℕ) (old new : Cursor) (t : Token) → Scanned line old → ReadsOne old new (Ok (Some t)) → Scanned line new
scanned-next line old new t before read = record {
  same_bytes = ap (λ (d : Cursor). d.bytes) read.1 ∙ before.same_bytes;
  same = sym (ap is_ok read.0 ∙ is_ok-prepended t (tokens_at new)) ∙ before.same;
}
