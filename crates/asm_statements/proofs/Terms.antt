-- A term and what is left of an expression behind it.
use Rattle.std.proofs.Common.{◌≡◌, true, List, ◌∷◌, Some, None, Option, refl, true≢false, sym}
use Rattle.std.specs.Prelude.{is_some}
use Rattle.asm_statements.specs.declared.expression.Term.{Term}
use Rattle.asm_statements.specs.Expressions.{and_terms}
use Rattle.asm_statements.specs.Readings.{listed}

pub rest-good : (t : Term) (o : Option (List Term)) → is_some (and_terms (Some t) o) ≡ true → is_some o ≡ true
rest-good t (Some ts) e = refl
rest-good t None e = e

pub rest-listed : (t : Term) (o : Option (List Term)) → is_some (and_terms (Some t) o) ≡ true → listed (and_terms (Some t) o) ≡ t ∷ listed o
rest-listed t (Some ts) e = refl
rest-listed t None e = absurd (true≢false (sym e))
