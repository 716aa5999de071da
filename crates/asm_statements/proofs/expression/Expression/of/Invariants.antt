use Rattle.std.proofs.Common.{◌≡◌, length}
use Rattle.std.specs.Prelude.{is_some}
use Rattle.asm_statements.specs.Expressions.{terms_of, terms_from}
use Rattle.asm_statements.proofs.expression.Expression.of.Given as goal

-- the pieces are an expression exactly where what is left goes on as one
abbrev pub invariant-loop-term : goal.invariant-loop-term
invariant-loop-term l = is_some (terms_of l.pieces) ≡ is_some (terms_from l.is_first l.rest)

abbrev pub decreases-loop-term : goal.decreases-loop-term
decreases-loop-term l = length l.rest
