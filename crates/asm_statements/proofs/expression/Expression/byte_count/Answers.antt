use Rattle.std.proofs.Common.{◌≤◌, ◌+◌, ◌*◌, length, subst, arith}
use Rattle.asm_statements.specs.Readings.{listed}
use Rattle.asm_statements.specs.Expressions.{terms_from}
use Rattle.asm_statements.proofs.Counts.{terms-length}
use Rattle.asm_statements.proofs.expression.Expression.byte_count.Goals as goal

pub returns-clause-terms : goal.returns-clause-terms
returns-clause-terms c =
    let few : 2 * length (listed (terms_from c.self.inside.is_first c.self.inside.pieces)) ≤ length c.self.inside.pieces + 1 = terms-length c.self.inside.is_first c.self.inside.pieces in
    let read : length c.self.inside.pieces ≤ c.byte_count.result = c.byte_count.ensures.pieces in
    subst (λ ts. 2 * length ts ≤ c.byte_count.result + 1) c.self.view_is (omega arith)
