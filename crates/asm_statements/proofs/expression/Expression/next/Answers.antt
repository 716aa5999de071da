use Rattle.std.proofs.Common.{◌≡◌, ap, sym, subst, ◌∙◌, true}
use Rattle.std.specs.Prelude.{is_some}
use Rattle.asm_statements.specs.Expressions.{joined}
use Rattle.asm_statements.specs.Readings.{listed}
use Rattle.asm_statements.proofs.Terms.{rest-good, rest-listed}
use Rattle.asm_statements.proofs.expression.Expression.next.Goals as goal

pub invariant_of-self : goal.invariant_of-self
invariant_of-self c =
    record { good = rest-good c.in-Next.term (joined c.read_term.new.pieces) (subst (λ o. is_some o ≡ true) c.in-Next.ensures.reads c.self.invariant.good) }

pub returns-in-Next : goal.returns-in-Next
returns-in-Next c =
    sym c.self.view_is ∙ ap listed c.in-Next.ensures.reads ∙ rest-listed c.in-Next.term (joined c.read_term.new.pieces) (subst (λ o. is_some o ≡ true) c.in-Next.ensures.reads c.self.invariant.good)
