-- What is left of an expression, and what reading a term of it gives.
use Rattle.std.specs.Prelude.{◌≡◌, List, [], Bool, Option, Some, None, is_some, true, false}
use Rattle.asm_statements.specs.declared.piece.Piece.{Piece}
use Rattle.asm_statements.specs.declared.expression.Atom.{Atom}
use Rattle.asm_statements.specs.declared.expression.Term.{Term}
use Rattle.asm_statements.specs.declared.expression.TermRead.{TermRead}
use Rattle.asm_statements.specs.declared.expression.TermRead.TheVariants as reads
use Rattle.asm_statements.specs.declared.expression.Expression.TheInside.{Inside}
use Rattle.asm_statements.specs.Expressions.{terms_from, and_terms, joined, signed, atom_of}

abbrev pub listed : Option (List Term) → List Term
listed (Some ts) = ts
listed None = []

abbrev pub terms_left : Inside → List Term
terms_left e = listed (terms_from e.is_first e.pieces)

pub record IsExpression (e : Inside) : Type 0 where
  pub good : is_some (terms_from e.is_first e.pieces) ≡ true

-- what reading one term answers: the first, and the pieces of the others are left; that no term is left; or that the
-- pieces are no expression
abbrev pub ReadsTerm : Bool → List Piece → List Piece → TermRead → Type 0
ReadsTerm is_first old new (reads.Next t) = terms_from is_first old ≡ and_terms (Some t) (joined new)
ReadsTerm is_first old new reads.End = (is_first ≡ false) × (old ≡ []) × (new ≡ [])
ReadsTerm is_first old new reads.Wrong = terms_from is_first old ≡ None

abbrev pub IsNext : TermRead → Type 0
IsNext (reads.Next t) = Unit {0}
IsNext reads.End = ⊥
IsNext reads.Wrong = ⊥

-- the term of an atom behind its sign
abbrev pub term_of : Bool → Option Atom → TermRead
term_of negative (Some atom) = reads.Next (signed negative atom)
term_of negative None = reads.Wrong

abbrev pub term_behind : Bool → Option Piece → TermRead
term_behind negative (Some p) = term_of negative (atom_of p)
term_behind negative None = reads.Wrong
