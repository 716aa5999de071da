-- Expressions: terms joined by plus and minus.
use Rattle.std.specs.Prelude.{ℕ, ◌-◌, List, [], ◌∷◌, length, Bool, true, false, not, ◌&&◌, Option, Some, None, option_map, slice_get, ◌==◌, if◌then◌else◌}
use Rattle.asm_statements.specs.declared.piece.Sign.TheVariants as signs
use Rattle.asm_statements.specs.declared.piece.Piece.{Piece}
use Rattle.asm_statements.specs.declared.piece.Piece.TheVariants as pieces
use Rattle.asm_statements.specs.declared.expression.Atom.{Atom}
use Rattle.asm_statements.specs.declared.expression.Atom.TheVariants as atoms
use Rattle.asm_statements.specs.declared.expression.Term.{Term}

-- a byte is there and is no dot
abbrev pub is_no_dot : Option ℕ → Bool
is_no_dot (Some b) = not (b == 46)
is_no_dot None = false

-- a word is a name where no dot stands before it or behind it
abbrev pub is_plain : List ℕ → Bool
is_plain word = is_no_dot (slice_get word 0) && is_no_dot (slice_get word (length word - 1))

-- what a piece is as a term: a number, a name, or the address of the statement
abbrev pub atom_of : Piece → Option Atom
atom_of (pieces.Number n) = Some (atoms.Number n)
atom_of (pieces.Word word) = if is_plain word then Some (atoms.Name word) else None
atom_of (pieces.Sign signs.Dot) = Some atoms.Here
atom_of p = None

-- a term with its sign
abbrev pub signed : Bool → Atom → Term
signed negative atom = record { negative = negative; atom = atom }

-- a term and those after it
abbrev pub and_terms : Option Term → Option (List Term) → Option (List Term)
and_terms (Some t) (Some ts) = Some (t ∷ ts)
and_terms (Some t) None = None
and_terms None ts = None

-- terms, each behind its sign
abbrev pub joined : List Piece → Option (List Term)
joined [] = Some []
joined (pieces.Sign signs.Plus ∷ p ∷ ps) = and_terms (option_map (signed false) (atom_of p)) (joined ps)
joined (pieces.Sign signs.Minus ∷ p ∷ ps) = and_terms (option_map (signed true) (atom_of p)) (joined ps)
joined ps = None

-- the pieces with the sign of the first term, which stands there only where it is a minus
abbrev pub with_sign : List Piece → List Piece
with_sign (pieces.Sign signs.Minus ∷ ps) = pieces.Sign signs.Minus ∷ ps
with_sign ps = pieces.Sign signs.Plus ∷ ps

-- the terms of the expression that the pieces are
abbrev pub terms_of : List Piece → Option (List Term)
terms_of ps = joined (with_sign ps)

-- the terms of what is left of an expression, of which the first term was read or not
abbrev pub terms_from : Bool → List Piece → Option (List Term)
terms_from true ps = terms_of ps
terms_from false ps = joined ps
