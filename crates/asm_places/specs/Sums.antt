-- What an expression is worth.
use Rattle.std.specs.Prelude.{List, [], ◌∷◌, Bool, true, false, ◌&&◌, ◌||◌, Option, Some, None, ℤ, pos, ◌+ℤ◌, ◌-ℤ◌, if◌then◌else◌}
use Rattle.asm_statements.specs.declared.expression.Atom.{Atom}
use Rattle.asm_statements.specs.declared.expression.Atom.TheVariants as atoms
use Rattle.asm_statements.specs.declared.expression.Term.{Term}
use Rattle.asm_places.specs.Names.{Definition, value_of, is_defined}
use Rattle.asm_places.specs.declared.sum.Sum.{Sum}

-- a value, or 0 where there is none
abbrev pub or_zero : Option ℤ → ℤ
or_zero (Some value) = value
or_zero None = pos 0

-- what a term names, at an address; a name that is not defined counts as 0
abbrev pub atom_value : List Definition → ℤ → Atom → ℤ
atom_value names here (atoms.Number n) = pos n
atom_value names here (atoms.Name name) = or_zero (value_of names name)
atom_value names here atoms.Here = here

-- a term is taken away behind a minus
abbrev pub term_value : List Definition → ℤ → Term → ℤ
term_value names here t = if t.negative then pos 0 -ℤ atom_value names here t.atom else atom_value names here t.atom

-- the sum of the terms
abbrev pub total : List Definition → ℤ → List Term → ℤ
total names here [] = pos 0
total names here (t ∷ ts) = term_value names here t +ℤ total names here ts

abbrev pub is_known_atom : List Definition → Atom → Bool
is_known_atom names (atoms.Number n) = true
is_known_atom names (atoms.Name name) = is_defined names name
is_known_atom names atoms.Here = true

-- all names in the terms are defined
abbrev pub all_known : List Definition → List Term → Bool
all_known names [] = true
all_known names (t ∷ ts) = is_known_atom names t.atom && all_known names ts

abbrev pub is_here : Atom → Bool
is_here atoms.Here = true
is_here (atoms.Number n) = false
is_here (atoms.Name name) = false

-- the address of the statement is one of the terms
abbrev pub uses_here : List Term → Bool
uses_here [] = false
uses_here (t ∷ ts) = is_here t.atom || uses_here ts

-- what an expression is worth at an address
abbrev pub sum_of : List Definition → ℤ → List Term → Sum
sum_of names here ts = record { value = total names here ts; is_known = all_known names ts; uses_here = uses_here ts }
