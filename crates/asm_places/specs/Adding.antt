-- Adding up the terms of an expression one by one.
use Rattle.std.specs.Prelude.{◌≡◌, ◌≤◌, ℕ, ◌+◌, ◌-◌, ◌*◌, ◌^◌, List, length, Bool, ◌&&◌, ◌||◌, ℤ, pos, negsuc, ◌+ℤ◌, ◌-ℤ◌, if◌then◌else◌}
use Rattle.asm_statements.specs.declared.expression.Atom.{Atom}
use Rattle.asm_statements.specs.declared.expression.Term.{Term}
use Rattle.asm_places.specs.Names.{Definition}
use Rattle.asm_places.specs.Sums.{atom_value, is_known_atom, is_here, total, all_known, uses_here}
use Rattle.asm_places.specs.declared.sum.Sum.{Sum}

-- what a term names, whether it is known, and whether it is the address of the statement
abbrev pub atom_sum : List Definition → ℤ → Atom → Sum
atom_sum names here atom = record { value = atom_value names here atom; is_known = is_known_atom names atom; uses_here = is_here atom }

-- a sum with one term more
abbrev pub with_term : Sum → Bool → Sum → Sum
with_term sum negative term =
    record { value = if negative then sum.value -ℤ term.value else sum.value +ℤ term.value; is_known = sum.is_known && term.is_known; uses_here = sum.uses_here || term.uses_here }

-- no more than so many terms can add up to
abbrev pub IsUpTo : ℕ → ℤ → Type 0
IsUpTo terms (pos n) = n ≤ terms * 2 ^ 65
IsUpTo terms (negsuc n) = n + 1 ≤ terms * 2 ^ 65

-- what was added up and what is left are the whole
pub record Added (names : List Definition) (here : ℤ) (whole left : List Term) (sum : Sum) : Type 0 where
  pub value : total names here whole ≡ sum.value +ℤ total names here left
  pub known : all_known names whole ≡ (sum.is_known && all_known names left)
  pub at : uses_here whole ≡ (sum.uses_here || uses_here left)
  pub fewer : length left ≤ length whole
  pub bound : IsUpTo (length whole - length left) sum.value
