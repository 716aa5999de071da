-- Names and their values.
use Rattle.std.specs.Prelude.{ℕ, List, [], ◌∷◌, Bool, Option, Some, None, is_some, ℤ, if◌then◌else◌}
use Rattle.std.specs.Str.{bytes_eq}

-- a name with its value
pub record Definition : Type 0 where
  pub name : List ℕ
  pub value : ℤ

abbrev pub defined : List ℕ → ℤ → Definition
defined name value = record { name = name; value = value }

-- the value of a name, where it is defined
abbrev pub value_of : List Definition → List ℕ → Option ℤ
value_of [] name = None
value_of (d ∷ ds) name = if bytes_eq d.name name then Some d.value else value_of ds name

abbrev pub is_defined : List Definition → List ℕ → Bool
is_defined names name = is_some (value_of names name)
