-- The last answer that the items of a list give.
use Rattle.std.specs.Prelude.{List, [], ◌∷◌, Option, Some, None}

-- the first of two that is there
abbrev pub first_some : {A : Type 0} → Option A → Option A → Option A
first_some (Some x) other = Some x
first_some None other = other

-- what the last item gives that gives anything
abbrev pub last_some : {A B : Type 0} → (A → Option B) → List A → Option B
last_some give [] = None
last_some give (x ∷ xs) = first_some (last_some give xs) (give x)
