-- Values that are added to others.
use Rattle.std.specs.Prelude.{◌≡◌, List, ◌++◌, Option, Some, None, ℤ}

-- what adding values answers, and the values that it leaves
abbrev pub AddsValues : Option (List ℤ) → List ℤ → List ℤ → Option (Unit {0}) → Type 0
AddsValues (Some vs) old new (Some u) = new ≡ old ++ vs
AddsValues None old new (Some u) = ⊥
AddsValues (Some vs) old new None = ⊥
AddsValues None old new None = Unit {0}

-- values before others
abbrev pub behind : List ℤ → Option (List ℤ) → Option (List ℤ)
behind before (Some vs) = Some (before ++ vs)
behind before None = None
