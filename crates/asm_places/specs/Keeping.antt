-- How great the numbers of the first pass can get.
use Rattle.std.specs.Prelude.{◌≡◌, ◌≤◌, ◌<◌, ℕ, ◌+◌, ◌-◌, ◌*◌, ◌^◌, List, [], ◌∷◌, map, length, Option, Some, None, false, ℤ, pos, negsuc}
use Rattle.asm_statements.specs.declared.statement.Statement.{Statement}
use Rattle.asm_statements.specs.declared.statement.Statement.TheVariants as statements
use Rattle.asm_places.specs.Names.{Definition, defined, is_defined}
use Rattle.asm_places.specs.Ranges.{most_zeros}
use Rattle.asm_places.specs.declared.names.Names.TheInside.{Inside}
use Rattle.asm_places.specs.declared.places.SegmentLine.{SegmentLine}
use Rattle.asm_places.specs.declared.places.Places.{Places}

-- below 2^65, whatever the sign
abbrev pub IsSmall : ℤ → Type 0
IsSmall (pos n) = n < 2 ^ 65
IsSmall (negsuc n) = n + 1 < 2 ^ 65

abbrev pub AreSmall : List Definition → Type 0
AreSmall [] = Unit {0}
AreSmall (d ∷ ds) = IsSmall d.value × AreSmall ds

abbrev pub definitions_of : Inside → List Definition
definitions_of n = map (λ e. defined e.0.now e.1) n.map.entries

pub record HasSmall (n : Inside) : Type 0 where
  pub values : AreSmall (definitions_of n)

-- no segment has more than so many bytes
abbrev pub HaveAtMost : ℕ → List SegmentLine → Type 0
HaveAtMost most [] = Unit {0}
HaveAtMost most (s ∷ ss) = (s.base < 2 ^ 64) × (s.size ≤ most) × HaveAtMost most ss

-- the most bytes of a segment after so many lines with so many bytes: the zeros, eight bytes a line, and the texts
abbrev pub most_size : ℕ → ℕ → ℕ → ℕ
most_size zeros lines bytes = zeros + 8 * lines + bytes

-- after so many lines with so many bytes
pub record IsWithin (lines bytes : ℕ) (p : Places) : Type 0 where
  pub zeros : p.zeros ≤ most_zeros
  pub sizes : HaveAtMost (most_size p.zeros lines bytes) p.segments

-- the most bytes that a statement adds beside zeros
abbrev pub text_size : Statement → ℕ
text_size (statements.Ascii text) = length text
text_size statement = 8

-- a name that a statement defines is not defined yet
abbrev pub IsNew : Statement → Places → Type 0
IsNew (statements.Equ name e) p = is_defined p.names name ≡ false
IsNew statement p = Unit {0}

-- what adding a statement asks of the places
pub record AddsTo (statement : Statement) (p : Places) : Type 0 where
  pub zeros : p.zeros ≤ most_zeros
  pub sizes : HaveAtMost (2 ^ 64 - 1 - most_zeros - text_size statement) p.segments
  pub new : IsNew statement p

-- what adding the statement of a line, if it has one, asks of the places
abbrev pub AddsOptional : Option Statement → Places → Type 0
AddsOptional (Some statement) p = AddsTo statement p
AddsOptional None p = Unit {0}

-- there is room for the zeros and for a line of so many bytes
pub record IsRoomy (bytes : ℕ) (p : Places) : Type 0 where
  pub zeros : p.zeros ≤ most_zeros
  pub sizes : HaveAtMost (2 ^ 64 - 1 - most_zeros - 8 - bytes) p.segments
