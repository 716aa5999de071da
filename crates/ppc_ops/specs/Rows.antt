-- Rows of the instruction table: words that have given values in given bits, bit 0 the highest of 32.
use Rattle.std.specs.Prelude.{◌≡◌, ℕ, ◌+◌, ◌-◌, ◌*◌, ◌^◌, ◌<◌, ◌==◌, Bool, true, List, [], ◌∷◌, slice_get, bit_and, Option, Some, None}
use Rattle.ppc_ops.specs.declared.op.Op.{Op}
use Rattle.ppc_ops.specs.declared.op.Row.{Row}

-- the value of the bits from first to last
pub record Fixed : Type 0 where
  pub first : ℕ
  pub last : ℕ
  pub value : ℕ

-- the bits from a to b are v
abbrev pub at : ℕ → ℕ → ℕ → Fixed
at a b v = record { first = a; last = b; value = v }

-- the primary opcode is v
abbrev pub opcode : ℕ → Fixed
opcode v = at 0 5 v

-- ones in these bits
abbrev pub mask_of : List Fixed → ℕ
mask_of [] = 0
mask_of (f ∷ fs) = (2 ^ (f.last - f.first + 1) - 1) * 2 ^ (31 - f.last) + mask_of fs

-- the values of these bits, and zeros elsewhere
abbrev pub value_of : List Fixed → ℕ
value_of [] = 0
value_of (f ∷ fs) = f.value * 2 ^ (31 - f.last) + value_of fs

-- the row of an operation whose words have these bits
abbrev pub row_of : List Fixed → Op → Row
row_of fixed op = record { mask = mask_of fixed; value = value_of fixed; op = op }

-- a row from its three parts
abbrev pub listed : ℕ × ℕ × Op → Row
listed (mask, value, op) = record { mask = mask; value = value; op = op }

-- the word has the row's fixed bits
abbrev pub agrees : ℕ → Row → Bool
agrees word row = bit_and word row.mask == row.value

-- no word has the fixed bits of both rows
abbrev pub IsApart : Row → Row → Type 0
IsApart a b = (word : ℕ) → agrees word a ≡ true → agrees word b ≡ true → ⊥

-- no word has the fixed bits of two of the rows
abbrev pub AreApart : List Row → Type 0
AreApart rows = (i j : ℕ) (a b : Row) → i < j → slice_get rows i ≡ Some a → slice_get rows j ≡ Some b → IsApart a b

-- a row that stands at place i, if there is one, is apart from all others
abbrev pub IsAloneAt : List Row → ℕ → Option Row → Type 0
IsAloneAt rows i (Some a) = (j : ℕ) (b : Row) → (j ≡ i → ⊥) → slice_get rows j ≡ Some b → IsApart a b
IsAloneAt rows i None = Unit {0}
