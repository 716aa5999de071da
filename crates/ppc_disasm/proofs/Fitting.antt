-- Which values fit the kinds of operands.
use Rattle.std.proofs.Common.{◌≡◌, ℕ, ◌^◌, ◌%◌, ◌<◌, ◌≤◌, Bool, true, false, cond, List, [], ◌∷◌, drop, ℤ, pos, negsuc, refl, arith}
use Rattle.std.specs.Int.{from_bool}
use Rattle.std.proofs.lemmas.Int.{ints}
use Rattle.std.proofs.lemmas.Bool.Decides.{nat_tests}
use Rattle.ppc_ops.specs.Fitting.{IsSigned, IsSignedMultiple, IsDisplacement, IsCompared}
use Rattle.operand_texts.specs.declared.kinds.OperandText.{OperandText}
use Rattle.operand_texts.specs.declared.kinds.OperandText.TheVariants as texts
use Rattle.ppc_disasm.specs.Texts.{value_at, value_count}

-- a number from 0 on, below a bound
abbrev pub IsBelow : ℕ → ℤ → Type 0
IsBelow bound (pos n) = n < bound
IsBelow bound (negsuc n) = ⊥

-- a number from -bound to bound - 1
abbrev pub IsWithin : ℕ → ℤ → Type 0
IsWithin bound (pos n) = n < bound
IsWithin bound (negsuc n) = n < bound

-- the first values fit an operand of this kind
abbrev pub FitsKind : OperandText → List ℤ → Type 0
FitsKind (texts.Register field) vs = IsBelow 32 (value_at vs 0)
FitsKind (texts.RegisterOrZero field) vs = IsBelow 32 (value_at vs 0)
FitsKind (texts.Number field) vs = IsBelow 65536 (value_at vs 0)
FitsKind (texts.Signed field) vs = IsWithin 32768 (value_at vs 0)
FitsKind texts.Displacement vs = IsWithin 32768 (value_at vs 0) × IsBelow 32 (value_at vs 1)
FitsKind texts.DisplacementOrZero vs = IsWithin 32768 (value_at vs 0) × IsBelow 32 (value_at vs 1)
FitsKind (texts.Target field) vs = IsWithin 33554432 (value_at vs 0)

-- the values fit operands of these kinds
abbrev pub FitKinds : List OperandText → List ℤ → Type 0
FitKinds [] vs = Unit {0}
FitKinds (kind ∷ kinds) vs = FitsKind kind vs × FitKinds kinds (drop (value_count kind) vs)

-- either list of operands
pub chosen : (kinds others : List OperandText) (is_first : Bool) (vs : List ℤ) → (is_first ≡ true → FitKinds kinds vs) → (is_first ≡ false → FitKinds others vs) → FitKinds (cond is_first kinds others) vs
chosen kinds others true vs first other = first refl
chosen kinds others false vs first other = other refl

pub number_below : (n bound : ℕ) → n < bound → bound ≤ 65536 → n < 65536
number_below n bound lt le = omega arith

pub flag_below : (b : Bool) → from_bool b < 65536
flag_below true = omega arith
flag_below false = omega arith

pub distance_below : (b : Bool) (n : ℕ) → n < 2 ^ cond b 5 6 → n < 65536
distance_below true n lt = omega arith
distance_below false n lt = omega arith

pub compared_below : (z : ℤ) → IsCompared true z → IsBelow 65536 z
compared_below (pos n) e = let same : n % 2 ^ 16 ≡ n = pos_same (n % 2 ^ 16) n e in omega arith
  where
    pos_same : (m n : ℕ) → pos m ≡ pos n → m ≡ n
    pos_same m n e = cc
compared_below (negsuc n) e = cc

pub signed_within : (z : ℤ) → IsSigned 16 z → IsWithin 32768 z
signed_within (pos n) e = grind (arith, nat_tests, ints)
signed_within (negsuc n) e = grind (arith, nat_tests, ints)

pub displacement_within : (b : Bool) (z : ℤ) → IsDisplacement b z → IsWithin 32768 z
displacement_within true z e = signed_within z e.0
displacement_within false z e = signed_within z e

wider : (z : ℤ) → IsWithin 32768 z → IsWithin 33554432 z
wider (pos n) e = omega arith
wider (negsuc n) e = omega arith

pub branch_within : (z : ℤ) → IsSignedMultiple 16 z → IsWithin 33554432 z
branch_within z e = wider z (signed_within z e.0)

pub jump_within : (z : ℤ) → IsSignedMultiple 26 z → IsWithin 33554432 z
jump_within (pos n) e = by e.0
  where
    by : IsSigned 26 (pos n) → n < 33554432
    by e = grind (arith, nat_tests, ints)
jump_within (negsuc n) e = by e.0
  where
    by : IsSigned 26 (negsuc n) → n < 33554432
    by e = grind (arith, nat_tests, ints)
