-- What the operands of a form's text are worth, at any address and among any names.
use Rattle.std.proofs.Common.{◌≡◌, ℕ, suc, Bool, true, false, cond, ◌&&◌, List, [], ◌∷◌, ◌++◌, drop, Some, None, refl, ap, ◌∙◌, option_map, ℤ, pos, negsuc, ◌+ℤ◌, ◌-ℤ◌, arith}
use Rattle.std.proofs.lemmas.Bool.Decides.{nat_tests}
use Rattle.std.proofs.lemmas.Int.{ints}
use Rattle.ppc_bits.specs.Bits.{modulo, signed_of}
use Rattle.operand_texts.specs.declared.kinds.OperandText.{OperandText}
use Rattle.operand_texts.specs.declared.kinds.OperandText.TheVariants as texts
use Rattle.asm_statements.specs.declared.operand.Operand.TheVariants as operands
use Rattle.asm_places.specs.Names.{Definition}
use Rattle.asm_places.specs.Sums.{total, term_value, all_known}
use Rattle.asm_places.specs.Ranges.{fits_doubleword, in_range}
use Rattle.asm_contents.specs.Values.{number_worth, wrapped, target_worth, one, with_register, operand_values, and_values, all_values, is_operand_known, are_known}
use Rattle.ppc_disasm.specs.Texts.{value_at, value_count}
use Rattle.ppc_disasm.proofs.Fitting.{IsBelow, IsWithin, FitsKind, FitKinds}
use Rattle.text_laws.proofs.Shapes.{shown_values}
use Rattle.text_laws.proofs.ShownOperands.{signed_term, shown_number, register_shown, target_terms, shown_operand, shown_operands}

-- ---- one operand

-- a term is worth its number
term_worth : (names : List Definition) (here z : ℤ) → term_value names here (signed_term z) ≡ z
term_worth names here (pos n) = refl
term_worth names here (negsuc n) = taken n
  where
    taken : (n : ℕ) → pos 0 -ℤ pos (suc n) ≡ negsuc n
    taken n = omega (arith, ints)

number_total : (names : List Definition) (here z : ℤ) → total names here (signed_term z ∷ []) ≡ z
number_total names here z = ap (λ y. y +ℤ pos 0) (term_worth names here z) ∙ omega (arith, ints)

within_range : (z : ℤ) → fits_doubleword z ≡ true → in_range z ≡ Some z
within_range z e = ap (λ t. cond t (Some z) None) e

below_fits : (z : ℤ) → IsBelow 65536 z → fits_doubleword z ≡ true
below_fits (pos n) h = grind (arith, nat_tests)
below_fits (negsuc n) h = absurd h

within_fits : (z : ℤ) → IsWithin 32768 z → fits_doubleword z ≡ true
within_fits (pos n) h = grind (arith, nat_tests)
within_fits (negsuc n) h = grind (arith, nat_tests)

shown_worth : (names : List Definition) (here : ℤ) (is_signed : Bool) (z : ℤ) → fits_doubleword z ≡ true → number_worth names here is_signed (shown_number z) ≡ Some z
shown_worth names here is_signed z e = ap in_range (number_total names here z) ∙ within_range z e

register_worth : (z : ℤ) → IsBelow 32 z → pos (register_shown z) ≡ z
register_worth (pos n) h = refl
register_worth (negsuc n) h = absurd h

-- a number within 2 ^ 25 is its own rest modulo 2 ^ 64, as a signed one
wrapped_own : (z : ℤ) → IsWithin 33554432 z → wrapped z ≡ z
wrapped_own (pos n) h = grind (arith, nat_tests, ints)
wrapped_own (negsuc n) h = grind (arith, nat_tests, ints)

modulo_fits : (z : ℤ) → fits_doubleword (pos (modulo 64 z)) ≡ true
modulo_fits (pos n) = grind (arith, nat_tests)
modulo_fits (negsuc n) = grind (arith, nat_tests)

modulo_own : (z : ℤ) → modulo 64 (pos (modulo 64 z)) ≡ modulo 64 z
modulo_own (pos n) = omega arith
modulo_own (negsuc n) = omega arith

-- an address that is asked for
absolute_worth : (names : List Definition) (here z : ℤ) → IsWithin 33554432 z → target_worth names here true (target_terms true z) ≡ Some z
absolute_worth names here z h =
    ap (λ y. option_map wrapped (in_range y)) (number_total names here (pos (modulo 64 z)))
    ∙ ap (option_map wrapped) (within_range (pos (modulo 64 z)) (modulo_fits z))
    ∙ ap (λ v. Some (signed_of 64 v)) (modulo_own z)
    ∙ ap Some (wrapped_own z h)

-- a distance from the branch itself, wherever that stands
distance_worth : (names : List Definition) (here z : ℤ) → IsWithin 33554432 z → target_worth names here false (target_terms false z) ≡ Some z
distance_worth names here z h =
    let far : (here +ℤ (z +ℤ pos 0)) -ℤ here ≡ z = omega (arith, ints) in
    ap (λ y. Some (wrapped ((here +ℤ (y +ℤ pos 0)) -ℤ here))) (term_worth names here z)
    ∙ ap (λ y. Some (wrapped y)) far
    ∙ ap Some (wrapped_own z h)

target_shown : (names : List Definition) (here : ℤ) (is_absolute : Bool) (z : ℤ) → IsWithin 33554432 z → target_worth names here is_absolute (target_terms is_absolute z) ≡ Some z
target_shown names here true z h = absolute_worth names here z h
target_shown names here false z h = distance_worth names here z h

displacement_worth : (names : List Definition) (here : ℤ) (is_absolute : Bool) (kind : OperandText) (z r : ℤ) → IsWithin 32768 z → IsBelow 32 r
    → operand_values names here is_absolute kind (operands.Displacement (shown_number z) (register_shown r)) ≡ Some (z ∷ r ∷ [])
displacement_worth names here is_absolute kind z r h g =
    ap (option_map (with_register (register_shown r))) (shown_worth names here true z (within_fits z h)) ∙ ap (λ y. Some (z ∷ y ∷ [])) (register_worth r g)

-- the values that an operand shows
abbrev values_shown : OperandText → List ℤ → List ℤ
values_shown texts.Displacement vs = value_at vs 0 ∷ value_at vs 1 ∷ []
values_shown texts.DisplacementOrZero vs = value_at vs 0 ∷ value_at vs 1 ∷ []
values_shown kind vs = value_at vs 0 ∷ []

operand_worth : (names : List Definition) (here : ℤ) (is_absolute : Bool) (kind : OperandText) (vs : List ℤ) → FitsKind kind vs
    → operand_values names here is_absolute kind (shown_operand is_absolute kind vs) ≡ Some (values_shown kind vs)
operand_worth names here is_absolute (texts.Register field) vs h = ap (λ y. Some (y ∷ [])) (register_worth (value_at vs 0) h)
operand_worth names here is_absolute (texts.RegisterOrZero field) vs h = ap (λ y. Some (y ∷ [])) (register_worth (value_at vs 0) h)
operand_worth names here is_absolute (texts.Number field) vs h = ap (option_map one) (shown_worth names here false (value_at vs 0) (below_fits (value_at vs 0) h))
operand_worth names here is_absolute (texts.Signed field) vs h = ap (option_map one) (shown_worth names here true (value_at vs 0) (within_fits (value_at vs 0) h))
operand_worth names here is_absolute texts.Displacement vs h = displacement_worth names here is_absolute texts.Displacement (value_at vs 0) (value_at vs 1) h.0 h.1
operand_worth names here is_absolute texts.DisplacementOrZero vs h = displacement_worth names here is_absolute texts.DisplacementOrZero (value_at vs 0) (value_at vs 1) h.0 h.1
operand_worth names here is_absolute (texts.Target field) vs h = ap (option_map one) (target_shown names here is_absolute (value_at vs 0) h)

-- ---- all operands

values_first : (kind : OperandText) (kinds : List OperandText) (vs : List ℤ) → values_shown kind vs ++ shown_values kinds (drop (value_count kind) vs) ≡ shown_values (kind ∷ kinds) vs
values_first (texts.Register field) kinds vs = refl
values_first (texts.RegisterOrZero field) kinds vs = refl
values_first (texts.Number field) kinds vs = refl
values_first (texts.Signed field) kinds vs = refl
values_first texts.Displacement kinds vs = refl
values_first texts.DisplacementOrZero kinds vs = refl
values_first (texts.Target field) kinds vs = refl

-- the operands of a text are worth the values that it shows
pub operands_worth : (names : List Definition) (here : ℤ) (is_absolute : Bool) (kinds : List OperandText) (vs : List ℤ) → FitKinds kinds vs
    → all_values names here is_absolute kinds (shown_operands is_absolute kinds vs) ≡ Some (shown_values kinds vs)
operands_worth names here is_absolute [] vs h = refl
operands_worth names here is_absolute (kind ∷ kinds) vs h =
    let rest = drop (value_count kind) vs in
    ap (λ o. and_values o (all_values names here is_absolute kinds (shown_operands is_absolute kinds rest))) (operand_worth names here is_absolute kind vs h.0)
    ∙ ap (and_values (Some (values_shown kind vs))) (operands_worth names here is_absolute kinds rest h.1)
    ∙ ap Some (values_first kind kinds vs)

-- ---- they name nothing

term-known : (names : List Definition) (z : ℤ) → all_known names (signed_term z ∷ []) ≡ true
term-known names (pos n) = refl
term-known names (negsuc n) = refl

target-known : (names : List Definition) (is_absolute : Bool) (z : ℤ) → all_known names (target_terms is_absolute z) ≡ true
target-known names true z = refl
target-known names false z = term-known names z

operand-known : (names : List Definition) (is_absolute : Bool) (kind : OperandText) (vs : List ℤ) → is_operand_known names (shown_operand is_absolute kind vs) ≡ true
operand-known names is_absolute (texts.Register field) vs = refl
operand-known names is_absolute (texts.RegisterOrZero field) vs = refl
operand-known names is_absolute (texts.Number field) vs = term-known names (value_at vs 0)
operand-known names is_absolute (texts.Signed field) vs = term-known names (value_at vs 0)
operand-known names is_absolute texts.Displacement vs = term-known names (value_at vs 0)
operand-known names is_absolute texts.DisplacementOrZero vs = term-known names (value_at vs 0)
operand-known names is_absolute (texts.Target field) vs = target-known names is_absolute (value_at vs 0)

-- the operands of a text hold no name
pub operands_known : (names : List Definition) (is_absolute : Bool) (kinds : List OperandText) (vs : List ℤ) → are_known names (shown_operands is_absolute kinds vs) ≡ true
operands_known names is_absolute [] vs = refl
operands_known names is_absolute (kind ∷ kinds) vs =
    ap (λ t. t && are_known names (shown_operands is_absolute kinds (drop (value_count kind) vs))) (operand-known names is_absolute kind vs)
    ∙ operands_known names is_absolute kinds (drop (value_count kind) vs)
