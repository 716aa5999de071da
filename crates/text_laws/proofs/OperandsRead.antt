-- The pieces of a form's text, read as operands.
use Rattle.std.proofs.Common.{◌≡◌, ℕ, zero, suc, Bool, true, false, List, [], ◌∷◌, ◌++◌, drop, append-nil, Some, refl, ap, ◌∙◌, option_map, ℤ, pos, negsuc, arith}
use Rattle.operand_texts.specs.declared.kinds.OperandText.{OperandText}
use Rattle.operand_texts.specs.declared.kinds.OperandText.TheVariants as texts
use Rattle.asm_statements.specs.declared.piece.Sign.TheVariants as signs
use Rattle.asm_statements.specs.declared.piece.Piece.{Piece}
use Rattle.asm_statements.specs.declared.piece.Piece.TheVariants as pieces
use Rattle.asm_statements.specs.declared.operand.Operand.TheVariants as operands
use Rattle.asm_statements.specs.Pieces.{before, behind}
use Rattle.asm_statements.specs.Expressions.{terms_of}
use Rattle.asm_statements.specs.Operands.{register_of, register_or_zero_of, register_by, displaced, displacement_of, number_of, operand_of, and_operands, operands_of}
use Rattle.ppc_disasm.specs.Texts.{value_at, value_count}
use Rattle.ppc_disasm.proofs.Fitting.{IsBelow, FitsKind, FitKinds}
use Rattle.text_laws.proofs.Shapes.{signed_pieces, register_piece, register_or_zero_piece, displacement_pieces, target_pieces, operand_pieces, operands_pieces}
use Rattle.text_laws.proofs.ShownOperands.{shown_number, register_shown, target_terms, shown_operand, shown_operands}
use Rattle.text_laws.proofs.ReadNumbers.{decimal_up_to}

-- ---- one operand

register_read : (z : ℤ) → IsBelow 32 z → register_of (register_piece z ∷ []) ≡ Some (register_shown z)
register_read (pos n) h = decimal_up_to 31 n (omega arith) (omega arith)
register_read (negsuc n) h = absurd h

register_or_zero_read : (z : ℤ) → IsBelow 32 z → register_or_zero_of (register_or_zero_piece z ∷ []) ≡ Some (register_shown z)
register_or_zero_read (pos zero) h = refl
register_or_zero_read (pos (suc n)) h = register_read (pos (suc n)) h
register_or_zero_read (negsuc n) h = absurd h

number_read : (z : ℤ) → number_of (signed_pieces z) ≡ Some (shown_number z)
number_read (pos n) = refl
number_read (negsuc n) = refl

displacement_read : (or_zero : Bool) (z : ℤ) (register : Piece) (n : ℕ) → register_by or_zero (register ∷ []) ≡ Some n
    → displacement_of or_zero (displacement_pieces z register) ≡ Some (operands.Displacement (shown_number z) n)
displacement_read or_zero (pos m) register n e = ap (displaced (Some (shown_number (pos m)))) e
displacement_read or_zero (negsuc m) register n e = ap (displaced (Some (shown_number (negsuc m)))) e

target_read : (is_absolute : Bool) (z : ℤ) → terms_of (target_pieces is_absolute z) ≡ Some (target_terms is_absolute z)
target_read true z = refl
target_read false (pos n) = refl
target_read false (negsuc n) = refl

operand_read : (is_absolute : Bool) (kind : OperandText) (vs : List ℤ) → FitsKind kind vs → operand_of kind (operand_pieces is_absolute kind vs) ≡ Some (shown_operand is_absolute kind vs)
operand_read is_absolute (texts.Register field) vs h = ap (option_map operands.Register) (register_read (value_at vs 0) h)
operand_read is_absolute (texts.RegisterOrZero field) vs h = ap (option_map operands.Register) (register_or_zero_read (value_at vs 0) h)
operand_read is_absolute (texts.Number field) vs h = ap (option_map operands.Number) (number_read (value_at vs 0))
operand_read is_absolute (texts.Signed field) vs h = ap (option_map operands.Number) (number_read (value_at vs 0))
operand_read is_absolute texts.Displacement vs h = displacement_read false (value_at vs 0) (register_piece (value_at vs 1)) (register_shown (value_at vs 1)) (register_read (value_at vs 1) h.1)
operand_read is_absolute texts.DisplacementOrZero vs h = displacement_read true (value_at vs 0) (register_or_zero_piece (value_at vs 1)) (register_shown (value_at vs 1)) (register_or_zero_read (value_at vs 1) h.1)
operand_read is_absolute (texts.Target field) vs h = ap (option_map operands.Target) (target_read is_absolute (value_at vs 0))

-- ---- operands with commas between them

-- the comma behind these pieces is the first
record Ended (ps rest : List Piece) : Type 0 where
  front : before signs.Comma (ps ++ pieces.Sign signs.Comma ∷ rest) ≡ ps
  back : behind signs.Comma (ps ++ pieces.Sign signs.Comma ∷ rest) ≡ Some rest

register_or_zero-ended : (z : ℤ) (rest : List Piece) → Ended (register_or_zero_piece z ∷ []) rest
register_or_zero-ended (pos zero) rest = record { front = refl; back = refl }
register_or_zero-ended (pos (suc n)) rest = record { front = refl; back = refl }
register_or_zero-ended (negsuc n) rest = record { front = refl; back = refl }

number-ended : (z : ℤ) (rest : List Piece) → Ended (signed_pieces z) rest
number-ended (pos n) rest = record { front = refl; back = refl }
number-ended (negsuc n) rest = record { front = refl; back = refl }

displacement-ended : (z r : ℤ) (rest : List Piece) → Ended (displacement_pieces z (register_piece r)) rest
displacement-ended (pos n) r rest = record { front = refl; back = refl }
displacement-ended (negsuc n) r rest = record { front = refl; back = refl }

displacement_or_zero-ended : (z r : ℤ) (rest : List Piece) → Ended (displacement_pieces z (register_or_zero_piece r)) rest
displacement_or_zero-ended (pos n) (pos zero) rest = record { front = refl; back = refl }
displacement_or_zero-ended (pos n) (pos (suc r)) rest = record { front = refl; back = refl }
displacement_or_zero-ended (pos n) (negsuc r) rest = record { front = refl; back = refl }
displacement_or_zero-ended (negsuc n) (pos zero) rest = record { front = refl; back = refl }
displacement_or_zero-ended (negsuc n) (pos (suc r)) rest = record { front = refl; back = refl }
displacement_or_zero-ended (negsuc n) (negsuc r) rest = record { front = refl; back = refl }

target-ended : (is_absolute : Bool) (z : ℤ) (rest : List Piece) → Ended (target_pieces is_absolute z) rest
target-ended true z rest = record { front = refl; back = refl }
target-ended false (pos n) rest = record { front = refl; back = refl }
target-ended false (negsuc n) rest = record { front = refl; back = refl }

operand-ended : (is_absolute : Bool) (kind : OperandText) (vs : List ℤ) (rest : List Piece) → Ended (operand_pieces is_absolute kind vs) rest
operand-ended is_absolute (texts.Register field) vs rest = record { front = refl; back = refl }
operand-ended is_absolute (texts.RegisterOrZero field) vs rest = register_or_zero-ended (value_at vs 0) rest
operand-ended is_absolute (texts.Number field) vs rest = number-ended (value_at vs 0) rest
operand-ended is_absolute (texts.Signed field) vs rest = number-ended (value_at vs 0) rest
operand-ended is_absolute texts.Displacement vs rest = displacement-ended (value_at vs 0) (value_at vs 1) rest
operand-ended is_absolute texts.DisplacementOrZero vs rest = displacement_or_zero-ended (value_at vs 0) (value_at vs 1) rest
operand-ended is_absolute (texts.Target field) vs rest = target-ended is_absolute (value_at vs 0) rest

-- the operands of a text are read from its pieces
pub operands_read : (is_absolute : Bool) (kinds : List OperandText) (vs : List ℤ) → FitKinds kinds vs → operands_of kinds (operands_pieces is_absolute kinds vs) ≡ Some (shown_operands is_absolute kinds vs)
operands_read is_absolute [] vs h = refl
operands_read is_absolute (kind ∷ []) vs h =
    ap (λ ps. and_operands (operand_of kind ps) (Some [])) (append-nil (operand_pieces is_absolute kind vs))
    ∙ ap (λ o. and_operands o (Some [])) (operand_read is_absolute kind vs h.0)
operands_read is_absolute (kind ∷ next ∷ kinds) vs h =
    let rest = drop (value_count kind) vs in
    let after = operands_pieces is_absolute (next ∷ kinds) rest in
    let ended = operand-ended is_absolute kind vs after in
    rw (ended.front, ended.back, operand_read is_absolute kind vs h.0) (ap (and_operands (Some (shown_operand is_absolute kind vs))) (operands_read is_absolute (next ∷ kinds) rest h.1))
