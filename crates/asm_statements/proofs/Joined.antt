-- Operands that are read one by one.
use Rattle.std.proofs.Common.{◌≡◌, ℕ, ◌+◌, ◌-◌, ◌<◌, List, [], ◌∷◌, ◌++◌, length, get_or, take, drop, Option, Some, None, refl, sym, ap, ◌∙◌, arith, append_assoc}
use Rattle.std.specs.Prelude.{option_and_then}
use Rattle.std.proofs.lemmas.List.{drop_more, at_drop_more, get_or-take}
use Rattle.operand_texts.specs.declared.kinds.OperandText.{OperandText}
use Rattle.asm_statements.specs.declared.piece.Sign.TheVariants as signs
use Rattle.asm_statements.specs.declared.piece.Piece.{Piece}
use Rattle.asm_statements.specs.declared.operand.Operand.{Operand}
use Rattle.asm_statements.specs.Pieces.{before, behind}
use Rattle.asm_statements.specs.Operands.{operand_of, and_operands, operands_of}

-- the operands that were found, and those that are still to be read
abbrev pub together : List Operand → Option (List Operand) → Option (List Operand)
together found (Some os) = Some (found ++ os)
together found None = None

one_together : (found : List Operand) (o : Operand) (os : Option (List Operand)) → together found (and_operands (Some o) os) ≡ together (found ++ o ∷ []) os
one_together found o (Some os) = ap Some (sym (append_assoc found (o ∷ []) os))
one_together found o None = refl

-- a kind of the front that the loop goes over is one of all
pub kind_read : (kinds : List OperandText) (i : ℕ) (d : OperandText) (ps qs : List Piece) (r o : Option Operand) → i < length kinds - 1
    → r ≡ operand_of (get_or (take (length kinds - 1) kinds) i d) qs → qs ≡ ps → r ≡ o → operand_of (get_or kinds i d) ps ≡ o
kind_read kinds i d ps qs r o h read same is =
    ap (λ k. operand_of k ps) (sym (get_or-take (length kinds - 1) kinds i d h))
    ∙ ap (operand_of (get_or (take (length kinds - 1) kinds) i d)) (sym same)
    ∙ sym read
    ∙ is

-- two kinds or more are left
two_left : (kinds : List OperandText) (i : ℕ) (d : OperandText) (ps : List Piece) → i + 1 < length kinds
    → operands_of (drop i kinds) ps ≡ and_operands (operand_of (get_or kinds i d) (before signs.Comma ps)) (option_and_then (operands_of (drop (i + 1) kinds)) (behind signs.Comma ps))
two_left kinds i d ps h =
    let within : i < length kinds = omega arith in
    let kind = get_or kinds i d in
    at_drop_more (λ ks. operands_of ks ps) kinds i d within
    ∙ at_drop_more (λ ks. operands_of (kind ∷ ks) ps) kinds (i + 1) d h
    ∙ ap (λ ks. and_operands (operand_of kind (before signs.Comma ps)) (option_and_then (operands_of ks) (behind signs.Comma ps))) (sym (drop_more kinds (i + 1) d h))

-- an operand with the comma behind it was read
pub read_one : (kinds : List OperandText) (i : ℕ) (d : OperandText) (old new : List Piece) (found : List Operand) (o : Operand) → i + 1 < length kinds
    → operand_of (get_or kinds i d) (before signs.Comma old) ≡ Some o → behind signs.Comma old ≡ Some new
    → together found (operands_of (drop i kinds) old) ≡ together (found ++ o ∷ []) (operands_of (drop (i + 1) kinds) new)
read_one kinds i d old new found o h read comma =
    ap (together found) (two_left kinds i d old h
    ∙ ap (λ r. and_operands r (option_and_then (operands_of (drop (i + 1) kinds)) (behind signs.Comma old))) read
    ∙ ap (λ r. and_operands (Some o) (option_and_then (operands_of (drop (i + 1) kinds)) r)) comma)
    ∙ one_together found o (operands_of (drop (i + 1) kinds) new)
