-- The operands that a form's text has.
use Rattle.std.proofs.Common.{ℕ, suc, Bool, true, false, List, [], ◌∷◌, drop, ℤ, pos, negsuc}
use Rattle.ppc_bits.specs.Bits.{modulo}
use Rattle.operand_texts.specs.declared.kinds.OperandText.{OperandText}
use Rattle.operand_texts.specs.declared.kinds.OperandText.TheVariants as texts
use Rattle.asm_statements.specs.declared.expression.Atom.TheVariants as atoms
use Rattle.asm_statements.specs.declared.expression.Term.{Term}
use Rattle.asm_statements.specs.declared.operand.Number.{Number}
use Rattle.asm_statements.specs.declared.operand.Number.TheVariants as numbers
use Rattle.asm_statements.specs.declared.operand.Operand.{Operand}
use Rattle.asm_statements.specs.declared.operand.Operand.TheVariants as operands
use Rattle.asm_statements.specs.Expressions.{signed}
use Rattle.ppc_disasm.specs.Texts.{value_at, value_count}

-- a number with its sign
abbrev pub signed_term : ℤ → Term
signed_term (pos n) = signed false (atoms.Number n)
signed_term (negsuc n) = signed true (atoms.Number (suc n))

abbrev pub shown_number : ℤ → Number
shown_number z = numbers.Whole (signed_term z ∷ [])

-- a register's number
abbrev pub register_shown : ℤ → ℕ
register_shown (pos n) = n
register_shown (negsuc n) = 0

-- an address, or how far from its own address a branch goes
abbrev pub target_terms : Bool → ℤ → List Term
target_terms true z = signed false (atoms.Number (modulo 64 z)) ∷ []
target_terms false z = signed false atoms.Here ∷ signed_term z ∷ []

abbrev pub shown_operand : Bool → OperandText → List ℤ → Operand
shown_operand is_absolute (texts.Register field) vs = operands.Register (register_shown (value_at vs 0))
shown_operand is_absolute (texts.RegisterOrZero field) vs = operands.Register (register_shown (value_at vs 0))
shown_operand is_absolute (texts.Number field) vs = operands.Number (shown_number (value_at vs 0))
shown_operand is_absolute (texts.Signed field) vs = operands.Number (shown_number (value_at vs 0))
shown_operand is_absolute texts.Displacement vs = operands.Displacement (shown_number (value_at vs 0)) (register_shown (value_at vs 1))
shown_operand is_absolute texts.DisplacementOrZero vs = operands.Displacement (shown_number (value_at vs 0)) (register_shown (value_at vs 1))
shown_operand is_absolute (texts.Target field) vs = operands.Target (target_terms is_absolute (value_at vs 0))

-- one operand of each kind, with the values that come next
abbrev pub shown_operands : Bool → List OperandText → List ℤ → List Operand
shown_operands is_absolute [] vs = []
shown_operands is_absolute (kind ∷ kinds) vs = shown_operand is_absolute kind vs ∷ shown_operands is_absolute kinds (drop (value_count kind) vs)
