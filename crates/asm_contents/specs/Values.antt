-- What the operands of an instruction are worth.
use Rattle.std.specs.Prelude.{ℕ, ◌+◌, ◌%◌, ◌^◌, List, [], ◌∷◌, ◌++◌, Bool, true, false, ◌&&◌, Option, Some, None, option_map, option_and_then, ℤ, pos, ◌-ℤ◌}
use Rattle.ppc_bits.specs.Bits.{bit, field_of, modulo, signed_of}
use Rattle.operand_texts.specs.declared.kinds.OperandText.{OperandText}
use Rattle.operand_texts.specs.declared.kinds.OperandText.TheVariants as texts
use Rattle.operand_texts.specs.Operands.{operand_texts}
use Rattle.asm_statements.specs.declared.expression.Term.{Term}
use Rattle.operand_texts.specs.declared.mnemonic.Mnemonic.{Mnemonic}
use Rattle.asm_statements.specs.declared.operand.Half.{Half}
use Rattle.asm_statements.specs.declared.operand.Half.TheVariants as halves
use Rattle.asm_statements.specs.declared.operand.Number.{Number}
use Rattle.asm_statements.specs.declared.operand.Number.TheVariants as numbers
use Rattle.asm_statements.specs.declared.operand.Operand.{Operand}
use Rattle.asm_statements.specs.declared.operand.Operand.TheVariants as operands
use Rattle.asm_places.specs.Names.{Definition, value_of, is_defined}
use Rattle.asm_places.specs.Sums.{or_zero, total, all_known}
use Rattle.asm_places.specs.Ranges.{in_range}
use Rattle.asm_forms.specs.Words.{word_of}

-- 16 bits of a value modulo 2^64: bits 48 to 63; bits 32 to 47; and bits 32 to 47 plus bit 48
abbrev pub bits_of : Half → ℕ → ℕ
bits_of halves.Low v = field_of 64 v 48 63
bits_of halves.High v = field_of 64 v 32 47
bits_of halves.Adjusted v = (field_of 64 v 32 47 + bit 64 v 48) % 2 ^ 16

-- 16 bits as a number, a signed one where the operand is
abbrev pub bits_worth : Bool → ℕ → ℤ
bits_worth true n = signed_of 16 n
bits_worth false n = pos n

-- the part of a name's value
abbrev pub part_worth : Bool → Half → ℤ → ℤ
part_worth is_signed half z = bits_worth is_signed (bits_of half (modulo 64 z))

-- what a number is worth by these names at an address; nothing where a value in it is out of range
abbrev pub number_worth : List Definition → ℤ → Bool → Number → Option ℤ
number_worth names here is_signed (numbers.Whole e) = in_range (total names here e)
number_worth names here is_signed (numbers.Part half name) = option_map (part_worth is_signed half) (in_range (or_zero (value_of names name)))

-- a number modulo 2^64, as a signed one
abbrev pub wrapped : ℤ → ℤ
wrapped z = signed_of 64 (modulo 64 z)

-- what stands in a branch for its target: the address itself where that is asked for, and else how far it is from the branch
abbrev pub target_worth : List Definition → ℤ → Bool → List Term → Option ℤ
target_worth names here true e = option_map wrapped (in_range (total names here e))
target_worth names here false e = Some (wrapped (total names here e -ℤ here))

-- the operand is a signed number
abbrev pub is_signed_text : OperandText → Bool
is_signed_text (texts.Signed field) = true
is_signed_text (texts.Number field) = false
is_signed_text (texts.Register field) = false
is_signed_text (texts.RegisterOrZero field) = false
is_signed_text texts.Displacement = true
is_signed_text texts.DisplacementOrZero = true
is_signed_text (texts.Target field) = true

abbrev pub one : ℤ → List ℤ
one z = z ∷ []

abbrev pub with_register : ℕ → ℤ → List ℤ
with_register r z = z ∷ pos r ∷ []

-- the values of an operand: of a displacement it and then its register, of any other one
abbrev pub operand_values : List Definition → ℤ → Bool → OperandText → Operand → Option (List ℤ)
operand_values names here absolute text (operands.Register r) = Some (pos r ∷ [])
operand_values names here absolute text (operands.Number n) = option_map one (number_worth names here (is_signed_text text) n)
operand_values names here absolute text (operands.Displacement n r) = option_map (with_register r) (number_worth names here true n)
operand_values names here absolute text (operands.Target e) = option_map one (target_worth names here absolute e)

abbrev pub and_values : Option (List ℤ) → Option (List ℤ) → Option (List ℤ)
and_values (Some vs) (Some more) = Some (vs ++ more)
and_values (Some vs) None = None
and_values None more = None

-- the values of operands, in their order
abbrev pub all_values : List Definition → ℤ → Bool → List OperandText → List Operand → Option (List ℤ)
all_values names here absolute [] os = Some []
all_values names here absolute (t ∷ ts) [] = Some []
all_values names here absolute (t ∷ ts) (o ∷ os) = and_values (operand_values names here absolute t o) (all_values names here absolute ts os)

-- the word of an instruction at an address; nothing where a value is out of range, or the operands are an invalid form
abbrev pub line_word : List Definition → ℤ → Mnemonic → List Operand → Option ℕ
line_word names here m os = option_and_then (word_of m) (all_values names here m.aa (operand_texts m.op) os)

-- all names of a number are defined
abbrev pub is_number_known : List Definition → Number → Bool
is_number_known names (numbers.Whole e) = all_known names e
is_number_known names (numbers.Part half name) = is_defined names name

abbrev pub is_operand_known : List Definition → Operand → Bool
is_operand_known names (operands.Register r) = true
is_operand_known names (operands.Number n) = is_number_known names n
is_operand_known names (operands.Displacement n r) = is_number_known names n
is_operand_known names (operands.Target e) = all_known names e

-- all names of the operands are defined
abbrev pub are_known : List Definition → List Operand → Bool
are_known names [] = true
are_known names (o ∷ os) = is_operand_known names o && are_known names os
