-- Operands as they stand in text.
use Rattle.std.specs.Prelude.{ℕ, zero, List, [], ◌∷◌, codes, Bool, true, false, Option, Some, None, option_map, option_and_then, ◌==◌, if◌then◌else◌}
use Rattle.std.specs.Str.{bytes_eq}
use Rattle.number_text.specs.Number.{number_up_to}
use Rattle.operand_texts.specs.declared.kinds.OperandText.{OperandText}
use Rattle.operand_texts.specs.declared.kinds.OperandText.TheVariants as texts
use Rattle.asm_statements.specs.declared.piece.Sign.TheVariants as signs
use Rattle.asm_statements.specs.declared.piece.Piece.{Piece}
use Rattle.asm_statements.specs.declared.piece.Piece.TheVariants as pieces
use Rattle.asm_statements.specs.declared.operand.Half.{Half}
use Rattle.asm_statements.specs.declared.operand.Half.TheVariants as halves
use Rattle.asm_statements.specs.declared.operand.Number.{Number}
use Rattle.asm_statements.specs.declared.operand.Number.TheVariants as numbers
use Rattle.asm_statements.specs.declared.operand.Operand.{Operand}
use Rattle.asm_statements.specs.declared.operand.Operand.TheVariants as operands
use Rattle.asm_statements.specs.Pieces.{before, behind}
use Rattle.asm_statements.specs.Expressions.{is_plain, terms_of}

-- `r` and a number up to 31
abbrev pub register_number : List ℕ → Option ℕ
register_number [] = None
register_number (b ∷ bs) = if b == 114 then number_up_to 31 bs else None

-- the general register that the pieces are
abbrev pub register_of : List Piece → Option ℕ
register_of (pieces.Word word ∷ []) = register_number word
register_of ps = None

-- the same, where 0 may stand for register 0
abbrev pub register_or_zero_of : List Piece → Option ℕ
register_or_zero_of (pieces.Number zero ∷ []) = Some 0
register_or_zero_of ps = register_of ps

abbrev pub register_by : Bool → List Piece → Option ℕ
register_by true ps = register_or_zero_of ps
register_by false ps = register_of ps

-- which part of a name's value is asked for
abbrev pub half_of : List ℕ → Option Half
half_of word =
    if bytes_eq word (codes "l") then Some halves.Low
    else if bytes_eq word (codes "h") then Some halves.High
    else if bytes_eq word (codes "ha") then Some halves.Adjusted
    else None

abbrev pub part_of : List ℕ → Half → Number
part_of name half = numbers.Part half name

-- A name, `@` and a word: the part of the name's value that is asked for, where there is such a part. Or nothing, where the
-- pieces are not these three.
abbrev pub part_in : List Piece → Option (Option Number)
part_in (pieces.Word name ∷ pieces.Sign signs.At ∷ pieces.Word half ∷ []) = Some (if is_plain name then option_map (part_of name) (half_of half) else None)
part_in ps = None

abbrev pub number_by : Option (Option Number) → List Piece → Option Number
number_by (Some part) ps = part
number_by None ps = option_map numbers.Whole (terms_of ps)

-- a number: a name with the part of its value that is asked for, or an expression
abbrev pub number_of : List Piece → Option Number
number_of ps = number_by (part_in ps) ps

-- the register behind an opening bracket, with the closing one
abbrev pub bracketed : Bool → List Piece → Option ℕ
bracketed or_zero (p ∷ pieces.Sign signs.Close ∷ []) = register_by or_zero (p ∷ [])
bracketed or_zero ps = None

abbrev pub displaced : Option Number → Option ℕ → Option Operand
displaced (Some number) (Some register) = Some (operands.Displacement number register)
displaced (Some number) None = None
displaced None register = None

-- a displacement with its register in brackets
abbrev pub displacement_of : Bool → List Piece → Option Operand
displacement_of or_zero ps = displaced (number_of (before signs.Open ps)) (option_and_then (bracketed or_zero) (behind signs.Open ps))

-- the operand that the pieces are, where it is of this kind
abbrev pub operand_of : OperandText → List Piece → Option Operand
operand_of (texts.Register field) ps = option_map operands.Register (register_of ps)
operand_of (texts.RegisterOrZero field) ps = option_map operands.Register (register_or_zero_of ps)
operand_of (texts.Number field) ps = option_map operands.Number (number_of ps)
operand_of (texts.Signed field) ps = option_map operands.Number (number_of ps)
operand_of texts.Displacement ps = displacement_of false ps
operand_of texts.DisplacementOrZero ps = displacement_of true ps
operand_of (texts.Target field) ps = option_map operands.Target (terms_of ps)

abbrev pub and_operands : Option Operand → Option (List Operand) → Option (List Operand)
and_operands (Some o) (Some os) = Some (o ∷ os)
and_operands (Some o) None = None
and_operands None os = None

-- operands of these kinds, in order, with a comma between two
abbrev pub operands_of : List OperandText → List Piece → Option (List Operand)
operands_of [] [] = Some []
operands_of [] (p ∷ ps) = None
operands_of (kind ∷ []) ps = and_operands (operand_of kind ps) (Some [])
operands_of (kind ∷ next ∷ kinds) ps = and_operands (operand_of kind (before signs.Comma ps)) (option_and_then (operands_of (next ∷ kinds)) (behind signs.Comma ps))
