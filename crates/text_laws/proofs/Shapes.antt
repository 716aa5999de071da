-- The pieces of a form's text.
use Rattle.std.proofs.Common.{zero, suc, Bool, true, false, List, [], ◌∷◌, ◌++◌, drop, ℤ, pos, negsuc}
use Rattle.ppc_bits.specs.Bits.{modulo}
use Rattle.operand_texts.specs.declared.kinds.OperandText.{OperandText}
use Rattle.operand_texts.specs.declared.kinds.OperandText.TheVariants as texts
use Rattle.operand_texts.specs.declared.mnemonic.Mnemonic.{Mnemonic}
use Rattle.operand_texts.specs.Operands.{operand_texts}
use Rattle.asm_statements.specs.declared.piece.Sign.TheVariants as signs
use Rattle.asm_statements.specs.declared.piece.Piece.{Piece}
use Rattle.asm_statements.specs.declared.piece.Piece.TheVariants as pieces
use Rattle.ppc_disasm.specs.Texts.{mnemonic_text, register_text, value_at, value_count}

abbrev pub signed_pieces : ℤ → List Piece
signed_pieces (pos n) = pieces.Number n ∷ []
signed_pieces (negsuc n) = pieces.Sign signs.Minus ∷ pieces.Number (suc n) ∷ []

abbrev pub register_piece : ℤ → Piece
register_piece z = pieces.Word (register_text z)

abbrev pub register_or_zero_piece : ℤ → Piece
register_or_zero_piece (pos zero) = pieces.Number 0
register_or_zero_piece z = register_piece z

abbrev pub displacement_pieces : ℤ → Piece → List Piece
displacement_pieces z register = signed_pieces z ++ pieces.Sign signs.Open ∷ register ∷ pieces.Sign signs.Close ∷ []

abbrev pub distance_pieces : ℤ → List Piece
distance_pieces (pos n) = pieces.Sign signs.Dot ∷ pieces.Sign signs.Plus ∷ pieces.Number n ∷ []
distance_pieces (negsuc n) = pieces.Sign signs.Dot ∷ pieces.Sign signs.Minus ∷ pieces.Number (suc n) ∷ []

abbrev pub target_pieces : Bool → ℤ → List Piece
target_pieces true z = pieces.Number (modulo 64 z) ∷ []
target_pieces false z = distance_pieces z

abbrev pub operand_pieces : Bool → OperandText → List ℤ → List Piece
operand_pieces is_absolute (texts.Register field) vs = register_piece (value_at vs 0) ∷ []
operand_pieces is_absolute (texts.RegisterOrZero field) vs = register_or_zero_piece (value_at vs 0) ∷ []
operand_pieces is_absolute (texts.Number field) vs = signed_pieces (value_at vs 0)
operand_pieces is_absolute (texts.Signed field) vs = signed_pieces (value_at vs 0)
operand_pieces is_absolute texts.Displacement vs = displacement_pieces (value_at vs 0) (register_piece (value_at vs 1))
operand_pieces is_absolute texts.DisplacementOrZero vs = displacement_pieces (value_at vs 0) (register_or_zero_piece (value_at vs 1))
operand_pieces is_absolute (texts.Target field) vs = target_pieces is_absolute (value_at vs 0)

-- operands behind the first, each with a comma before it
abbrev pub later_pieces : Bool → List OperandText → List ℤ → List Piece
later_pieces is_absolute [] vs = []
later_pieces is_absolute (kind ∷ kinds) vs = pieces.Sign signs.Comma ∷ operand_pieces is_absolute kind vs ++ later_pieces is_absolute kinds (drop (value_count kind) vs)

abbrev pub operands_pieces : Bool → List OperandText → List ℤ → List Piece
operands_pieces is_absolute [] vs = []
operands_pieces is_absolute (kind ∷ kinds) vs = operand_pieces is_absolute kind vs ++ later_pieces is_absolute kinds (drop (value_count kind) vs)

abbrev pub form_pieces : Mnemonic → List ℤ → List Piece
form_pieces m vs = pieces.Word (mnemonic_text m) ∷ operands_pieces m.aa (operand_texts m.op) vs

-- the values that the operands show
abbrev pub shown_values : List OperandText → List ℤ → List ℤ
shown_values [] vs = []
shown_values (texts.Displacement ∷ kinds) vs = value_at vs 0 ∷ value_at vs 1 ∷ shown_values kinds (drop 2 vs)
shown_values (texts.DisplacementOrZero ∷ kinds) vs = value_at vs 0 ∷ value_at vs 1 ∷ shown_values kinds (drop 2 vs)
shown_values (kind ∷ kinds) vs = value_at vs 0 ∷ shown_values kinds (drop 1 vs)
