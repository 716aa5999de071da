-- The text of a form shows the form's pieces.
use Rattle.std.proofs.Common.{◌≡◌, ◌<◌, ℕ, zero, suc, ◌^◌, Bool, true, false, List, [], ◌∷◌, ◌++◌, drop, Some, ℤ, pos, negsuc, refl, arith, append_assoc}
use Rattle.std.specs.Prelude.{codes}
use Rattle.std.specs.Fmt.{decimal, signed_decimal}
use Rattle.ppc_bits.specs.Bits.{modulo}
use Rattle.asm_statements.specs.declared.piece.Sign.TheVariants as signs
use Rattle.asm_statements.specs.declared.piece.Piece.{Piece}
use Rattle.asm_statements.specs.declared.piece.Piece.TheVariants as pieces
use Rattle.asm_statements.specs.Pieces.{line_pieces}
use Rattle.operand_texts.specs.declared.kinds.OperandText.{OperandText}
use Rattle.operand_texts.specs.declared.kinds.OperandText.TheVariants as texts
use Rattle.operand_texts.specs.declared.mnemonic.Mnemonic.{Mnemonic}
use Rattle.operand_texts.specs.Mnemonics.{takes_marks}
use Rattle.operand_texts.specs.Operands.{operand_texts}
use Rattle.ppc_disasm.specs.Texts.{register_text, register_or_zero_text, displacement_text, distance_text, target_text, value_at, value_count, operand_text, operands_text, form_text}
use Rattle.ppc_disasm.proofs.Fitting.{IsBelow, IsWithin, FitsKind, FitKinds}
use Rattle.text_laws.proofs.Shapes.{signed_pieces, register_piece, register_or_zero_piece, displacement_pieces, distance_pieces, target_pieces, operand_pieces, later_pieces, operands_pieces, form_pieces}
use Rattle.text_laws.proofs.Shown.{Shows, shows_nothing, shows_space, shows_sign}
use Rattle.text_laws.proofs.ShownNumbers.{is_end, shows_zero, shows_decimal}
use Rattle.text_laws.proofs.ShownNames.{shows_register, shows_mnemonic}

-- signs before other bytes
plus : (rest : List ℕ) (ps : List Piece) → Shows rest ps → Shows (43 ∷ rest) (pieces.Sign signs.Plus ∷ ps)
plus rest ps e = shows_sign 43 rest ps (record { no_digit = refl; no_word = refl; no_quote = refl }) refl refl refl e

minus : (rest : List ℕ) (ps : List Piece) → Shows rest ps → Shows (45 ∷ rest) (pieces.Sign signs.Minus ∷ ps)
minus rest ps e = shows_sign 45 rest ps (record { no_digit = refl; no_word = refl; no_quote = refl }) refl refl refl e

comma : (rest : List ℕ) (ps : List Piece) → Shows rest ps → Shows (44 ∷ rest) (pieces.Sign signs.Comma ∷ ps)
comma rest ps e = shows_sign 44 rest ps (record { no_digit = refl; no_word = refl; no_quote = refl }) refl refl refl e

opening : (rest : List ℕ) (ps : List Piece) → Shows rest ps → Shows (40 ∷ rest) (pieces.Sign signs.Open ∷ ps)
opening rest ps e = shows_sign 40 rest ps (record { no_digit = refl; no_word = refl; no_quote = refl }) refl refl refl e

closing : (rest : List ℕ) (ps : List Piece) → Shows rest ps → Shows (41 ∷ rest) (pieces.Sign signs.Close ∷ ps)
closing rest ps e = shows_sign 41 rest ps (record { no_digit = refl; no_word = refl; no_quote = refl }) refl refl refl e

-- a dot before a plus or a minus, with which it begins no word
dot_plus : (rest : List ℕ) (ps : List Piece) → Shows (43 ∷ rest) ps → Shows (46 ∷ 43 ∷ rest) (pieces.Sign signs.Dot ∷ ps)
dot_plus rest ps e = shows_sign 46 (43 ∷ rest) ps (record { no_digit = refl; no_word = refl; no_quote = refl }) refl refl refl e

dot_minus : (rest : List ℕ) (ps : List Piece) → Shows (45 ∷ rest) ps → Shows (46 ∷ 45 ∷ rest) (pieces.Sign signs.Dot ∷ ps)
dot_minus rest ps e = shows_sign 46 (45 ∷ rest) ps (record { no_digit = refl; no_word = refl; no_quote = refl }) refl refl refl e

-- each kind of value before other bytes
signed : (z : ℤ) (rest : List ℕ) (ps : List Piece) → IsWithin 65536 z → is_end rest ≡ true → Shows rest ps → Shows (signed_decimal z ++ rest) (signed_pieces z ++ ps)
signed (pos n) rest ps fits e behind = shows_decimal n rest ps (omega arith) e behind
signed (negsuc n) rest ps fits e behind = minus (decimal (suc n) ++ rest) (pieces.Number (suc n) ∷ ps) (shows_decimal (suc n) rest ps (omega arith) e behind)

within_more : (z : ℤ) → IsWithin 32768 z → IsWithin 65536 z
within_more (pos n) fits = omega arith
within_more (negsuc n) fits = omega arith

below_within : (z : ℤ) → IsBelow 65536 z → IsWithin 65536 z
below_within (pos n) fits = fits
below_within (negsuc n) fits = absurd fits

register : (z : ℤ) (rest : List ℕ) (ps : List Piece) → IsBelow 32 z → is_end rest ≡ true → Shows rest ps → Shows (register_text z ++ rest) (register_piece z ∷ ps)
register (pos n) rest ps fits e behind = shows_register n rest ps fits e behind
register (negsuc n) rest ps fits e behind = absurd fits

register_or_zero : (z : ℤ) (rest : List ℕ) (ps : List Piece) → IsBelow 32 z → is_end rest ≡ true → Shows rest ps → Shows (register_or_zero_text z ++ rest) (register_or_zero_piece z ∷ ps)
register_or_zero (pos zero) rest ps fits e behind = shows_zero rest ps e behind
register_or_zero (pos (suc n)) rest ps fits e behind = shows_register (suc n) rest ps fits e behind
register_or_zero (negsuc n) rest ps fits e behind = absurd fits

distance : (z : ℤ) (rest : List ℕ) (ps : List Piece) → IsWithin 33554432 z → is_end rest ≡ true → Shows rest ps → Shows (distance_text z ++ rest) (distance_pieces z ++ ps)
distance (pos n) rest ps fits e behind = dot_plus (decimal n ++ rest) _ (plus (decimal n ++ rest) _ (shows_decimal n rest ps (omega arith) e behind))
distance (negsuc n) rest ps fits e behind = dot_minus (decimal (suc n) ++ rest) _ (minus (decimal (suc n) ++ rest) _ (shows_decimal (suc n) rest ps (omega arith) e behind))

modulo_fits : (z : ℤ) → modulo 64 z < 2 ^ 64
modulo_fits (pos n) = omega arith
modulo_fits (negsuc n) = omega arith

target : (is_absolute : Bool) (z : ℤ) (rest : List ℕ) (ps : List Piece) → IsWithin 33554432 z → is_end rest ≡ true → Shows rest ps → Shows (target_text is_absolute z ++ rest) (target_pieces is_absolute z ++ ps)
target true z rest ps fits e behind = shows_decimal (modulo 64 z) rest ps (modulo_fits z) e behind
target false z rest ps fits e behind = distance z rest ps fits e behind

-- a displacement and a register in brackets
in_brackets : (front register rest : List ℕ) → front ++ codes "(" ++ register ++ codes ")" ++ rest ≡ front ++ (40 ∷ (register ++ 41 ∷ rest))
in_brackets front register rest = simp append_assoc

displacement : (z : ℤ) (register rest : List ℕ) (piece : Piece) (ps : List Piece) → IsWithin 32768 z
    → (Shows (41 ∷ rest) (pieces.Sign signs.Close ∷ ps) → Shows (register ++ 41 ∷ rest) (piece ∷ pieces.Sign signs.Close ∷ ps))
    → Shows rest ps → Shows (displacement_text z register ++ rest) (displacement_pieces z piece ++ ps)
displacement z register rest piece ps fits shows behind =
    rw (in_brackets (signed_decimal z) register rest, append_assoc (signed_pieces z) (pieces.Sign signs.Open ∷ piece ∷ pieces.Sign signs.Close ∷ []) ps)
    (signed z (40 ∷ (register ++ 41 ∷ rest)) (pieces.Sign signs.Open ∷ piece ∷ pieces.Sign signs.Close ∷ ps) (within_more z fits) refl
    (opening (register ++ 41 ∷ rest) (piece ∷ pieces.Sign signs.Close ∷ ps) (shows (closing rest ps behind))))

-- an operand before other bytes
operand : (is_absolute : Bool) (kind : OperandText) (vs : List ℤ) (rest : List ℕ) (ps : List Piece) → FitsKind kind vs → is_end rest ≡ true → Shows rest ps → Shows (operand_text is_absolute kind vs ++ rest) (operand_pieces is_absolute kind vs ++ ps)
operand is_absolute (texts.Register field) vs rest ps fits e behind = register (value_at vs 0) rest ps fits e behind
operand is_absolute (texts.RegisterOrZero field) vs rest ps fits e behind = register_or_zero (value_at vs 0) rest ps fits e behind
operand is_absolute (texts.Number field) vs rest ps fits e behind = signed (value_at vs 0) rest ps (below_within (value_at vs 0) fits) e behind
operand is_absolute (texts.Signed field) vs rest ps fits e behind = signed (value_at vs 0) rest ps (within_more (value_at vs 0) fits) e behind
operand is_absolute texts.Displacement vs rest ps fits e behind =
    displacement (value_at vs 0) (register_text (value_at vs 1)) rest (register_piece (value_at vs 1)) ps fits.0
    (λ closed. register (value_at vs 1) (41 ∷ rest) (pieces.Sign signs.Close ∷ ps) fits.1 refl closed) behind
operand is_absolute texts.DisplacementOrZero vs rest ps fits e behind =
    displacement (value_at vs 0) (register_or_zero_text (value_at vs 1)) rest (register_or_zero_piece (value_at vs 1)) ps fits.0
    (λ closed. register_or_zero (value_at vs 1) (41 ∷ rest) (pieces.Sign signs.Close ∷ ps) fits.1 refl closed) behind
operand is_absolute (texts.Target field) vs rest ps fits e behind = target is_absolute (value_at vs 0) rest ps fits e behind

-- what stands behind an operand ends it
later_end : (is_absolute : Bool) (kinds : List OperandText) (vs : List ℤ) → is_end (operands_text is_absolute 44 kinds vs) ≡ true
later_end is_absolute [] vs = refl
later_end is_absolute (kind ∷ kinds) vs = refl

later : (is_absolute : Bool) (kinds : List OperandText) (vs : List ℤ) → FitKinds kinds vs → Shows (operands_text is_absolute 44 kinds vs) (later_pieces is_absolute kinds vs)
later is_absolute [] vs fits = shows_nothing
later is_absolute (kind ∷ kinds) vs fits =
    let behind : List ℕ = operands_text is_absolute 44 kinds (drop (value_count kind) vs) in
    let ps : List Piece = later_pieces is_absolute kinds (drop (value_count kind) vs) in
    comma (operand_text is_absolute kind vs ++ behind) (operand_pieces is_absolute kind vs ++ ps)
    (operand is_absolute kind vs behind ps fits.0 (later_end is_absolute kinds (drop (value_count kind) vs)) (later is_absolute kinds (drop (value_count kind) vs) fits.1))

first_end : (is_absolute : Bool) (kinds : List OperandText) (vs : List ℤ) → is_end (operands_text is_absolute 32 kinds vs) ≡ true
first_end is_absolute [] vs = refl
first_end is_absolute (kind ∷ kinds) vs = refl

operands : (is_absolute : Bool) (kinds : List OperandText) (vs : List ℤ) → FitKinds kinds vs → Shows (operands_text is_absolute 32 kinds vs) (operands_pieces is_absolute kinds vs)
operands is_absolute [] vs fits = shows_nothing
operands is_absolute (kind ∷ kinds) vs fits =
    let behind : List ℕ = operands_text is_absolute 44 kinds (drop (value_count kind) vs) in
    let ps : List Piece = later_pieces is_absolute kinds (drop (value_count kind) vs) in
    shows_space (operand_text is_absolute kind vs ++ behind) (operand_pieces is_absolute kind vs ++ ps)
    (operand is_absolute kind vs behind ps fits.0 (later_end is_absolute kinds (drop (value_count kind) vs)) (later is_absolute kinds (drop (value_count kind) vs) fits.1))

-- the pieces of a form's text, where the values fit its operands
pub form_read : (m : Mnemonic) (vs : List ℤ) → takes_marks m ≡ true → FitKinds (operand_texts m.op) vs → line_pieces (form_text m vs) ≡ Some (form_pieces m vs)
form_read m vs takes fits =
    shows_mnemonic m (operands_text m.aa 32 (operand_texts m.op) vs) (operands_pieces m.aa (operand_texts m.op) vs) takes
    (first_end m.aa (operand_texts m.op) vs) (operands m.aa (operand_texts m.op) vs fits)
