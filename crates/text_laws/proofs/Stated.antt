-- A form's text is one statement, and that statement has the form's word.
use Rattle.std.proofs.Common.{◌≡◌, ℕ, zero, suc, Bool, true, false, List, [], ◌∷◌, ◌++◌, drop, Some, None, ℤ, pos, negsuc, refl, ap, ◌∙◌}
use Rattle.std.specs.Prelude.{option_and_then, option_map}
use Rattle.ppc_ops.specs.declared.insn.Insn.{Insn}
use Rattle.ppc_ops.specs.Forms.{IsForm}
use Rattle.ppc_decode.specs.Encode.{word_for}
use Rattle.operand_texts.specs.declared.kinds.OperandText.{OperandText}
use Rattle.operand_texts.specs.declared.kinds.OperandText.TheVariants as texts
use Rattle.operand_texts.specs.declared.mnemonic.Mnemonic.{Mnemonic}
use Rattle.operand_texts.specs.Mnemonics.{takes_marks}
use Rattle.operand_texts.specs.Operands.{operand_texts}
use Rattle.asm_statements.specs.declared.piece.Piece.{Piece}
use Rattle.asm_statements.specs.declared.piece.Piece.TheVariants as pieces
use Rattle.asm_statements.specs.declared.operand.Operand.{Operand}
use Rattle.asm_statements.specs.declared.statement.Statement.TheVariants as statements
use Rattle.asm_statements.specs.Mnemonics.{mnemonic_of}
use Rattle.asm_statements.specs.Operands.{operands_of}
use Rattle.asm_statements.specs.Statements.{directive_of, instruction_in, statement_by, statement_of, with_statement, behind_label, line_of}
use Rattle.asm_places.specs.Names.{Definition}
use Rattle.asm_forms.specs.Words.{word_of, where_valid}
use Rattle.asm_contents.specs.Values.{line_word}
use Rattle.ppc_disasm.specs.Forms as forms
use Rattle.ppc_disasm.specs.Forms.{values_of}
use Rattle.ppc_disasm.specs.Texts.{mnemonic_text, value_at, value_count, form_text}
use Rattle.ppc_disasm.proofs.Fitting.{FitKinds}
use Rattle.ppc_disasm.proofs.LayoutsFit.{values_fit}
use Rattle.text_laws.specs.Reading.{unlabelled, statement_of_text}
use Rattle.text_laws.proofs.Shapes.{register_piece, register_or_zero_piece, signed_pieces, displacement_pieces, target_pieces, operand_pieces, later_pieces, operands_pieces}
use Rattle.text_laws.proofs.ShownOperands.{shown_operands}
use Rattle.text_laws.proofs.OperandsRead.{operands_read}
use Rattle.text_laws.proofs.OperandsWorth.{operands_worth}
use Rattle.text_laws.proofs.Names.{names_read, no_directive}
use Rattle.text_laws.proofs.LayoutsRead.{values_read}
use Rattle.text_laws.proofs.FormRead.{form_read}

-- what a word before these pieces begins is no label
abbrev HasNoLabel : List ℕ → List Piece → Type 0
HasNoLabel word ps = line_of (pieces.Word word ∷ ps) ≡ behind_label None (pieces.Word word ∷ ps)

register_or_zero-first : (word : List ℕ) (z : ℤ) (ps : List Piece) → HasNoLabel word (register_or_zero_piece z ∷ ps)
register_or_zero-first word (pos zero) ps = refl
register_or_zero-first word (pos (suc n)) ps = refl
register_or_zero-first word (negsuc n) ps = refl

signed-first : (word : List ℕ) (z : ℤ) (ps : List Piece) → HasNoLabel word (signed_pieces z ++ ps)
signed-first word (pos n) ps = refl
signed-first word (negsuc n) ps = refl

displacement-first : (word : List ℕ) (z : ℤ) (register : Piece) (ps : List Piece) → HasNoLabel word (displacement_pieces z register ++ ps)
displacement-first word (pos n) register ps = refl
displacement-first word (negsuc n) register ps = refl

target-first : (word : List ℕ) (is_absolute : Bool) (z : ℤ) (ps : List Piece) → HasNoLabel word (target_pieces is_absolute z ++ ps)
target-first word true z ps = refl
target-first word false (pos n) ps = refl
target-first word false (negsuc n) ps = refl

operand-first : (word : List ℕ) (is_absolute : Bool) (kind : OperandText) (vs : List ℤ) (ps : List Piece) → HasNoLabel word (operand_pieces is_absolute kind vs ++ ps)
operand-first word is_absolute (texts.Register field) vs ps = refl
operand-first word is_absolute (texts.RegisterOrZero field) vs ps = register_or_zero-first word (value_at vs 0) ps
operand-first word is_absolute (texts.Number field) vs ps = signed-first word (value_at vs 0) ps
operand-first word is_absolute (texts.Signed field) vs ps = signed-first word (value_at vs 0) ps
operand-first word is_absolute texts.Displacement vs ps = displacement-first word (value_at vs 0) (register_piece (value_at vs 1)) ps
operand-first word is_absolute texts.DisplacementOrZero vs ps = displacement-first word (value_at vs 0) (register_or_zero_piece (value_at vs 1)) ps
operand-first word is_absolute (texts.Target field) vs ps = target-first word is_absolute (value_at vs 0) ps

-- no operand begins with a colon
no_label : (word : List ℕ) (is_absolute : Bool) (kinds : List OperandText) (vs : List ℤ) → HasNoLabel word (operands_pieces is_absolute kinds vs)
no_label word is_absolute [] vs = refl
no_label word is_absolute (kind ∷ kinds) vs = operand-first word is_absolute kind vs (later_pieces is_absolute kinds (drop (value_count kind) vs))

-- a word that names an operation, with its operands behind it, is an instruction
instruction : (m : Mnemonic) (word : List ℕ) (ps : List Piece) (os : List Operand) → directive_of word ≡ None → mnemonic_of word ≡ Some m
    → operands_of (operand_texts m.op) ps ≡ Some os → statement_of (pieces.Word word ∷ ps) ≡ Some (statements.Instruction m os)
instruction m word ps os none named read =
    ap (λ d. statement_by d word ps) none
    ∙ ap (option_and_then (instruction_in ps)) named
    ∙ ap (option_map (λ found. statements.Instruction m found)) read

-- the statement of a form's text
pub text_stated : (m : Mnemonic) (vs : List ℤ) → takes_marks m ≡ true → FitKinds (operand_texts m.op) vs
    → statement_of_text (form_text m vs) ≡ Some (statements.Instruction m (shown_operands m.aa (operand_texts m.op) vs))
text_stated m vs taken fit =
    let kinds = operand_texts m.op in
    let ps = operands_pieces m.aa kinds vs in
    let stated = instruction m (mnemonic_text m) ps (shown_operands m.aa kinds vs) (no_directive m) (names_read m taken) (operands_read m.aa kinds vs fit) in
    ap (λ o. option_and_then unlabelled (option_and_then line_of o)) (form_read m vs taken fit)
    ∙ ap (option_and_then unlabelled) (no_label (mnemonic_text m) m.aa kinds vs ∙ ap (option_map (with_statement None)) stated)

-- the word of that statement, at any address and among any names
pub text_worth : (names : List Definition) (here : ℤ) (i : Insn) → IsForm i → line_word names here (forms.mnemonic_of i) (shown_operands (forms.mnemonic_of i).aa (operand_texts (forms.mnemonic_of i).op) (values_of i)) ≡ Some (word_for i)
text_worth names here i form =
    let m = forms.mnemonic_of i in
    ap (option_and_then (word_of m)) (operands_worth names here m.aa (operand_texts m.op) (values_of i) (values_fit i form.0))
    ∙ ap (option_and_then where_valid) (values_read i form.0)
    ∙ rw form.1 refl
