-- The laws.
use Rattle.std.proofs.Common.{◌≡◌, ℕ, ◌+◌, ◌%◌, ◌^◌, ◌<◌, Bool, true, false, cond, ltb, eqb, List, [], ◌++◌, Option, Some, None, ℤ, pos, refl, sym, ap, ◌∙◌, arith, subst}
use Rattle.std.specs.Prelude.{codes, option_and_then, ◌+ℤ◌}
use Rattle.std.proofs.lemmas.Bool.Decides.{nat_tests}
use Rattle.line_text.specs.Text.{hex}
use Rattle.ppc_ops.specs.declared.op.Op.{Op}
use Rattle.ppc_ops.specs.declared.insn.Insn.{Insn}
use Rattle.ppc_ops.specs.Forms.{IsForm, is_invalid}
use Rattle.ppc_ops.specs.Table.{layout_of}
use Rattle.ppc_ops.proofs.Apart.{some_same}
use Rattle.word_decoder.specs.declared.decoded.Decoded.{Decoded}
use Rattle.word_decoder.specs.declared.decoded.Decoded.TheVariants.{Form, Zero, InvalidForm, Unsupported}
use Rattle.word_decoder.specs.Decode.{decoded_of, decoded_as}
use Rattle.word_decoder.specs.Find.{op_at}
use Rattle.word_decoder.specs.Operands.{operands_of}
use Rattle.ppc_decode.specs.Encode.{word_for}
use Rattle.ppc_decode.proofs.Whole.{encoded, decoded_again}
use Rattle.operand_texts.specs.declared.mnemonic.Mnemonic.{Mnemonic}
use Rattle.operand_texts.specs.Mnemonics.{takes_marks}
use Rattle.operand_texts.specs.Operands.{operand_texts}
use Rattle.asm_statements.specs.declared.statement.Statement.{Statement}
use Rattle.asm_statements.specs.declared.statement.Statement.TheVariants as statements
use Rattle.asm_statements.specs.Mnemonics.{mnemonic_of}
use Rattle.asm_statements.specs.Statements.{line_of}
use Rattle.asm_places.specs.Names.{Definition}
use Rattle.asm_places.specs.Places.{here_of}
use Rattle.asm_places.specs.declared.places.Places.{Places}
use Rattle.asm_contents.specs.declared.content.Content.TheVariants as contents
use Rattle.asm_statements.specs.declared.statement.Width.TheVariants as widths
use Rattle.asm_contents.specs.Contents.{data_content}
use Rattle.asm_contents.specs.Values.{line_word}
use Rattle.ppc_disasm.specs.Forms as forms
use Rattle.ppc_disasm.specs.Texts.{mnemonic_text, insn_text}
use Rattle.ppc_disasm.specs.Words.{decoded_text, word_text}
use Rattle.ppc_disasm.proofs.LayoutsFit.{values_fit}
use Rattle.text_laws.specs.Reading.{unlabelled, statement_of_text, known_content, text_content}
use Rattle.text_laws.specs.Laws.{without_ignored}
use Rattle.text_laws.proofs.LayoutsRead.{marks_taken}
use Rattle.text_laws.proofs.Names.{names_read}
use Rattle.text_laws.proofs.ShownOperands.{shown_operands}
use Rattle.text_laws.proofs.OperandsWorth.{operands_known}
use Rattle.text_laws.proofs.Stated.{text_stated, text_worth}
use Rattle.text_laws.proofs.WordsFit.{words_fit}
use Rattle.text_laws.proofs.WordRead.{word_read}

pub names_differ : (m n : Mnemonic) → takes_marks m ≡ true → takes_marks n ≡ true → mnemonic_text m ≡ mnemonic_text n → m ≡ n
names_differ m n f g same = some_same m n (sym (names_read m f) ∙ ap mnemonic_of same ∙ names_read n g)

-- the statement of a form
abbrev instruction_of : Insn → Statement
instruction_of i = statements.Instruction (forms.mnemonic_of i) (shown_operands (forms.mnemonic_of i).aa (operand_texts (forms.mnemonic_of i).op) (forms.values_of i))

stated : (i : Insn) → IsForm i → statement_of_text (insn_text i) ≡ Some (instruction_of i)
unfolding insn_text
stated i form = text_stated (forms.mnemonic_of i) (forms.values_of i) (marks_taken i form.0) (values_fit i form.0)

pub texts_assemble : (names : List Definition) (places : Places) (i : Insn) → IsForm i → text_content names places (insn_text i) ≡ Some (contents.Word (word_for i))
texts_assemble names places i form =
    let m = forms.mnemonic_of i in
    ap (option_and_then (known_content names places)) (stated i form)
    ∙ rw (operands_known names m.aa (operand_texts m.op) (forms.values_of i), text_worth names (pos (here_of places)) i form) refl

-- the word of an instruction at address 0
abbrev word_of_statement : Option Statement → Option ℕ
word_of_statement (Some (statements.Instruction m os)) = line_word [] (pos 0) m os
word_of_statement statement = None

word_of_text : (i : Insn) → IsForm i → word_of_statement (statement_of_text (insn_text i)) ≡ Some (word_for i)
word_of_text i form = ap word_of_statement (stated i form) ∙ text_worth [] (pos 0) i form

pub texts_differ : (i j : Insn) → IsForm i → IsForm j → insn_text i ≡ insn_text j → i ≡ j
texts_differ i j f g same =
    let word : word_for i ≡ word_for j = some_same (word_for i) (word_for j) (sym (word_of_text i f) ∙ ap (λ text. word_of_statement (statement_of_text text)) same ∙ word_of_text j g) in
    same_form i j (sym (encoded i f.0 f.1) ∙ ap decoded_of word ∙ encoded j g.0 g.1)
  where
    same_form : (i j : Insn) → Form i ≡ Form j → i ≡ j
    same_form i j e = cc

-- a form that a word means is a form
judged_form : (op : Op) (k i : Insn) (invalid : Bool) → is_invalid k ≡ invalid → cond invalid (InvalidForm op) (Form k) ≡ Form i → (k ≡ i) × (is_invalid k ≡ false)
judged_form op k i true e f = cc
judged_form op k i false e f = let same : k ≡ i = cc in (same, e)

decoded_form : (word : ℕ) (i : Insn) (zero : Bool) (o : Option Op) → cond zero Zero (decoded_as o word) ≡ Form i → IsForm i
decoded_form word i true o e = cc
decoded_form word i false None e = cc
decoded_form word i false (Some op) e =
    let k = operands_of (layout_of op) op word in
    let parts = judged_form op k i (is_invalid k) refl e in
    subst IsForm parts.0 (words_fit (layout_of op) op word refl, parts.1)

is_form : (word : ℕ) (i : Insn) → decoded_of word ≡ Form i → IsForm i
unfolding decoded_of
is_form word i e = decoded_form word i (eqb word 0) (op_at word) e

-- a directive with a word
data_assembles : (names : List Definition) (places : Places) (word : ℕ) → word < 2 ^ 32 → text_content names places (codes ".word 0x" ++ hex 8 word) ≡ Some (contents.Word word)
data_assembles names places word lt =
    ap (λ o. option_and_then (known_content names places) (option_and_then unlabelled (option_and_then line_of o))) (word_read word lt)
    ∙ content (pos word +ℤ pos 0) whole
  where
    whole : pos word +ℤ pos 0 ≡ pos word
    whole = let same : word + 0 ≡ word = omega arith in ap pos same

    content : (z : ℤ) → z ≡ pos word → data_content widths.Word z ≡ Some (contents.Word word)
    content z e =
        let fits : ltb word (2 ^ 32) ≡ true = grind (arith, nat_tests) in
        let low : word % 2 ^ 32 ≡ word = omega arith in
        ap (data_content widths.Word) e ∙ rw (fits, low) refl

pub words_assemble : (names : List Definition) (places : Places) (word : ℕ) → word < 2 ^ 32 → text_content names places (word_text word) ≡ Some (contents.Word (without_ignored word (decoded_of word)))
unfolding word_text
words_assemble names places word lt = by (decoded_of word) refl
  where
    by : (d : Decoded) → decoded_of word ≡ d → text_content names places (decoded_text word d) ≡ Some (contents.Word (without_ignored word d))
    by (Form i) e = texts_assemble names places i (is_form word i e) ∙ ap (λ n. Some (contents.Word n)) (decoded_again word i e)
    by Zero e = data_assembles names places word lt
    by (InvalidForm op) e = data_assembles names places word lt
    by Unsupported e = data_assembles names places word lt
