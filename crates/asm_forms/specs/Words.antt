-- The form and the word that marks and the values of operands in text make.
use Rattle.std.specs.Prelude.{ℕ, ℤ, List, Option, Some, None, option_and_then, if◌then◌else◌}
use Rattle.ppc_ops.specs.declared.insn.Insn.{Insn}
use Rattle.ppc_ops.specs.Forms.{is_invalid}
use Rattle.ppc_ops.specs.Table.{layout_of}
use Rattle.ppc_decode.specs.Encode.{word_for}
use Rattle.operand_texts.specs.declared.mnemonic.Mnemonic.{Mnemonic}
use Rattle.asm_forms.specs.Layouts.{form_by}

-- the form of an operation with marks, of the values of its operands
abbrev pub form_of : Mnemonic → List ℤ → Option Insn
form_of m vs = form_by (layout_of m.op) m vs

-- the word of a form that is not invalid
abbrev pub where_valid : Insn → Option ℕ
where_valid i = if is_invalid i then None else Some (word_for i)

-- the word of an operation with marks, of the values of its operands
abbrev pub word_of : Mnemonic → List ℤ → Option ℕ
word_of m vs = option_and_then where_valid (form_of m vs)
