-- What a word means.
use Rattle.std.specs.Prelude.{ℕ, ◌==◌, if◌then◌else◌, Option, Some, None}
use Rattle.ppc_ops.specs.declared.op.Op.{Op}
use Rattle.ppc_ops.specs.declared.insn.Insn.{Insn}
use Rattle.ppc_ops.specs.Table.{layout_of}
use Rattle.ppc_ops.specs.Forms.{is_invalid, IsForm}
use Rattle.word_decoder.specs.declared.decoded.Decoded.{Decoded}
use Rattle.word_decoder.specs.declared.decoded.Decoded.TheVariants.{Form, Zero, InvalidForm, Unsupported}
use Rattle.word_decoder.specs.Find.{op_at}
use Rattle.word_decoder.specs.Operands.{operands_of}

-- an instruction of this operation, unless its operands are an invalid form
abbrev pub judged : Op → Insn → Decoded
judged op i = if is_invalid i then InvalidForm op else Form i

-- the word as one of this operation, if there is one
abbrev pub decoded_as : Option Op → ℕ → Decoded
decoded_as None word = Unsupported
decoded_as (Some op) word = judged op (operands_of (layout_of op) op word)

-- what a word means: the operation of the row whose fixed bits it has, with the operands in its fields
unfoldable pub decoded_of : ℕ → Decoded
decoded_of word = if word == 0 then Zero else decoded_as (op_at word) word

-- a form that was decoded is a form
abbrev pub IsFormed : Decoded → Type 0
IsFormed (Form i) = IsForm i
IsFormed Zero = Unit {0}
IsFormed (InvalidForm op) = Unit {0}
IsFormed Unsupported = Unit {0}
