-- The text of an instruction.
use Rattle.std.specs.Prelude.{ℕ, zero, suc, Bool, true, false, List, [], ◌∷◌, ◌++◌, codes, drop, get_or, ℤ, pos, negsuc}
use Rattle.std.specs.Fmt.{decimal, signed_decimal}
use Rattle.ppc_bits.specs.Bits.{modulo}
use Rattle.ppc_ops.specs.declared.insn.Insn.{Insn}
use Rattle.ppc_ops.specs.Table.{name_of}
use Rattle.operand_texts.specs.declared.kinds.OperandText.{OperandText}
use Rattle.operand_texts.specs.declared.kinds.OperandText.TheVariants as texts
use Rattle.operand_texts.specs.declared.mnemonic.Mnemonic.{Mnemonic}
use Rattle.operand_texts.specs.Operands.{operand_texts}
use Rattle.ppc_disasm.specs.Forms.{mnemonic_of, values_of}

-- a text, where it is to stand there
abbrev pub where_set : Bool → List ℕ → List ℕ
where_set true text = text
where_set false text = []

-- the name of an operation with its marks: `o` and then `.`, or `l` and then `a`
abbrev pub mnemonic_text : Mnemonic → List ℕ
mnemonic_text m = name_of m.op ++ where_set m.oe (codes "o") ++ where_set m.rc (codes ".") ++ where_set m.lk (codes "l") ++ where_set m.aa (codes "a")

-- a general register
abbrev pub register_text : ℤ → List ℕ
register_text z = codes "r" ++ signed_decimal z

-- the same, where 0 stands for register 0
abbrev pub register_or_zero_text : ℤ → List ℕ
register_or_zero_text (pos zero) = codes "0"
register_or_zero_text z = register_text z

-- a displacement, and its register in brackets
abbrev pub displacement_text : ℤ → List ℕ → List ℕ
displacement_text z register = signed_decimal z ++ codes "(" ++ register ++ codes ")"

-- how far a branch goes from its own address
abbrev pub distance_text : ℤ → List ℕ
distance_text (pos n) = codes ".+" ++ decimal n
distance_text (negsuc n) = codes ".-" ++ decimal (suc n)

-- where a branch goes: to an address from 0 to 2^64 - 1, or so far from its own
abbrev pub target_text : Bool → ℤ → List ℕ
target_text true z = decimal (modulo 64 z)
target_text false z = distance_text z

-- the value at a place, counted from 0; there are enough for each operand
abbrev pub value_at : List ℤ → ℕ → ℤ
value_at vs place = get_or vs place (pos 0)

-- an operand of this kind with the first of these values; the register of a displacement is the second of them
abbrev pub operand_text : Bool → OperandText → List ℤ → List ℕ
operand_text is_absolute (texts.Register field) vs = register_text (value_at vs 0)
operand_text is_absolute (texts.RegisterOrZero field) vs = register_or_zero_text (value_at vs 0)
operand_text is_absolute (texts.Number field) vs = signed_decimal (value_at vs 0)
operand_text is_absolute (texts.Signed field) vs = signed_decimal (value_at vs 0)
operand_text is_absolute texts.Displacement vs = displacement_text (value_at vs 0) (register_text (value_at vs 1))
operand_text is_absolute texts.DisplacementOrZero vs = displacement_text (value_at vs 0) (register_or_zero_text (value_at vs 1))
operand_text is_absolute (texts.Target field) vs = target_text is_absolute (value_at vs 0)

-- how many values an operand of this kind has
abbrev pub value_count : OperandText → ℕ
value_count texts.Displacement = 2
value_count texts.DisplacementOrZero = 2
value_count kind = 1

-- operands of these kinds with these values, this byte before the first of them and a comma before each other
abbrev pub operands_text : Bool → ℕ → List OperandText → List ℤ → List ℕ
operands_text is_absolute before [] vs = []
operands_text is_absolute before (kind ∷ kinds) vs = before ∷ operand_text is_absolute kind vs ++ operands_text is_absolute 44 kinds (drop (value_count kind) vs)

-- an operation with its marks, and where it has operands a space and then these with commas between them
abbrev pub form_text : Mnemonic → List ℤ → List ℕ
form_text m vs = mnemonic_text m ++ operands_text m.aa 32 (operand_texts m.op) vs

-- the text of an instruction, as the assembler reads it
unfoldable pub insn_text : Insn → List ℕ
insn_text i = form_text (mnemonic_of i) (values_of i)
