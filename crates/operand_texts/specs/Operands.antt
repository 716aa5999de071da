-- Written by tools/make_tables.py from docs/INSTRUCTIONS.md.
-- How the operands of each operation stand in text, by the layout and, in some layouts, by a class of operations.
use Rattle.std.specs.Prelude.{List, [], ◌∷◌, Bool, true, false, ◌||◌, if◌then◌else◌}
use Rattle.ppc_ops.specs.declared.op.Op.{Op}
use Rattle.ppc_ops.specs.declared.op.Op.TheVariants.{Rlwnm}
use Rattle.ppc_ops.specs.declared.insn.Layout.{Layout}
use Rattle.ppc_ops.specs.declared.insn.Layout.TheVariants as layout
use Rattle.ppc_ops.specs.Classes.{compares_unsigned, has_one_source, loads_with_update, stores_with_update, takes_zero, turns_by_register}
use Rattle.ppc_ops.specs.Table.{layout_of}
use Rattle.operand_texts.specs.declared.fields.Field.TheVariants.{Rt, Ra, Si, D, Rb, Third, Rs, Ui, Sh, By, Mb, Me, Edge, Bit, Bf, Wide, Value, Two, Bfa, To, Li, Bo, Bi, Bd, Bt, Ba, Bb, Fxm, Spr, L, Ric, Prs, R, Lev}
use Rattle.operand_texts.specs.declared.kinds.OperandText.{OperandText}
use Rattle.operand_texts.specs.declared.kinds.OperandText.TheVariants.{DisplacementOrZero, Displacement, Number, RegisterOrZero, Register, Signed, Target}

-- the operation is rlwnm
abbrev pub is_rlwnm : Op → Bool
is_rlwnm Rlwnm = true
is_rlwnm op = false

-- the operands of an operation of this layout in text
abbrev pub layout_texts : Layout → Op → List OperandText
layout_texts layout.AddImm op = if takes_zero op then Register Rt ∷ RegisterOrZero Ra ∷ Signed Si ∷ [] else Register Rt ∷ Register Ra ∷ Signed Si ∷ []
layout_texts layout.AddPc op = Register Rt ∷ Signed D ∷ []
layout_texts layout.Arith op = if has_one_source op then Register Rt ∷ Register Ra ∷ [] else Register Rt ∷ Register Ra ∷ Register Rb ∷ []
layout_texts layout.MulHigh op = Register Rt ∷ Register Ra ∷ Register Rb ∷ []
layout_texts layout.Modulo op = Register Rt ∷ Register Ra ∷ Register Rb ∷ []
layout_texts layout.MulAdd op = Register Rt ∷ Register Ra ∷ Register Rb ∷ Register Third ∷ []
layout_texts layout.LogicImm op = Register Ra ∷ Register Rs ∷ Number Ui ∷ []
layout_texts layout.Logic op = Register Ra ∷ Register Rs ∷ Register Rb ∷ []
layout_texts layout.Unary op = Register Ra ∷ Register Rs ∷ []
layout_texts layout.Count op = Register Ra ∷ Register Rs ∷ []
layout_texts layout.Bytes op = Register Ra ∷ Register Rs ∷ Register Rb ∷ []
layout_texts layout.ShiftImm op = Register Ra ∷ Register Rs ∷ Number Sh ∷ []
layout_texts layout.RotWord op = if is_rlwnm op then Register Ra ∷ Register Rs ∷ Register By ∷ Number Mb ∷ Number Me ∷ [] else Register Ra ∷ Register Rs ∷ Number By ∷ Number Mb ∷ Number Me ∷ []
layout_texts layout.RotDouble op = if turns_by_register op then Register Ra ∷ Register Rs ∷ Register By ∷ Number Edge ∷ [] else Register Ra ∷ Register Rs ∷ Number By ∷ Number Edge ∷ []
layout_texts layout.Select op = Register Rt ∷ RegisterOrZero Ra ∷ Register Rb ∷ Number Bit ∷ []
layout_texts layout.CmpImm op = if compares_unsigned op then Number Bf ∷ Number Wide ∷ Register Ra ∷ Number Value ∷ [] else Number Bf ∷ Number Wide ∷ Register Ra ∷ Signed Value ∷ []
layout_texts layout.Cmp op = Number Bf ∷ Number Wide ∷ Register Ra ∷ Register Rb ∷ []
layout_texts layout.CmpByte op = Number Bf ∷ Number Two ∷ Register Ra ∷ Register Rb ∷ []
layout_texts layout.SetB op = Register Rt ∷ Number Bfa ∷ []
layout_texts layout.TrapImm op = Number To ∷ Register Ra ∷ Signed Si ∷ []
layout_texts layout.Trap op = Number To ∷ Register Ra ∷ Register Rb ∷ []
layout_texts layout.Jump op = Target Li ∷ []
layout_texts layout.Branch op = Number Bo ∷ Number Bi ∷ Target Bd ∷ []
layout_texts layout.BranchReg op = Number Bo ∷ Number Bi ∷ []
layout_texts layout.CrBit op = Number Bt ∷ Number Ba ∷ Number Bb ∷ []
layout_texts layout.CrMove op = Number Bf ∷ Number Bfa ∷ []
layout_texts layout.MoveXer op = Number Bf ∷ []
layout_texts layout.MfCr op = Register Rt ∷ []
layout_texts layout.MfOneCr op = Register Rt ∷ Number Fxm ∷ []
layout_texts layout.MtCr op = Register Rs ∷ Number Fxm ∷ []
layout_texts layout.MtOneCr op = Register Rs ∷ Number Fxm ∷ []
layout_texts layout.Access op = if loads_with_update op || stores_with_update op then Register Rt ∷ Displacement ∷ [] else Register Rt ∷ DisplacementOrZero ∷ []
layout_texts layout.AccessX op = if loads_with_update op || stores_with_update op then Register Rt ∷ Register Ra ∷ Register Rb ∷ [] else Register Rt ∷ RegisterOrZero Ra ∷ Register Rb ∷ []
layout_texts layout.Block op = RegisterOrZero Ra ∷ Register Rb ∷ []
layout_texts layout.MfSpr op = Register Rt ∷ Number Spr ∷ []
layout_texts layout.MtSpr op = Number Spr ∷ Register Rs ∷ []
layout_texts layout.MfTb op = Register Rt ∷ Number Spr ∷ []
layout_texts layout.MfMsr op = Register Rt ∷ []
layout_texts layout.MtMsr op = Register Rs ∷ Number L ∷ []
layout_texts layout.Sync op = Number L ∷ []
layout_texts layout.Eieio op = []
layout_texts layout.TlbSync op = []
layout_texts layout.Inval op = Register Rb ∷ Register Rs ∷ Number Ric ∷ Number Prs ∷ Number R ∷ []
layout_texts layout.Message op = Register Rb ∷ []
layout_texts layout.Isync op = []
layout_texts layout.Rfid op = []
layout_texts layout.Hrfid op = []
layout_texts layout.Sc op = Number Lev ∷ []

-- the operands of an operation in text, in their order
abbrev pub operand_texts : Op → List OperandText
operand_texts op = layout_texts (layout_of op) op
