-- Written by tools/make_tables.py from docs/INSTRUCTIONS.md.
-- The form of each layout that marks and the values of operands in text make.
use Rattle.std.specs.Prelude.{ℤ, List, Option, Some, if◌then◌else◌}
use Rattle.ppc_ops.specs.declared.insn.Insn.{Insn}
use Rattle.ppc_ops.specs.declared.insn.Insn.TheVariants as insn
use Rattle.ppc_ops.specs.declared.insn.Layout.{Layout}
use Rattle.ppc_ops.specs.declared.insn.Layout.TheVariants as layout
use Rattle.ppc_ops.specs.Classes.{compares_unsigned, has_one_source, scales_displacement, seeks_any_byte, shifts_words, turns_by_register}
use Rattle.operand_texts.specs.declared.mnemonic.Mnemonic.{Mnemonic}
use Rattle.asm_forms.specs.Values.{value_at, number_of, signed_number, signed_multiple, displacement, compared, flag, flag_unless, ◌>>=◌}

-- the form of this layout, with the value of each field in the place where the field stands in text
abbrev pub form_by : Layout → Mnemonic → List ℤ → Option Insn
form_by layout.AddImm m vs = number_of 5 (value_at vs 0) >>= λ rt. number_of 5 (value_at vs 1) >>= λ ra. signed_number 16 (value_at vs 2) >>= λ si. Some (insn.AddImm m.op rt ra si)
form_by layout.AddPc m vs = number_of 5 (value_at vs 0) >>= λ rt. signed_number 16 (value_at vs 1) >>= λ d. Some (insn.AddPc rt d)
form_by layout.Arith m vs = number_of 5 (value_at vs 0) >>= λ rt. number_of 5 (value_at vs 1) >>= λ ra. number_of (if has_one_source m.op then 0 else 5) (value_at vs 2) >>= λ rb. Some (insn.Arith m.op rt ra rb m.oe m.rc)
form_by layout.MulHigh m vs = number_of 5 (value_at vs 0) >>= λ rt. number_of 5 (value_at vs 1) >>= λ ra. number_of 5 (value_at vs 2) >>= λ rb. Some (insn.MulHigh m.op rt ra rb m.rc)
form_by layout.Modulo m vs = number_of 5 (value_at vs 0) >>= λ rt. number_of 5 (value_at vs 1) >>= λ ra. number_of 5 (value_at vs 2) >>= λ rb. Some (insn.Modulo m.op rt ra rb)
form_by layout.MulAdd m vs = number_of 5 (value_at vs 0) >>= λ rt. number_of 5 (value_at vs 1) >>= λ ra. number_of 5 (value_at vs 2) >>= λ rb. number_of 5 (value_at vs 3) >>= λ third. Some (insn.MulAdd m.op rt ra rb third)
form_by layout.LogicImm m vs = number_of 5 (value_at vs 0) >>= λ ra. number_of 5 (value_at vs 1) >>= λ rs. number_of 16 (value_at vs 2) >>= λ ui. Some (insn.LogicImm m.op ra rs ui)
form_by layout.Logic m vs = number_of 5 (value_at vs 0) >>= λ ra. number_of 5 (value_at vs 1) >>= λ rs. number_of 5 (value_at vs 2) >>= λ rb. Some (insn.Logic m.op ra rs rb m.rc)
form_by layout.Unary m vs = number_of 5 (value_at vs 0) >>= λ ra. number_of 5 (value_at vs 1) >>= λ rs. Some (insn.Unary m.op ra rs m.rc)
form_by layout.Count m vs = number_of 5 (value_at vs 0) >>= λ ra. number_of 5 (value_at vs 1) >>= λ rs. Some (insn.Count m.op ra rs)
form_by layout.Bytes m vs = number_of 5 (value_at vs 0) >>= λ ra. number_of 5 (value_at vs 1) >>= λ rs. number_of 5 (value_at vs 2) >>= λ rb. Some (insn.Bytes m.op ra rs rb)
form_by layout.ShiftImm m vs = number_of 5 (value_at vs 0) >>= λ ra. number_of 5 (value_at vs 1) >>= λ rs. number_of (if shifts_words m.op then 5 else 6) (value_at vs 2) >>= λ sh. Some (insn.ShiftImm m.op ra rs sh m.rc)
form_by layout.RotWord m vs = number_of 5 (value_at vs 0) >>= λ ra. number_of 5 (value_at vs 1) >>= λ rs. number_of 5 (value_at vs 2) >>= λ by. number_of 5 (value_at vs 3) >>= λ mb. number_of 5 (value_at vs 4) >>= λ me. Some (insn.RotWord m.op ra rs by mb me m.rc)
form_by layout.RotDouble m vs = number_of 5 (value_at vs 0) >>= λ ra. number_of 5 (value_at vs 1) >>= λ rs. number_of (if turns_by_register m.op then 5 else 6) (value_at vs 2) >>= λ by. number_of 6 (value_at vs 3) >>= λ edge. Some (insn.RotDouble m.op ra rs by edge m.rc)
form_by layout.Select m vs = number_of 5 (value_at vs 0) >>= λ rt. number_of 5 (value_at vs 1) >>= λ ra. number_of 5 (value_at vs 2) >>= λ rb. number_of 5 (value_at vs 3) >>= λ bit. Some (insn.Select rt ra rb bit)
form_by layout.CmpImm m vs = number_of 3 (value_at vs 0) >>= λ bf. flag (value_at vs 1) >>= λ wide. number_of 5 (value_at vs 2) >>= λ ra. compared (compares_unsigned m.op) (value_at vs 3) >>= λ value. Some (insn.CmpImm m.op bf wide ra value)
form_by layout.Cmp m vs = number_of 3 (value_at vs 0) >>= λ bf. flag (value_at vs 1) >>= λ wide. number_of 5 (value_at vs 2) >>= λ ra. number_of 5 (value_at vs 3) >>= λ rb. Some (insn.Cmp m.op bf wide ra rb)
form_by layout.CmpByte m vs = number_of 3 (value_at vs 0) >>= λ bf. flag_unless (seeks_any_byte m.op) (value_at vs 1) >>= λ two. number_of 5 (value_at vs 2) >>= λ ra. number_of 5 (value_at vs 3) >>= λ rb. Some (insn.CmpByte m.op bf two ra rb)
form_by layout.SetB m vs = number_of 5 (value_at vs 0) >>= λ rt. number_of 3 (value_at vs 1) >>= λ bfa. Some (insn.SetB rt bfa)
form_by layout.TrapImm m vs = number_of 5 (value_at vs 0) >>= λ to. number_of 5 (value_at vs 1) >>= λ ra. signed_number 16 (value_at vs 2) >>= λ si. Some (insn.TrapImm m.op to ra si)
form_by layout.Trap m vs = number_of 5 (value_at vs 0) >>= λ to. number_of 5 (value_at vs 1) >>= λ ra. number_of 5 (value_at vs 2) >>= λ rb. Some (insn.Trap m.op to ra rb)
form_by layout.Jump m vs = signed_multiple 26 (value_at vs 0) >>= λ li. Some (insn.Jump li m.aa m.lk)
form_by layout.Branch m vs = number_of 5 (value_at vs 0) >>= λ bo. number_of 5 (value_at vs 1) >>= λ bi. signed_multiple 16 (value_at vs 2) >>= λ bd. Some (insn.Branch bo bi bd m.aa m.lk)
form_by layout.BranchReg m vs = number_of 5 (value_at vs 0) >>= λ bo. number_of 5 (value_at vs 1) >>= λ bi. Some (insn.BranchReg m.op bo bi m.lk)
form_by layout.CrBit m vs = number_of 5 (value_at vs 0) >>= λ bt. number_of 5 (value_at vs 1) >>= λ ba. number_of 5 (value_at vs 2) >>= λ bb. Some (insn.CrBit m.op bt ba bb)
form_by layout.CrMove m vs = number_of 3 (value_at vs 0) >>= λ bf. number_of 3 (value_at vs 1) >>= λ bfa. Some (insn.CrMove bf bfa)
form_by layout.MoveXer m vs = number_of 3 (value_at vs 0) >>= λ bf. Some (insn.MoveXer bf)
form_by layout.MfCr m vs = number_of 5 (value_at vs 0) >>= λ rt. Some (insn.MfCr rt)
form_by layout.MfOneCr m vs = number_of 5 (value_at vs 0) >>= λ rt. number_of 8 (value_at vs 1) >>= λ fxm. Some (insn.MfOneCr rt fxm)
form_by layout.MtCr m vs = number_of 5 (value_at vs 0) >>= λ rs. number_of 8 (value_at vs 1) >>= λ fxm. Some (insn.MtCr rs fxm)
form_by layout.MtOneCr m vs = number_of 5 (value_at vs 0) >>= λ rs. number_of 8 (value_at vs 1) >>= λ fxm. Some (insn.MtOneCr rs fxm)
form_by layout.Access m vs = number_of 5 (value_at vs 0) >>= λ rt. number_of 5 (value_at vs 2) >>= λ ra. displacement (scales_displacement m.op) (value_at vs 1) >>= λ disp. Some (insn.Access m.op rt ra disp)
form_by layout.AccessX m vs = number_of 5 (value_at vs 0) >>= λ rt. number_of 5 (value_at vs 1) >>= λ ra. number_of 5 (value_at vs 2) >>= λ rb. Some (insn.AccessX m.op rt ra rb)
form_by layout.Block m vs = number_of 5 (value_at vs 0) >>= λ ra. number_of 5 (value_at vs 1) >>= λ rb. Some (insn.Block m.op ra rb)
form_by layout.MfSpr m vs = number_of 5 (value_at vs 0) >>= λ rt. number_of 10 (value_at vs 1) >>= λ spr. Some (insn.MfSpr rt spr)
form_by layout.MtSpr m vs = number_of 5 (value_at vs 1) >>= λ rs. number_of 10 (value_at vs 0) >>= λ spr. Some (insn.MtSpr rs spr)
form_by layout.MfTb m vs = number_of 5 (value_at vs 0) >>= λ rt. number_of 10 (value_at vs 1) >>= λ spr. Some (insn.MfTb rt spr)
form_by layout.MfMsr m vs = number_of 5 (value_at vs 0) >>= λ rt. Some (insn.MfMsr rt)
form_by layout.MtMsr m vs = number_of 5 (value_at vs 0) >>= λ rs. flag (value_at vs 1) >>= λ l. Some (insn.MtMsr m.op rs l)
form_by layout.Sync m vs = number_of 2 (value_at vs 0) >>= λ l. Some (insn.Sync l)
form_by layout.Eieio m vs = Some insn.Eieio
form_by layout.TlbSync m vs = Some insn.TlbSync
form_by layout.Inval m vs = number_of 5 (value_at vs 0) >>= λ rb. number_of 5 (value_at vs 1) >>= λ rs. number_of 2 (value_at vs 2) >>= λ ric. flag (value_at vs 3) >>= λ prs. flag (value_at vs 4) >>= λ r. Some (insn.Inval m.op rb rs ric prs r)
form_by layout.Message m vs = number_of 5 (value_at vs 0) >>= λ rb. Some (insn.Message m.op rb)
form_by layout.Isync m vs = Some insn.Isync
form_by layout.Rfid m vs = Some insn.Rfid
form_by layout.Hrfid m vs = Some insn.Hrfid
form_by layout.Sc m vs = number_of 1 (value_at vs 0) >>= λ lev. Some (insn.Sc lev)
