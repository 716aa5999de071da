-- Written by tools/make_tables.py from docs/INSTRUCTIONS.md.
-- What stands in the text of each form.
use Rattle.std.specs.Prelude.{ℤ, pos, List, [], ◌∷◌, false}
use Rattle.std.specs.Int.{from_bool}
use Rattle.ppc_ops.specs.declared.op.Op.TheVariants.{Addpcis, Isel, Setb, B, Bc, Mcrf, Mcrxrx, Mfcr, Mfocrf, Mtcrf, Mtocrf, Mfspr, Mtspr, Mftb, Mfmsr, Sync, Eieio, Tlbsync, Isync, Rfid, Hrfid, Sc}
use Rattle.ppc_ops.specs.declared.insn.Insn.{Insn}
use Rattle.ppc_ops.specs.declared.insn.Insn.TheVariants as insn
use Rattle.operand_texts.specs.declared.mnemonic.Mnemonic.{Mnemonic}
use Rattle.operand_texts.specs.Mnemonics.{marked, unmarked}

-- the operation of a form, with its marks
abbrev pub mnemonic_of : Insn → Mnemonic
mnemonic_of (insn.AddImm op rt ra si) = unmarked op
mnemonic_of (insn.AddPc rt d) = unmarked Addpcis
mnemonic_of (insn.Arith op rt ra rb oe rc) = marked op oe rc false false
mnemonic_of (insn.MulHigh op rt ra rb rc) = marked op false rc false false
mnemonic_of (insn.Modulo op rt ra rb) = unmarked op
mnemonic_of (insn.MulAdd op rt ra rb third) = unmarked op
mnemonic_of (insn.LogicImm op ra rs ui) = unmarked op
mnemonic_of (insn.Logic op ra rs rb rc) = marked op false rc false false
mnemonic_of (insn.Unary op ra rs rc) = marked op false rc false false
mnemonic_of (insn.Count op ra rs) = unmarked op
mnemonic_of (insn.Bytes op ra rs rb) = unmarked op
mnemonic_of (insn.ShiftImm op ra rs sh rc) = marked op false rc false false
mnemonic_of (insn.RotWord op ra rs by mb me rc) = marked op false rc false false
mnemonic_of (insn.RotDouble op ra rs by edge rc) = marked op false rc false false
mnemonic_of (insn.Select rt ra rb bit) = unmarked Isel
mnemonic_of (insn.CmpImm op bf wide ra value) = unmarked op
mnemonic_of (insn.Cmp op bf wide ra rb) = unmarked op
mnemonic_of (insn.CmpByte op bf two ra rb) = unmarked op
mnemonic_of (insn.SetB rt bfa) = unmarked Setb
mnemonic_of (insn.TrapImm op to ra si) = unmarked op
mnemonic_of (insn.Trap op to ra rb) = unmarked op
mnemonic_of (insn.Jump li aa lk) = marked B false false lk aa
mnemonic_of (insn.Branch bo bi bd aa lk) = marked Bc false false lk aa
mnemonic_of (insn.BranchReg op bo bi lk) = marked op false false lk false
mnemonic_of (insn.CrBit op bt ba bb) = unmarked op
mnemonic_of (insn.CrMove bf bfa) = unmarked Mcrf
mnemonic_of (insn.MoveXer bf) = unmarked Mcrxrx
mnemonic_of (insn.MfCr rt) = unmarked Mfcr
mnemonic_of (insn.MfOneCr rt fxm) = unmarked Mfocrf
mnemonic_of (insn.MtCr rs fxm) = unmarked Mtcrf
mnemonic_of (insn.MtOneCr rs fxm) = unmarked Mtocrf
mnemonic_of (insn.Access op rt ra disp) = unmarked op
mnemonic_of (insn.AccessX op rt ra rb) = unmarked op
mnemonic_of (insn.Block op ra rb) = unmarked op
mnemonic_of (insn.MfSpr rt spr) = unmarked Mfspr
mnemonic_of (insn.MtSpr rs spr) = unmarked Mtspr
mnemonic_of (insn.MfTb rt spr) = unmarked Mftb
mnemonic_of (insn.MfMsr rt) = unmarked Mfmsr
mnemonic_of (insn.MtMsr op rs l) = unmarked op
mnemonic_of (insn.Sync l) = unmarked Sync
mnemonic_of insn.Eieio = unmarked Eieio
mnemonic_of insn.TlbSync = unmarked Tlbsync
mnemonic_of (insn.Inval op rb rs ric prs r) = unmarked op
mnemonic_of (insn.Message op rb) = unmarked op
mnemonic_of insn.Isync = unmarked Isync
mnemonic_of insn.Rfid = unmarked Rfid
mnemonic_of insn.Hrfid = unmarked Hrfid
mnemonic_of (insn.Sc lev) = unmarked Sc

-- The values of a form's operands in the order in which they stand in text, the register of a displacement behind it.
-- What no operand of the operation stands for comes last.
abbrev pub values_of : Insn → List ℤ
values_of (insn.AddImm op rt ra si) = pos rt ∷ pos ra ∷ si ∷ []
values_of (insn.AddPc rt d) = pos rt ∷ d ∷ []
values_of (insn.Arith op rt ra rb oe rc) = pos rt ∷ pos ra ∷ pos rb ∷ []
values_of (insn.MulHigh op rt ra rb rc) = pos rt ∷ pos ra ∷ pos rb ∷ []
values_of (insn.Modulo op rt ra rb) = pos rt ∷ pos ra ∷ pos rb ∷ []
values_of (insn.MulAdd op rt ra rb third) = pos rt ∷ pos ra ∷ pos rb ∷ pos third ∷ []
values_of (insn.LogicImm op ra rs ui) = pos ra ∷ pos rs ∷ pos ui ∷ []
values_of (insn.Logic op ra rs rb rc) = pos ra ∷ pos rs ∷ pos rb ∷ []
values_of (insn.Unary op ra rs rc) = pos ra ∷ pos rs ∷ []
values_of (insn.Count op ra rs) = pos ra ∷ pos rs ∷ []
values_of (insn.Bytes op ra rs rb) = pos ra ∷ pos rs ∷ pos rb ∷ []
values_of (insn.ShiftImm op ra rs sh rc) = pos ra ∷ pos rs ∷ pos sh ∷ []
values_of (insn.RotWord op ra rs by mb me rc) = pos ra ∷ pos rs ∷ pos by ∷ pos mb ∷ pos me ∷ []
values_of (insn.RotDouble op ra rs by edge rc) = pos ra ∷ pos rs ∷ pos by ∷ pos edge ∷ []
values_of (insn.Select rt ra rb bit) = pos rt ∷ pos ra ∷ pos rb ∷ pos bit ∷ []
values_of (insn.CmpImm op bf wide ra value) = pos bf ∷ pos (from_bool wide) ∷ pos ra ∷ value ∷ []
values_of (insn.Cmp op bf wide ra rb) = pos bf ∷ pos (from_bool wide) ∷ pos ra ∷ pos rb ∷ []
values_of (insn.CmpByte op bf two ra rb) = pos bf ∷ pos (from_bool two) ∷ pos ra ∷ pos rb ∷ []
values_of (insn.SetB rt bfa) = pos rt ∷ pos bfa ∷ []
values_of (insn.TrapImm op to ra si) = pos to ∷ pos ra ∷ si ∷ []
values_of (insn.Trap op to ra rb) = pos to ∷ pos ra ∷ pos rb ∷ []
values_of (insn.Jump li aa lk) = li ∷ []
values_of (insn.Branch bo bi bd aa lk) = pos bo ∷ pos bi ∷ bd ∷ []
values_of (insn.BranchReg op bo bi lk) = pos bo ∷ pos bi ∷ []
values_of (insn.CrBit op bt ba bb) = pos bt ∷ pos ba ∷ pos bb ∷ []
values_of (insn.CrMove bf bfa) = pos bf ∷ pos bfa ∷ []
values_of (insn.MoveXer bf) = pos bf ∷ []
values_of (insn.MfCr rt) = pos rt ∷ []
values_of (insn.MfOneCr rt fxm) = pos rt ∷ pos fxm ∷ []
values_of (insn.MtCr rs fxm) = pos rs ∷ pos fxm ∷ []
values_of (insn.MtOneCr rs fxm) = pos rs ∷ pos fxm ∷ []
values_of (insn.Access op rt ra disp) = pos rt ∷ disp ∷ pos ra ∷ []
values_of (insn.AccessX op rt ra rb) = pos rt ∷ pos ra ∷ pos rb ∷ []
values_of (insn.Block op ra rb) = pos ra ∷ pos rb ∷ []
values_of (insn.MfSpr rt spr) = pos rt ∷ pos spr ∷ []
values_of (insn.MtSpr rs spr) = pos spr ∷ pos rs ∷ []
values_of (insn.MfTb rt spr) = pos rt ∷ pos spr ∷ []
values_of (insn.MfMsr rt) = pos rt ∷ []
values_of (insn.MtMsr op rs l) = pos rs ∷ pos (from_bool l) ∷ []
values_of (insn.Sync l) = pos l ∷ []
values_of insn.Eieio = []
values_of insn.TlbSync = []
values_of (insn.Inval op rb rs ric prs r) = pos rb ∷ pos rs ∷ pos ric ∷ pos (from_bool prs) ∷ pos (from_bool r) ∷ []
values_of (insn.Message op rb) = pos rb ∷ []
values_of insn.Isync = []
values_of insn.Rfid = []
values_of insn.Hrfid = []
values_of (insn.Sc lev) = pos lev ∷ []
