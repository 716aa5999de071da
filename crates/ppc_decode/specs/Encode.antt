-- Written by tools/make_tables.py from docs/INSTRUCTIONS.md.
-- The word of a form, bit 0 the highest of 32.
use Rattle.std.specs.Prelude.{ℕ, ◌+◌, ◌/◌, ◌%◌, ◌^◌, if◌then◌else◌, List, [], ◌∷◌}
use Rattle.std.specs.Int.{from_bool}
use Rattle.ppc_bits.specs.Bits.{modulo}
use Rattle.ppc_ops.specs.declared.op.Op.{Op}
use Rattle.ppc_ops.specs.declared.op.Op.TheVariants.{Addpcis, Isel, Setb, B, Bc, Mcrf, Mcrxrx, Mfcr, Mfocrf, Mtcrf, Mtocrf, Mfspr, Mtspr, Mftb, Mfmsr, Sync, Eieio, Tlbsync, Isync, Rfid, Hrfid, Sc}
use Rattle.ppc_ops.specs.declared.insn.Insn.{Insn}
use Rattle.ppc_ops.specs.declared.insn.Insn.TheVariants as insn
use Rattle.ppc_ops.specs.Classes.{has_one_source, scales_displacement, seeks_any_byte, shifts_words, turns_by_register}
use Rattle.ppc_ops.specs.Rows.{Fixed, at, mask_of, value_of}
use Rattle.ppc_ops.specs.Table.{op_row}

-- the operation of a form
abbrev pub insn_op : Insn → Op
insn_op (insn.AddImm op rt ra si) = op
insn_op (insn.AddPc rt d) = Addpcis
insn_op (insn.Arith op rt ra rb oe rc) = op
insn_op (insn.MulHigh op rt ra rb rc) = op
insn_op (insn.Modulo op rt ra rb) = op
insn_op (insn.MulAdd op rt ra rb third) = op
insn_op (insn.LogicImm op ra rs ui) = op
insn_op (insn.Logic op ra rs rb rc) = op
insn_op (insn.Unary op ra rs rc) = op
insn_op (insn.Count op ra rs) = op
insn_op (insn.Bytes op ra rs rb) = op
insn_op (insn.ShiftImm op ra rs sh rc) = op
insn_op (insn.RotWord op ra rs by mb me rc) = op
insn_op (insn.RotDouble op ra rs by edge rc) = op
insn_op (insn.Select rt ra rb bit) = Isel
insn_op (insn.CmpImm op bf wide ra value) = op
insn_op (insn.Cmp op bf wide ra rb) = op
insn_op (insn.CmpByte op bf two ra rb) = op
insn_op (insn.SetB rt bfa) = Setb
insn_op (insn.TrapImm op to ra si) = op
insn_op (insn.Trap op to ra rb) = op
insn_op (insn.Jump li aa lk) = B
insn_op (insn.Branch bo bi bd aa lk) = Bc
insn_op (insn.BranchReg op bo bi lk) = op
insn_op (insn.CrBit op bt ba bb) = op
insn_op (insn.CrMove bf bfa) = Mcrf
insn_op (insn.MoveXer bf) = Mcrxrx
insn_op (insn.MfCr rt) = Mfcr
insn_op (insn.MfOneCr rt fxm) = Mfocrf
insn_op (insn.MtCr rs fxm) = Mtcrf
insn_op (insn.MtOneCr rs fxm) = Mtocrf
insn_op (insn.Access op rt ra disp) = op
insn_op (insn.AccessX op rt ra rb) = op
insn_op (insn.Block op ra rb) = op
insn_op (insn.MfSpr rt spr) = Mfspr
insn_op (insn.MtSpr rs spr) = Mtspr
insn_op (insn.MfTb rt spr) = Mftb
insn_op (insn.MfMsr rt) = Mfmsr
insn_op (insn.MtMsr op rs l) = op
insn_op (insn.Sync l) = Sync
insn_op insn.Eieio = Eieio
insn_op insn.TlbSync = Tlbsync
insn_op (insn.Inval op rb rs ric prs r) = op
insn_op (insn.Message op rb) = op
insn_op insn.Isync = Isync
insn_op insn.Rfid = Rfid
insn_op insn.Hrfid = Hrfid
insn_op (insn.Sc lev) = Sc

-- the fields of a form's word, with the numbers that stand in them
abbrev pub fields_of : Insn → List Fixed
fields_of (insn.AddImm op rt ra si) = at 6 10 rt ∷ at 11 15 ra ∷ at 16 31 (modulo 16 si) ∷ []
fields_of (insn.AddPc rt d) = at 6 10 rt ∷ at 16 25 (modulo 16 d / 2 ^ 6) ∷ at 11 15 (modulo 16 d / 2 % 2 ^ 5) ∷ at 31 31 (modulo 16 d % 2) ∷ []
fields_of (insn.Arith op rt ra rb oe rc) = at 6 10 rt ∷ at 11 15 ra ∷ at 21 21 (from_bool oe) ∷ at 31 31 (from_bool rc) ∷ (if has_one_source op then [] else at 16 20 rb ∷ [])
fields_of (insn.MulHigh op rt ra rb rc) = at 6 10 rt ∷ at 11 15 ra ∷ at 16 20 rb ∷ at 31 31 (from_bool rc) ∷ []
fields_of (insn.Modulo op rt ra rb) = at 6 10 rt ∷ at 11 15 ra ∷ at 16 20 rb ∷ []
fields_of (insn.MulAdd op rt ra rb third) = at 6 10 rt ∷ at 11 15 ra ∷ at 16 20 rb ∷ at 21 25 third ∷ []
fields_of (insn.LogicImm op ra rs ui) = at 11 15 ra ∷ at 6 10 rs ∷ at 16 31 ui ∷ []
fields_of (insn.Logic op ra rs rb rc) = at 11 15 ra ∷ at 6 10 rs ∷ at 16 20 rb ∷ at 31 31 (from_bool rc) ∷ []
fields_of (insn.Unary op ra rs rc) = at 11 15 ra ∷ at 6 10 rs ∷ at 31 31 (from_bool rc) ∷ []
fields_of (insn.Count op ra rs) = at 11 15 ra ∷ at 6 10 rs ∷ []
fields_of (insn.Bytes op ra rs rb) = at 11 15 ra ∷ at 6 10 rs ∷ at 16 20 rb ∷ []
fields_of (insn.ShiftImm op ra rs sh rc) = at 11 15 ra ∷ at 6 10 rs ∷ at 31 31 (from_bool rc) ∷ (if shifts_words op then at 16 20 sh ∷ [] else at 30 30 (sh / 2 ^ 5) ∷ at 16 20 (sh % 2 ^ 5) ∷ [])
fields_of (insn.RotWord op ra rs by mb me rc) = at 11 15 ra ∷ at 6 10 rs ∷ at 16 20 by ∷ at 21 25 mb ∷ at 26 30 me ∷ at 31 31 (from_bool rc) ∷ []
fields_of (insn.RotDouble op ra rs by edge rc) = at 11 15 ra ∷ at 6 10 rs ∷ at 26 26 (edge / 2 ^ 5) ∷ at 21 25 (edge % 2 ^ 5) ∷ at 31 31 (from_bool rc) ∷ (if turns_by_register op then at 16 20 by ∷ [] else at 30 30 (by / 2 ^ 5) ∷ at 16 20 (by % 2 ^ 5) ∷ [])
fields_of (insn.Select rt ra rb bit) = at 6 10 rt ∷ at 11 15 ra ∷ at 16 20 rb ∷ at 21 25 bit ∷ []
fields_of (insn.CmpImm op bf wide ra value) = at 6 8 bf ∷ at 10 10 (from_bool wide) ∷ at 11 15 ra ∷ at 16 31 (modulo 16 value) ∷ []
fields_of (insn.Cmp op bf wide ra rb) = at 6 8 bf ∷ at 10 10 (from_bool wide) ∷ at 11 15 ra ∷ at 16 20 rb ∷ []
fields_of (insn.CmpByte op bf two ra rb) = at 6 8 bf ∷ at 11 15 ra ∷ at 16 20 rb ∷ (if seeks_any_byte op then [] else at 10 10 (from_bool two) ∷ [])
fields_of (insn.SetB rt bfa) = at 6 10 rt ∷ at 11 13 bfa ∷ []
fields_of (insn.TrapImm op to ra si) = at 6 10 to ∷ at 11 15 ra ∷ at 16 31 (modulo 16 si) ∷ []
fields_of (insn.Trap op to ra rb) = at 6 10 to ∷ at 11 15 ra ∷ at 16 20 rb ∷ []
fields_of (insn.Jump li aa lk) = at 6 29 (modulo 26 li / 2 ^ 2) ∷ at 30 30 (from_bool aa) ∷ at 31 31 (from_bool lk) ∷ []
fields_of (insn.Branch bo bi bd aa lk) = at 6 10 bo ∷ at 11 15 bi ∷ at 16 29 (modulo 16 bd / 2 ^ 2) ∷ at 30 30 (from_bool aa) ∷ at 31 31 (from_bool lk) ∷ []
fields_of (insn.BranchReg op bo bi lk) = at 6 10 bo ∷ at 11 15 bi ∷ at 31 31 (from_bool lk) ∷ []
fields_of (insn.CrBit op bt ba bb) = at 6 10 bt ∷ at 11 15 ba ∷ at 16 20 bb ∷ []
fields_of (insn.CrMove bf bfa) = at 6 8 bf ∷ at 11 13 bfa ∷ []
fields_of (insn.MoveXer bf) = at 6 8 bf ∷ []
fields_of (insn.MfCr rt) = at 6 10 rt ∷ []
fields_of (insn.MfOneCr rt fxm) = at 6 10 rt ∷ at 12 19 fxm ∷ []
fields_of (insn.MtCr rs fxm) = at 6 10 rs ∷ at 12 19 fxm ∷ []
fields_of (insn.MtOneCr rs fxm) = at 6 10 rs ∷ at 12 19 fxm ∷ []
fields_of (insn.Access op rt ra disp) = at 6 10 rt ∷ at 11 15 ra ∷ (if scales_displacement op then at 16 29 (modulo 16 disp / 2 ^ 2) ∷ [] else at 16 31 (modulo 16 disp) ∷ [])
fields_of (insn.AccessX op rt ra rb) = at 6 10 rt ∷ at 11 15 ra ∷ at 16 20 rb ∷ []
fields_of (insn.Block op ra rb) = at 11 15 ra ∷ at 16 20 rb ∷ []
fields_of (insn.MfSpr rt spr) = at 6 10 rt ∷ at 16 20 (spr / 2 ^ 5) ∷ at 11 15 (spr % 2 ^ 5) ∷ []
fields_of (insn.MtSpr rs spr) = at 6 10 rs ∷ at 16 20 (spr / 2 ^ 5) ∷ at 11 15 (spr % 2 ^ 5) ∷ []
fields_of (insn.MfTb rt spr) = at 6 10 rt ∷ at 16 20 (spr / 2 ^ 5) ∷ at 11 15 (spr % 2 ^ 5) ∷ []
fields_of (insn.MfMsr rt) = at 6 10 rt ∷ []
fields_of (insn.MtMsr op rs l) = at 6 10 rs ∷ at 15 15 (from_bool l) ∷ []
fields_of (insn.Sync l) = at 9 10 l ∷ []
fields_of insn.Eieio = []
fields_of insn.TlbSync = []
fields_of (insn.Inval op rb rs ric prs r) = at 16 20 rb ∷ at 6 10 rs ∷ at 12 13 ric ∷ at 14 14 (from_bool prs) ∷ at 15 15 (from_bool r) ∷ []
fields_of (insn.Message op rb) = at 16 20 rb ∷ []
fields_of insn.Isync = []
fields_of insn.Rfid = []
fields_of insn.Hrfid = []
fields_of (insn.Sc lev) = at 26 26 lev ∷ []

-- the word of a form: the fixed bits of its operation's row, its fields, and zeros elsewhere
unfoldable pub word_for : Insn → ℕ
word_for i = (op_row (insn_op i)).value + value_of (fields_of i)

-- ones in the bits that the row of a form fixes and in those of its fields; all others are ignored
unfoldable pub used_of : Insn → ℕ
used_of i = (op_row (insn_op i)).mask + mask_of (fields_of i)
