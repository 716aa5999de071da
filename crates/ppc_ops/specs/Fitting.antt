-- Written by tools/make_tables.py from docs/INSTRUCTIONS.md.
-- Which instructions have an operation of their layout, and operands that fit their fields.
use Rattle.std.specs.Prelude.{◌≡◌, ℕ, ◌<◌, ◌^◌, Bool, true, false, ◌&&◌, if◌then◌else◌, ℤ, pos}
use Rattle.ppc_bits.specs.Bits.{signed_of, modulo}
use Rattle.ppc_ops.specs.declared.insn.Insn.{Insn}
use Rattle.ppc_ops.specs.declared.insn.Insn.TheVariants as insn
use Rattle.ppc_ops.specs.declared.insn.Layout.TheVariants as layout
use Rattle.ppc_ops.specs.Classes.{compares_unsigned, has_one_source, scales_displacement, seeks_any_byte, shifts_words, turns_by_register}
use Rattle.ppc_ops.specs.Table.{layout_of}

-- a signed number of k bits: it is the number that its own low k bits stand for
abbrev pub IsSigned : ℕ → ℤ → Type 0
IsSigned k z = signed_of k (modulo k z) ≡ z

-- a signed number of k bits whose two lowest are 0
abbrev pub IsSignedMultiple : ℕ → ℤ → Type 0
IsSignedMultiple k z = IsSigned k z × (modulo 2 z ≡ 0)

-- a displacement, where it is scaled a multiple of 4
abbrev pub IsDisplacement : Bool → ℤ → Type 0
IsDisplacement true z = IsSignedMultiple 16 z
IsDisplacement false z = IsSigned 16 z

-- an immediate of 16 bits, signed or not, that is compared
abbrev pub IsCompared : Bool → ℤ → Type 0
IsCompared true z = pos (modulo 16 z) ≡ z
IsCompared false z = IsSigned 16 z

-- the operation is one of the layout's, and each operand fits its field
abbrev pub FitsFields : Insn → Type 0
FitsFields (insn.AddImm op rt ra si) = (layout_of op ≡ layout.AddImm) × (rt < 2 ^ 5) × (ra < 2 ^ 5) × IsSigned 16 si
FitsFields (insn.AddPc rt d) = (rt < 2 ^ 5) × IsSigned 16 d
FitsFields (insn.Arith op rt ra rb oe rc) = (layout_of op ≡ layout.Arith) × (rt < 2 ^ 5) × (ra < 2 ^ 5) × (rb < 2 ^ (if has_one_source op then 0 else 5))
FitsFields (insn.MulHigh op rt ra rb rc) = (layout_of op ≡ layout.MulHigh) × (rt < 2 ^ 5) × (ra < 2 ^ 5) × (rb < 2 ^ 5)
FitsFields (insn.Modulo op rt ra rb) = (layout_of op ≡ layout.Modulo) × (rt < 2 ^ 5) × (ra < 2 ^ 5) × (rb < 2 ^ 5)
FitsFields (insn.MulAdd op rt ra rb third) = (layout_of op ≡ layout.MulAdd) × (rt < 2 ^ 5) × (ra < 2 ^ 5) × (rb < 2 ^ 5) × (third < 2 ^ 5)
FitsFields (insn.LogicImm op ra rs ui) = (layout_of op ≡ layout.LogicImm) × (ra < 2 ^ 5) × (rs < 2 ^ 5) × (ui < 2 ^ 16)
FitsFields (insn.Logic op ra rs rb rc) = (layout_of op ≡ layout.Logic) × (ra < 2 ^ 5) × (rs < 2 ^ 5) × (rb < 2 ^ 5)
FitsFields (insn.Unary op ra rs rc) = (layout_of op ≡ layout.Unary) × (ra < 2 ^ 5) × (rs < 2 ^ 5)
FitsFields (insn.Count op ra rs) = (layout_of op ≡ layout.Count) × (ra < 2 ^ 5) × (rs < 2 ^ 5)
FitsFields (insn.Bytes op ra rs rb) = (layout_of op ≡ layout.Bytes) × (ra < 2 ^ 5) × (rs < 2 ^ 5) × (rb < 2 ^ 5)
FitsFields (insn.ShiftImm op ra rs sh rc) = (layout_of op ≡ layout.ShiftImm) × (ra < 2 ^ 5) × (rs < 2 ^ 5) × (sh < 2 ^ (if shifts_words op then 5 else 6))
FitsFields (insn.RotWord op ra rs by mb me rc) = (layout_of op ≡ layout.RotWord) × (ra < 2 ^ 5) × (rs < 2 ^ 5) × (by < 2 ^ 5) × (mb < 2 ^ 5) × (me < 2 ^ 5)
FitsFields (insn.RotDouble op ra rs by edge rc) = (layout_of op ≡ layout.RotDouble) × (ra < 2 ^ 5) × (rs < 2 ^ 5) × (by < 2 ^ (if turns_by_register op then 5 else 6)) × (edge < 2 ^ 6)
FitsFields (insn.Select rt ra rb bit) = (rt < 2 ^ 5) × (ra < 2 ^ 5) × (rb < 2 ^ 5) × (bit < 2 ^ 5)
FitsFields (insn.CmpImm op bf wide ra value) = (layout_of op ≡ layout.CmpImm) × (bf < 2 ^ 3) × (ra < 2 ^ 5) × IsCompared (compares_unsigned op) value
FitsFields (insn.Cmp op bf wide ra rb) = (layout_of op ≡ layout.Cmp) × (bf < 2 ^ 3) × (ra < 2 ^ 5) × (rb < 2 ^ 5)
FitsFields (insn.CmpByte op bf two ra rb) = (layout_of op ≡ layout.CmpByte) × (bf < 2 ^ 3) × ((seeks_any_byte op && two) ≡ false) × (ra < 2 ^ 5) × (rb < 2 ^ 5)
FitsFields (insn.SetB rt bfa) = (rt < 2 ^ 5) × (bfa < 2 ^ 3)
FitsFields (insn.TrapImm op to ra si) = (layout_of op ≡ layout.TrapImm) × (to < 2 ^ 5) × (ra < 2 ^ 5) × IsSigned 16 si
FitsFields (insn.Trap op to ra rb) = (layout_of op ≡ layout.Trap) × (to < 2 ^ 5) × (ra < 2 ^ 5) × (rb < 2 ^ 5)
FitsFields (insn.Jump li aa lk) = IsSignedMultiple 26 li
FitsFields (insn.Branch bo bi bd aa lk) = (bo < 2 ^ 5) × (bi < 2 ^ 5) × IsSignedMultiple 16 bd
FitsFields (insn.BranchReg op bo bi lk) = (layout_of op ≡ layout.BranchReg) × (bo < 2 ^ 5) × (bi < 2 ^ 5)
FitsFields (insn.CrBit op bt ba bb) = (layout_of op ≡ layout.CrBit) × (bt < 2 ^ 5) × (ba < 2 ^ 5) × (bb < 2 ^ 5)
FitsFields (insn.CrMove bf bfa) = (bf < 2 ^ 3) × (bfa < 2 ^ 3)
FitsFields (insn.MoveXer bf) = (bf < 2 ^ 3)
FitsFields (insn.MfCr rt) = (rt < 2 ^ 5)
FitsFields (insn.MfOneCr rt fxm) = (rt < 2 ^ 5) × (fxm < 2 ^ 8)
FitsFields (insn.MtCr rs fxm) = (rs < 2 ^ 5) × (fxm < 2 ^ 8)
FitsFields (insn.MtOneCr rs fxm) = (rs < 2 ^ 5) × (fxm < 2 ^ 8)
FitsFields (insn.Access op rt ra disp) = (layout_of op ≡ layout.Access) × (rt < 2 ^ 5) × (ra < 2 ^ 5) × IsDisplacement (scales_displacement op) disp
FitsFields (insn.AccessX op rt ra rb) = (layout_of op ≡ layout.AccessX) × (rt < 2 ^ 5) × (ra < 2 ^ 5) × (rb < 2 ^ 5)
FitsFields (insn.Block op ra rb) = (layout_of op ≡ layout.Block) × (ra < 2 ^ 5) × (rb < 2 ^ 5)
FitsFields (insn.MfSpr rt spr) = (rt < 2 ^ 5) × (spr < 2 ^ 10)
FitsFields (insn.MtSpr rs spr) = (rs < 2 ^ 5) × (spr < 2 ^ 10)
FitsFields (insn.MfTb rt spr) = (rt < 2 ^ 5) × (spr < 2 ^ 10)
FitsFields (insn.MfMsr rt) = (rt < 2 ^ 5)
FitsFields (insn.MtMsr op rs l) = (layout_of op ≡ layout.MtMsr) × (rs < 2 ^ 5)
FitsFields (insn.Sync l) = (l < 2 ^ 2)
FitsFields insn.Eieio = Unit {0}
FitsFields insn.TlbSync = Unit {0}
FitsFields (insn.Inval op rb rs ric prs r) = (layout_of op ≡ layout.Inval) × (rb < 2 ^ 5) × (rs < 2 ^ 5) × (ric < 2 ^ 2)
FitsFields (insn.Message op rb) = (layout_of op ≡ layout.Message) × (rb < 2 ^ 5)
FitsFields insn.Isync = Unit {0}
FitsFields insn.Rfid = Unit {0}
FitsFields insn.Hrfid = Unit {0}
FitsFields (insn.Sc lev) = (lev < 2 ^ 1)
