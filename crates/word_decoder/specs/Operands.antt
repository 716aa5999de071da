-- Written by tools/make_tables.py from docs/INSTRUCTIONS.md.
-- The operands of each layout, by the bits of the word, bit 0 the highest of 32.
use Rattle.std.specs.Prelude.{ℕ, ◌+◌, ◌*◌, ◌^◌, Bool, false, if◌then◌else◌, pos}
use Rattle.ppc_bits.specs.Bits.{field_of, is_set, signed_of}
use Rattle.ppc_ops.specs.declared.op.Op.{Op}
use Rattle.ppc_ops.specs.declared.insn.Insn.{Insn}
use Rattle.ppc_ops.specs.declared.insn.Insn.TheVariants as insn
use Rattle.ppc_ops.specs.declared.insn.Layout.{Layout}
use Rattle.ppc_ops.specs.declared.insn.Layout.TheVariants as layout
use Rattle.ppc_ops.specs.Classes.{compares_unsigned, has_one_source, scales_displacement, seeks_any_byte, shifts_words, turns_by_register}

-- the bits from a to b
abbrev pub bits : ℕ → ℕ → ℕ → ℕ
bits word a b = field_of 32 word a b

-- bit i is 1
abbrev pub flag : ℕ → ℕ → Bool
flag word i = is_set 32 word i

-- a number followed by n more bits
abbrev pub followed : ℕ → ℕ → ℕ → ℕ
followed high n low = high * 2 ^ n + low

-- the form of an operation of this layout that the word has
abbrev pub operands_of : Layout → Op → ℕ → Insn
operands_of layout.AddImm op word = insn.AddImm op (bits word 6 10) (bits word 11 15) (signed_of 16 (bits word 16 31))
operands_of layout.AddPc op word = insn.AddPc (bits word 6 10) (signed_of 16 (followed (followed (bits word 16 25) 5 (bits word 11 15)) 1 (bits word 31 31)))
operands_of layout.Arith op word = insn.Arith op (bits word 6 10) (bits word 11 15) (if has_one_source op then 0 else bits word 16 20) (flag word 21) (flag word 31)
operands_of layout.MulHigh op word = insn.MulHigh op (bits word 6 10) (bits word 11 15) (bits word 16 20) (flag word 31)
operands_of layout.Modulo op word = insn.Modulo op (bits word 6 10) (bits word 11 15) (bits word 16 20)
operands_of layout.MulAdd op word = insn.MulAdd op (bits word 6 10) (bits word 11 15) (bits word 16 20) (bits word 21 25)
operands_of layout.LogicImm op word = insn.LogicImm op (bits word 11 15) (bits word 6 10) (bits word 16 31)
operands_of layout.Logic op word = insn.Logic op (bits word 11 15) (bits word 6 10) (bits word 16 20) (flag word 31)
operands_of layout.Unary op word = insn.Unary op (bits word 11 15) (bits word 6 10) (flag word 31)
operands_of layout.Count op word = insn.Count op (bits word 11 15) (bits word 6 10)
operands_of layout.Bytes op word = insn.Bytes op (bits word 11 15) (bits word 6 10) (bits word 16 20)
operands_of layout.ShiftImm op word = insn.ShiftImm op (bits word 11 15) (bits word 6 10) (if shifts_words op then bits word 16 20 else followed (bits word 30 30) 5 (bits word 16 20)) (flag word 31)
operands_of layout.RotWord op word = insn.RotWord op (bits word 11 15) (bits word 6 10) (bits word 16 20) (bits word 21 25) (bits word 26 30) (flag word 31)
operands_of layout.RotDouble op word = insn.RotDouble op (bits word 11 15) (bits word 6 10) (if turns_by_register op then bits word 16 20 else followed (bits word 30 30) 5 (bits word 16 20)) (followed (bits word 26 26) 5 (bits word 21 25)) (flag word 31)
operands_of layout.Select op word = insn.Select (bits word 6 10) (bits word 11 15) (bits word 16 20) (bits word 21 25)
operands_of layout.CmpImm op word = insn.CmpImm op (bits word 6 8) (flag word 10) (bits word 11 15) (if compares_unsigned op then pos (bits word 16 31) else signed_of 16 (bits word 16 31))
operands_of layout.Cmp op word = insn.Cmp op (bits word 6 8) (flag word 10) (bits word 11 15) (bits word 16 20)
operands_of layout.CmpByte op word = insn.CmpByte op (bits word 6 8) (if seeks_any_byte op then false else flag word 10) (bits word 11 15) (bits word 16 20)
operands_of layout.SetB op word = insn.SetB (bits word 6 10) (bits word 11 13)
operands_of layout.TrapImm op word = insn.TrapImm op (bits word 6 10) (bits word 11 15) (signed_of 16 (bits word 16 31))
operands_of layout.Trap op word = insn.Trap op (bits word 6 10) (bits word 11 15) (bits word 16 20)
operands_of layout.Jump op word = insn.Jump (signed_of 26 (followed (bits word 6 29) 2 0)) (flag word 30) (flag word 31)
operands_of layout.Branch op word = insn.Branch (bits word 6 10) (bits word 11 15) (signed_of 16 (followed (bits word 16 29) 2 0)) (flag word 30) (flag word 31)
operands_of layout.BranchReg op word = insn.BranchReg op (bits word 6 10) (bits word 11 15) (flag word 31)
operands_of layout.CrBit op word = insn.CrBit op (bits word 6 10) (bits word 11 15) (bits word 16 20)
operands_of layout.CrMove op word = insn.CrMove (bits word 6 8) (bits word 11 13)
operands_of layout.MoveXer op word = insn.MoveXer (bits word 6 8)
operands_of layout.MfCr op word = insn.MfCr (bits word 6 10)
operands_of layout.MfOneCr op word = insn.MfOneCr (bits word 6 10) (bits word 12 19)
operands_of layout.MtCr op word = insn.MtCr (bits word 6 10) (bits word 12 19)
operands_of layout.MtOneCr op word = insn.MtOneCr (bits word 6 10) (bits word 12 19)
operands_of layout.Access op word = insn.Access op (bits word 6 10) (bits word 11 15) (if scales_displacement op then signed_of 16 (followed (bits word 16 29) 2 0) else signed_of 16 (bits word 16 31))
operands_of layout.AccessX op word = insn.AccessX op (bits word 6 10) (bits word 11 15) (bits word 16 20)
operands_of layout.Block op word = insn.Block op (bits word 11 15) (bits word 16 20)
operands_of layout.MfSpr op word = insn.MfSpr (bits word 6 10) (followed (bits word 16 20) 5 (bits word 11 15))
operands_of layout.MtSpr op word = insn.MtSpr (bits word 6 10) (followed (bits word 16 20) 5 (bits word 11 15))
operands_of layout.MfTb op word = insn.MfTb (bits word 6 10) (followed (bits word 16 20) 5 (bits word 11 15))
operands_of layout.MfMsr op word = insn.MfMsr (bits word 6 10)
operands_of layout.MtMsr op word = insn.MtMsr op (bits word 6 10) (flag word 15)
operands_of layout.Sync op word = insn.Sync (bits word 9 10)
operands_of layout.Eieio op word = insn.Eieio
operands_of layout.TlbSync op word = insn.TlbSync
operands_of layout.Inval op word = insn.Inval op (bits word 16 20) (bits word 6 10) (bits word 12 13) (flag word 14) (flag word 15)
operands_of layout.Message op word = insn.Message op (bits word 16 20)
operands_of layout.Isync op word = insn.Isync
operands_of layout.Rfid op word = insn.Rfid
operands_of layout.Hrfid op word = insn.Hrfid
operands_of layout.Sc op word = insn.Sc (bits word 26 26)
