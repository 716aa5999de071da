-- Written by tools/make_tables.py from docs/INSTRUCTIONS.md.
-- The operands that stand in a word for each layout fit their fields.
use Rattle.std.proofs.Common.{◌≡◌, ℕ, arith}
use Rattle.ppc_ops.specs.declared.op.Op.{Op}
use Rattle.ppc_ops.specs.declared.insn.Layout.{Layout}
use Rattle.ppc_ops.specs.declared.insn.Layout.TheVariants as layout
use Rattle.ppc_ops.specs.Classes.{compares_unsigned, has_one_source, scales_displacement, seeks_any_byte, shifts_words, turns_by_register}
use Rattle.ppc_ops.specs.Fitting.{FitsFields}
use Rattle.ppc_ops.specs.Table.{layout_of}
use Rattle.word_decoder.specs.Operands.{bits, followed, operands_of}
use Rattle.text_laws.proofs.BitsFit.{source_fits, distance_fits, two_fits, half_fits, branch_fits, jump_fits, displacement_fits, compared_fits}

pub words_fit : (l : Layout) (op : Op) (word : ℕ) → layout_of op ≡ l → FitsFields (operands_of l op word)
words_fit layout.AddImm op word same = (same, omega arith, omega arith, half_fits (bits word 16 31) (omega arith))
words_fit layout.AddPc op word same = (omega arith, half_fits (followed (followed (bits word 16 25) 5 (bits word 11 15)) 1 (bits word 31 31)) (omega arith))
words_fit layout.Arith op word same = (same, omega arith, omega arith, source_fits (has_one_source op) word)
words_fit layout.MulHigh op word same = (same, omega arith, omega arith, omega arith)
words_fit layout.Modulo op word same = (same, omega arith, omega arith, omega arith)
words_fit layout.MulAdd op word same = (same, omega arith, omega arith, omega arith, omega arith)
words_fit layout.LogicImm op word same = (same, omega arith, omega arith, omega arith)
words_fit layout.Logic op word same = (same, omega arith, omega arith, omega arith)
words_fit layout.Unary op word same = (same, omega arith, omega arith)
words_fit layout.Count op word same = (same, omega arith, omega arith)
words_fit layout.Bytes op word same = (same, omega arith, omega arith, omega arith)
words_fit layout.ShiftImm op word same = (same, omega arith, omega arith, distance_fits (shifts_words op) word)
words_fit layout.RotWord op word same = (same, omega arith, omega arith, omega arith, omega arith, omega arith)
words_fit layout.RotDouble op word same = (same, omega arith, omega arith, distance_fits (turns_by_register op) word, omega arith)
words_fit layout.Select op word same = (omega arith, omega arith, omega arith, omega arith)
words_fit layout.CmpImm op word same = (same, omega arith, omega arith, compared_fits (compares_unsigned op) word)
words_fit layout.Cmp op word same = (same, omega arith, omega arith, omega arith)
words_fit layout.CmpByte op word same = (same, omega arith, two_fits (seeks_any_byte op) word, omega arith, omega arith)
words_fit layout.SetB op word same = (omega arith, omega arith)
words_fit layout.TrapImm op word same = (same, omega arith, omega arith, half_fits (bits word 16 31) (omega arith))
words_fit layout.Trap op word same = (same, omega arith, omega arith, omega arith)
words_fit layout.Jump op word same = jump_fits (bits word 6 29) (omega arith)
words_fit layout.Branch op word same = (omega arith, omega arith, branch_fits (bits word 16 29) (omega arith))
words_fit layout.BranchReg op word same = (same, omega arith, omega arith)
words_fit layout.CrBit op word same = (same, omega arith, omega arith, omega arith)
words_fit layout.CrMove op word same = (omega arith, omega arith)
words_fit layout.MoveXer op word same = omega arith
words_fit layout.MfCr op word same = omega arith
words_fit layout.MfOneCr op word same = (omega arith, omega arith)
words_fit layout.MtCr op word same = (omega arith, omega arith)
words_fit layout.MtOneCr op word same = (omega arith, omega arith)
words_fit layout.Access op word same = (same, omega arith, omega arith, displacement_fits (scales_displacement op) word)
words_fit layout.AccessX op word same = (same, omega arith, omega arith, omega arith)
words_fit layout.Block op word same = (same, omega arith, omega arith)
words_fit layout.MfSpr op word same = (omega arith, omega arith)
words_fit layout.MtSpr op word same = (omega arith, omega arith)
words_fit layout.MfTb op word same = (omega arith, omega arith)
words_fit layout.MfMsr op word same = omega arith
words_fit layout.MtMsr op word same = (same, omega arith)
words_fit layout.Sync op word same = omega arith
words_fit layout.Eieio op word same = tt
words_fit layout.TlbSync op word same = tt
words_fit layout.Inval op word same = (same, omega arith, omega arith, omega arith)
words_fit layout.Message op word same = (same, omega arith)
words_fit layout.Isync op word same = tt
words_fit layout.Rfid op word same = tt
words_fit layout.Hrfid op word same = tt
words_fit layout.Sc op word same = omega arith
