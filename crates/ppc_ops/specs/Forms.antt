-- Which instructions are forms.
use Rattle.std.specs.Prelude.{◌≡◌, ℕ, ◌==◌, Bool, false, ◌&&◌, ◌||◌, not, count_ones}
use Rattle.ppc_bits.specs.Bits.{is_set}
use Rattle.ppc_ops.specs.declared.op.Op.{Op}
use Rattle.ppc_ops.specs.declared.insn.Insn.{Insn}
use Rattle.ppc_ops.specs.declared.insn.Insn.TheVariants as insn
use Rattle.ppc_ops.specs.Classes.{loads_with_update, stores_with_update, branches_to_count}
use Rattle.ppc_ops.specs.Fitting.{FitsFields}

-- an update of RA where RA is 0, or is the register that is loaded
abbrev pub is_wrong_update : Op → ℕ → ℕ → Bool
is_wrong_update op rt ra = (loads_with_update op && (ra == 0 || ra == rt)) || (stores_with_update op && ra == 0)

-- a branch with these five bits BO leaves the count register as it is: bit 2 is 1
abbrev pub leaves_count : ℕ → Bool
leaves_count bo = is_set 5 bo 2

-- the invalid forms
abbrev pub is_invalid : Insn → Bool
is_invalid (insn.Access op rt ra disp) = is_wrong_update op rt ra
is_invalid (insn.AccessX op rt ra rb) = is_wrong_update op rt ra
is_invalid (insn.BranchReg op bo bi lk) = branches_to_count op && not (leaves_count bo)
is_invalid (insn.MfOneCr rt fxm) = not (count_ones fxm == 1)
is_invalid (insn.MtOneCr rs fxm) = not (count_ones fxm == 1)
is_invalid (insn.Sync l) = l == 3
is_invalid other = false

-- an instruction whose operation is one of its layout's, whose operands fit their fields, and which is no invalid form
abbrev pub IsForm : Insn → Type 0
IsForm i = FitsFields i × (is_invalid i ≡ false)
