-- What branches, traps and comparisons always do, whatever the registers hold.
use Rattle.std.specs.Prelude.{◌≡◌, ℕ, ◌+◌, ◌==◌, ◌<◌, ◌^◌, ℤ, Bool, not}
use Rattle.ppc_bits.specs.Bits.{bit}
use Rattle.ppc_bits.specs.Addresses.{aligned}
use Rattle.ppc_ops.specs.declared.op.Op.{Op}
use Rattle.ppc_ops.specs.declared.op.Op.TheVariants.{Tdi, Twi, Tw, Td, Cmpi, Cmpli, Cmp, Cmpl}
use Rattle.ppc_ops.specs.declared.insn.Insn.TheVariants as insn
use Rattle.ppc_ops.specs.declared.results.Xer.{Xer}
use Rattle.branch_unit.specs.declared.branching.BranchOut.{BranchOut}
use Rattle.branch_unit.specs.Branch.{branch_of, count_after, is_taken, place, place_in}
use Rattle.branch_unit.specs.Compare.{compare_of}
use Rattle.branch_unit.specs.Trap.{trap_of}

-- ---- branches

-- the branch is taken to this target, and CTR is left as it was
abbrev pub GoesTo : BranchOut → ℕ → ℕ → Type 0
GoesTo out target ctr = (out.next ≡ aligned target) × (out.ctr ≡ ctr)

-- each branch with these five bits BO is taken, whatever CR and CTR hold
abbrev pub AlwaysGoes : ℕ → Type 0
AlwaysGoes bo = (op : Op) (bi : ℕ) (bd : ℤ) (aa lk : Bool) (cia cr lr ctr tar : ℕ)
    → GoesTo (branch_of (insn.Branch bo bi bd aa lk) cia cr lr ctr tar) (place aa bd cia) ctr
    × GoesTo (branch_of (insn.BranchReg op bo bi lk) cia cr lr ctr tar) (place_in op lr ctr tar) ctr

-- a loop that is closed with these five bits BO ends where CTR was 1, whatever CR holds
abbrev pub EndsAtOne : ℕ → Type 0
EndsAtOne bo = (condition ctr : ℕ) → ctr < 2 ^ 64 → is_taken bo condition (count_after bo ctr) ≡ not (ctr == 1)

-- ---- traps

-- each trap with these five bits TO answers this, whatever it compares
abbrev pub EachTrapIs : ℕ → Bool → Type 0
EachTrapIs to answer = (ra rb a b : ℕ) (si : ℤ)
    → (trap_of (insn.Trap Tw to ra rb) a b ≡ answer)
    × (trap_of (insn.Trap Td to ra rb) a b ≡ answer)
    × (trap_of (insn.TrapImm Twi to ra si) a b ≡ answer)
    × (trap_of (insn.TrapImm Tdi to ra si) a b ≡ answer)

-- ---- comparisons

-- of less, greater and equal, the first three bits of a field, exactly one is 1
abbrev pub HasOneOrder : ℕ → Type 0
HasOneOrder field = bit 4 field 0 + bit 4 field 1 + bit 4 field 2 ≡ 1

-- so each comparison of two numbers leaves its field
abbrev pub EachHasOneOrder : Type 0
EachHasOneOrder = (bf ra rb a b : ℕ) (wide : Bool) (value : ℤ) (xer : Xer)
    → HasOneOrder (compare_of (insn.CmpImm Cmpi bf wide ra value) a b xer)
    × HasOneOrder (compare_of (insn.CmpImm Cmpli bf wide ra value) a b xer)
    × HasOneOrder (compare_of (insn.Cmp Cmp bf wide ra rb) a b xer)
    × HasOneOrder (compare_of (insn.Cmp Cmpl bf wide ra rb) a b xer)
