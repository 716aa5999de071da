-- Branches (Power ISA, Book I, 2.4).
use Rattle.std.specs.Prelude.{◌≡◌, ℕ, ◌==◌, ℤ, pos, ◌+ℤ◌, ◌-ℤ◌, Bool, true, false, ◌&&◌, ◌||◌, not, if◌then◌else◌}
use Rattle.ppc_bits.specs.Bits.{bit, is_set, modulo}
use Rattle.ppc_bits.specs.Addresses.{next_address, aligned}
use Rattle.ppc_ops.specs.declared.op.Op.{Op}
use Rattle.ppc_ops.specs.declared.op.Op.TheVariants.{Bclr, Bcctr, Bctar}
use Rattle.ppc_ops.specs.declared.insn.Insn.{Insn}
use Rattle.ppc_ops.specs.declared.insn.Insn.TheVariants as insn
use Rattle.branch_unit.specs.declared.branching.BranchOut.{BranchOut}

-- the branch without condition, and those with one
abbrev pub is_branch : Insn → Bool
is_branch (insn.Jump li aa lk) = true
is_branch (insn.Branch bo bi bd aa lk) = true
is_branch (insn.BranchReg op bo bi lk) = true
is_branch other = false

abbrev pub IsBranch : Insn → Type 0
IsBranch i = is_branch i ≡ true

-- CTR falls by 1 where bit 2 of the five bits BO is 0
abbrev pub count_after : ℕ → ℕ → ℕ
count_after bo ctr = if is_set 5 bo 2 then ctr else modulo 64 (pos ctr -ℤ pos 1)

-- the count allows the branch where BO2 is 1; else, by the count that has fallen, BO3 asks that it be 0 or be not
abbrev pub is_count_right : ℕ → ℕ → Bool
is_count_right bo count = is_set 5 bo 2 || (if is_set 5 bo 3 then count == 0 else not (count == 0))

-- the condition allows the branch where BO0 is 1, or where it is BO1
abbrev pub is_condition_right : ℕ → ℕ → Bool
is_condition_right bo condition = is_set 5 bo 0 || condition == bit 5 bo 1

-- the branch is taken: `condition` is a bit of CR, and `count` is CTR after it fell
abbrev pub is_taken : ℕ → ℕ → ℕ → Bool
is_taken bo condition count = is_count_right bo count && is_condition_right bo condition

-- `to` is the address itself where `aa`, and else counts from this instruction
abbrev pub place : Bool → ℤ → ℕ → ℕ
place aa to cia = if aa then modulo 64 to else modulo 64 (pos cia +ℤ to)

-- The register that has the target. The last line is for operations of other layouts: no instruction of this layout has
-- one, so it says nothing of any.
abbrev pub place_in : Op → ℕ → ℕ → ℕ → ℕ
place_in Bclr lr ctr tar = lr
place_in Bcctr lr ctr tar = ctr
place_in Bctar lr ctr tar = tar
place_in other lr ctr tar = 0

-- what a branch to `target` leaves: LR is the next address where `lk`, whether the branch is taken or not
abbrev pub branched : Bool → Bool → ℕ → ℕ → ℕ → ℕ → BranchOut
branched taken lk target cia lr count = record {
  next = if taken then aligned target else next_address cia;
  lr = if lk then next_address cia else lr;
  ctr = count;
}

-- What a branch at the address cia leaves of the next address, LR and CTR. The last line is for instructions of other
-- layouts, for which no call is made.
unfoldable pub branch_of : Insn → ℕ → ℕ → ℕ → ℕ → ℕ → BranchOut
branch_of (insn.Jump li aa lk) cia cr lr ctr tar =
    branched true lk (place aa li cia) cia lr ctr
branch_of (insn.Branch bo bi bd aa lk) cia cr lr ctr tar =
    branched (is_taken bo (bit 32 cr bi) (count_after bo ctr)) lk (place aa bd cia) cia lr (count_after bo ctr)
branch_of (insn.BranchReg op bo bi lk) cia cr lr ctr tar =
    branched (is_taken bo (bit 32 cr bi) (count_after bo ctr)) lk (place_in op lr ctr tar) cia lr (count_after bo ctr)
branch_of other cia cr lr ctr tar = branched false false 0 cia lr ctr
