-- Instructions that write the condition register from itself or from the exception register (Power ISA, Book I, 2.5 and 3.3.17).
use Rattle.std.specs.Prelude.{◌≡◌, ℕ, ◌+◌, ◌-◌, ◌*◌, ◌%◌, ◌==◌, min, max, Bool, true, false, if◌then◌else◌}
use Rattle.ppc_bits.specs.Bits.{bit, word_of}
use Rattle.ppc_ops.specs.declared.op.Op.{Op}
use Rattle.ppc_ops.specs.declared.op.Op.TheVariants.{Crand, Cror, Crxor, Crnand, Crnor, Creqv, Crandc, Crorc}
use Rattle.ppc_ops.specs.declared.insn.Insn.{Insn}
use Rattle.ppc_ops.specs.declared.insn.Insn.TheVariants as insn
use Rattle.ppc_ops.specs.declared.results.Xer.{Xer}
use Rattle.ppc_ops.specs.Results.{one}
use Rattle.branch_unit.specs.Fields.{cr_field, with_field}

-- operations on bits, moves of a field, and the move of the exception register's bits
abbrev pub is_cr_logic : Insn → Bool
is_cr_logic (insn.CrBit op bt ba bb) = true
is_cr_logic (insn.CrMove bf bfa) = true
is_cr_logic (insn.MoveXer bf) = true
is_cr_logic other = false

abbrev pub IsCrLogic : Insn → Type 0
IsCrLogic i = is_cr_logic i ≡ true

-- The last line of each definition by operations is for those of other layouts. No instruction of this layout has one, so
-- it says nothing of any.

-- one bit of two
abbrev pub bit_of : Op → ℕ → ℕ → ℕ
bit_of Crand x y = min x y
bit_of Cror x y = max x y
bit_of Crxor x y = (x + y) % 2
bit_of Crnand x y = 1 - min x y
bit_of Crnor x y = 1 - max x y
bit_of Creqv x y = 1 - (x + y) % 2
bit_of Crandc x y = min x (1 - y)
bit_of Crorc x y = max x (1 - y)
bit_of other x y = 0

-- the register with x in its bit bt
abbrev pub with_bit : ℕ → ℕ → ℕ → ℕ
with_bit cr bt x = word_of 32 (λ i. if i == bt then x else bit 32 cr i)

-- OV, OV32, CA and CA32, the first one the highest
abbrev pub carry_field : Xer → ℕ
carry_field xer = one xer.ov * 8 + one xer.ov32 * 4 + one xer.ca * 2 + one xer.ca32

-- The condition register after the instruction. The last line is for instructions of other layouts, for which no call is
-- made.
unfoldable pub cr_logic_of : Insn → ℕ → Xer → ℕ
cr_logic_of (insn.CrBit op bt ba bb) cr xer = with_bit cr bt (bit_of op (bit 32 cr ba) (bit 32 cr bb))
cr_logic_of (insn.CrMove bf bfa) cr xer = with_field cr bf (cr_field cr bfa)
cr_logic_of (insn.MoveXer bf) cr xer = with_field cr bf (carry_field xer)
cr_logic_of other cr xer = cr
