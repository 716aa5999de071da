-- Values that the condition register gives (Power ISA, Book I, 3.3.12 and 3.3.17).
use Rattle.std.specs.Prelude.{◌≡◌, ℕ, ◌+◌, ◌-◌, ◌*◌, ◌^◌, ◌==◌, Bool, true, false, if◌then◌else◌}
use Rattle.ppc_bits.specs.Bits.{bit, is_set}
use Rattle.ppc_ops.specs.declared.insn.Insn.{Insn}
use Rattle.ppc_ops.specs.declared.insn.Insn.TheVariants as insn
use Rattle.branch_unit.specs.Fields.{fields_of}

-- the choice of a register, the number of a comparison, and copies of the condition register
abbrev pub is_select : Insn → Bool
is_select (insn.Select rt ra rb n) = true
is_select (insn.SetB rt bfa) = true
is_select (insn.MfCr rt) = true
is_select (insn.MfOneCr rt fxm) = true
is_select other = false

abbrev pub IsSelect : Insn → Type 0
IsSelect i = is_select i ≡ true

-- -1 where the first bit of the field is 1, else 1 where the second is, else 0
abbrev pub set_by : ℕ → ℕ → ℕ
set_by less greater = if less == 1 then 2 ^ 64 - 1 else (if greater == 1 then 1 else 0)

-- The new value of RT: a is the value of RA, 0 for isel whose RA is 0, and b that of RB. The last line is for instructions
-- of other layouts, for which no call is made.
unfoldable pub select_of : Insn → ℕ → ℕ → ℕ → ℕ
select_of (insn.Select rt ra rb n) a b cr = if is_set 32 cr n then a else b
select_of (insn.SetB rt bfa) a b cr = set_by (bit 32 cr (4 * bfa)) (bit 32 cr (4 * bfa + 1))
select_of (insn.MfCr rt) a b cr = cr
select_of (insn.MfOneCr rt fxm) a b cr = fields_of fxm cr
select_of other a b cr = 0
