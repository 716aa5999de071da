-- What comparisons, moves and operations of the condition register leave in a thread's registers.
use Rattle.std.specs.Prelude.{ℕ, ◌==◌, if◌then◌else◌}
use Rattle.thread_regs.specs.declared.registers.Thread.{Thread}
use Rattle.thread_regs.specs.Registers.{gpr, with_gpr, with_cr, advanced}
use Rattle.ppc_ops.specs.declared.insn.Insn.{Insn}
use Rattle.branch_unit.specs.Fields.{with_field, moved_fields}
use Rattle.branch_unit.specs.Compare.{compare_of}
use Rattle.branch_unit.specs.CrLogic.{cr_logic_of}
use Rattle.branch_unit.specs.Select.{select_of}

-- a comparison of a and b leaves its order in field bf
abbrev pub compare_effect : Insn → ℕ → ℕ → ℕ → Thread → Thread
compare_effect insn bf a b t = advanced (with_cr t (with_field t.cr bf (compare_of insn a b t.xer)))

-- an operation of the condition register
abbrev pub cr_effect : Insn → Thread → Thread
cr_effect insn t = advanced (with_cr t (cr_logic_of insn t.cr t.xer))

-- a choice of a and b, or a value of the condition register, is left in a register
abbrev pub select_effect : Insn → ℕ → ℕ → ℕ → Thread → Thread
select_effect insn rt a b t = advanced (with_gpr t rt (select_of insn a b t.cr))

-- the fields of fxm are moved from a register
abbrev pub fields_effect : ℕ → ℕ → Thread → Thread
fields_effect fxm rs t = advanced (with_cr t (moved_fields fxm (gpr t rs) t.cr))

-- the value of RA, or 0 where RA is 0
abbrev pub gpr_or_zero : ℕ → Thread → ℕ
gpr_or_zero ra t = if ra == 0 then 0 else gpr t ra
