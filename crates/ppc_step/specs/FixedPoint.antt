-- What the fixed-point forms do to the registers of their thread (Power ISA, Book I, chapter 3).
use Rattle.std.specs.Prelude.{ℕ, ◌+◌, ◌*◌, ◌%◌, ◌^◌, ◌==◌, ◌&&◌, if◌then◌else◌, Option, Some, None}
use Rattle.ppc_ops.specs.declared.op.Op.{Op}
use Rattle.ppc_ops.specs.declared.insn.Insn.{Insn}
use Rattle.ppc_ops.specs.declared.results.ArithOut.{ArithOut}
use Rattle.ppc_ops.specs.Classes.{takes_zero, turns_by_register}
use Rattle.thread_regs.specs.declared.registers.Thread.{Thread}
use Rattle.thread_regs.specs.Registers.{gpr, with_gpr, advanced}
use Rattle.fixed_arith.specs.Arith.{arith_of}
use Rattle.fixed_logic.specs.Logic.{logic_of}

-- the first field of the condition register written, if at all: it is the four highest bits
abbrev pub with_cr0 : Option ℕ → Thread → Thread
with_cr0 None t = t
with_cr0 (Some field) t = record t { cr = field % 2 ^ 4 * 2 ^ 28 + t.cr % 2 ^ 28 }

-- the value left in a register, with the exception register and the condition field, and gone on
abbrev pub left_in : ℕ → ArithOut → Thread → Thread
left_in n out t = advanced (with_cr0 out.cr0 (record (with_gpr t n out.value) { xer = out.xer }))

-- the value of RA, or 0 where RA is 0 and the operation takes 0 in its place
abbrev pub base : Op → ℕ → Thread → ℕ
base op ra t = if takes_zero op && ra == 0 then 0 else gpr t ra

-- an arithmetic form leaves in a register what it gives of a, b and c
abbrev pub arith_effect : Insn → ℕ → ℕ → ℕ → ℕ → Thread → Thread
arith_effect insn rt a b c t = left_in rt (arith_of insn a b c t.xer) t

-- a logic form leaves in register ra what it gives of s, b and that register before
abbrev pub logic_effect : Insn → ℕ → ℕ → ℕ → Thread → Thread
logic_effect insn ra s b t = left_in ra (logic_of insn s b (gpr t ra) t.xer) t

-- the value of the register that `by` numbers, where the operation turns by a register
abbrev pub turning : Op → ℕ → Thread → ℕ
turning op by t = if turns_by_register op then gpr t by else 0
