-- What branches leave in a thread's registers (Power ISA, Book I, 2.4).
use Rattle.thread_regs.specs.declared.registers.Thread.{Thread}
use Rattle.ppc_ops.specs.declared.insn.Insn.{Insn}
use Rattle.branch_unit.specs.declared.branching.BranchOut.{BranchOut}
use Rattle.branch_unit.specs.Branch.{branch_of}

-- the next address, LR and CTR that a branch leaves, all else as it was
abbrev pub left_by : BranchOut → Thread → Thread
left_by out t = record t { nia = out.next; lr = out.lr; ctr = out.ctr }

-- a branch leaves what it gives of its address, CR, LR, CTR and TAR
abbrev pub branch_effect : Insn → Thread → Thread
branch_effect insn t = left_by (branch_of insn t.nia t.cr t.lr t.ctr t.tar) t
