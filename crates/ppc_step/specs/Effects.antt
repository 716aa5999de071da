-- What each form of registers comes to in a thread, unit by unit.
use Rattle.std.specs.Prelude.{ℕ, Bool, true, false}
use Rattle.ppc_bits.specs.Addresses.{next_address}
use Rattle.thread_regs.specs.declared.registers.Thread.{Thread}
use Rattle.thread_regs.specs.Registers.{gpr, advanced}
use Rattle.ppc_ops.specs.declared.insn.Insn.{Insn}
use Rattle.ppc_ops.specs.declared.insn.Insn.TheVariants.{AddImm, AddPc, Arith, MulHigh, Modulo, MulAdd, LogicImm, Logic, Unary, Count, Bytes, ShiftImm, RotWord, RotDouble, Select, CmpImm, Cmp, CmpByte, SetB, TrapImm, Trap, Jump, Branch, BranchReg, CrBit, CrMove, MoveXer, MfCr, MfOneCr, MtCr, MtOneCr, Access, AccessX, Block, MfSpr, MtSpr, MfTb, MfMsr, MtMsr, Sync, Eieio, TlbSync, Inval, Message, Isync, Rfid, Hrfid, Sc}
use Rattle.branch_unit.specs.Trap.{trap_of}
use Rattle.form_outcomes.specs.Outcomes.{Outcome, Goes, Takes, unsupported}
use Rattle.form_outcomes.specs.Programs.{trap}
use Rattle.system_ops.specs.System.{outcome_of as system_outcome}
use Rattle.ppc_step.specs.FixedPoint.{base, turning, arith_effect, logic_effect}
use Rattle.ppc_step.specs.Branching.{branch_effect}
use Rattle.ppc_step.specs.Conditions.{compare_effect, cr_effect, select_effect, fields_effect, gpr_or_zero}

-- a trap whose condition holds is a program interrupt; any other goes on
abbrev pub trapped : Bool → Thread → Outcome Thread
trapped true t = Takes trap
trapped false t = Goes (advanced t)

-- What a form that works on registers alone comes to in a thread with these registers. The lines of loads, stores and cache blocks
-- say nothing of these forms, whose outcome goes by more than registers (`form_outcome`).
unfoldable pub thread_outcome : Insn → ℕ → Thread → Outcome Thread
thread_outcome (AddImm op rt ra si) word t = Goes (arith_effect (AddImm op rt ra si) rt (base op ra t) 0 0 t)
thread_outcome (AddPc rt d) word t = Goes (arith_effect (AddPc rt d) rt (next_address t.nia) 0 0 t)
thread_outcome (Arith op rt ra rb oe rc) word t = Goes (arith_effect (Arith op rt ra rb oe rc) rt (gpr t ra) (gpr t rb) 0 t)
thread_outcome (MulHigh op rt ra rb rc) word t = Goes (arith_effect (MulHigh op rt ra rb rc) rt (gpr t ra) (gpr t rb) 0 t)
thread_outcome (Modulo op rt ra rb) word t = Goes (arith_effect (Modulo op rt ra rb) rt (gpr t ra) (gpr t rb) 0 t)
thread_outcome (MulAdd op rt ra rb third) word t = Goes (arith_effect (MulAdd op rt ra rb third) rt (gpr t ra) (gpr t rb) (gpr t third) t)
thread_outcome (LogicImm op ra rs ui) word t = Goes (logic_effect (LogicImm op ra rs ui) ra (gpr t rs) 0 t)
thread_outcome (Logic op ra rs rb rc) word t = Goes (logic_effect (Logic op ra rs rb rc) ra (gpr t rs) (gpr t rb) t)
thread_outcome (Unary op ra rs rc) word t = Goes (logic_effect (Unary op ra rs rc) ra (gpr t rs) 0 t)
thread_outcome (Count op ra rs) word t = Goes (logic_effect (Count op ra rs) ra (gpr t rs) 0 t)
thread_outcome (Bytes op ra rs rb) word t = Goes (logic_effect (Bytes op ra rs rb) ra (gpr t rs) (gpr t rb) t)
thread_outcome (ShiftImm op ra rs sh rc) word t = Goes (logic_effect (ShiftImm op ra rs sh rc) ra (gpr t rs) 0 t)
thread_outcome (RotWord op ra rs by mb me rc) word t = Goes (logic_effect (RotWord op ra rs by mb me rc) ra (gpr t rs) (gpr t by) t)
thread_outcome (RotDouble op ra rs by edge rc) word t = Goes (logic_effect (RotDouble op ra rs by edge rc) ra (gpr t rs) (turning op by t) t)
thread_outcome (Select rt ra rb bit) word t = Goes (select_effect (Select rt ra rb bit) rt (gpr_or_zero ra t) (gpr t rb) t)
thread_outcome (SetB rt bfa) word t = Goes (select_effect (SetB rt bfa) rt 0 0 t)
thread_outcome (MfCr rt) word t = Goes (select_effect (MfCr rt) rt 0 0 t)
thread_outcome (MfOneCr rt fxm) word t = Goes (select_effect (MfOneCr rt fxm) rt 0 0 t)
thread_outcome (CmpImm op bf wide ra value) word t = Goes (compare_effect (CmpImm op bf wide ra value) bf (gpr t ra) 0 t)
thread_outcome (Cmp op bf wide ra rb) word t = Goes (compare_effect (Cmp op bf wide ra rb) bf (gpr t ra) (gpr t rb) t)
thread_outcome (CmpByte op bf two ra rb) word t = Goes (compare_effect (CmpByte op bf two ra rb) bf (gpr t ra) (gpr t rb) t)
thread_outcome (CrBit op bt ba bb) word t = Goes (cr_effect (CrBit op bt ba bb) t)
thread_outcome (CrMove bf bfa) word t = Goes (cr_effect (CrMove bf bfa) t)
thread_outcome (MoveXer bf) word t = Goes (cr_effect (MoveXer bf) t)
thread_outcome (MtCr rs fxm) word t = Goes (fields_effect fxm rs t)
thread_outcome (MtOneCr rs fxm) word t = Goes (fields_effect fxm rs t)
thread_outcome (Jump li aa lk) word t = Goes (branch_effect (Jump li aa lk) t)
thread_outcome (Branch bo bi bd aa lk) word t = Goes (branch_effect (Branch bo bi bd aa lk) t)
thread_outcome (BranchReg op bo bi lk) word t = Goes (branch_effect (BranchReg op bo bi lk) t)
thread_outcome (TrapImm op to ra si) word t = trapped (trap_of (TrapImm op to ra si) (gpr t ra) 0) t
thread_outcome (Trap op to ra rb) word t = trapped (trap_of (Trap op to ra rb) (gpr t ra) (gpr t rb)) t
thread_outcome (Access op rt ra disp) word t = unsupported word
thread_outcome (AccessX op rt ra rb) word t = unsupported word
thread_outcome (Block op ra rb) word t = unsupported word
thread_outcome (MfSpr rt spr) word t = system_outcome (MfSpr rt spr) word t
thread_outcome (MtSpr rs spr) word t = system_outcome (MtSpr rs spr) word t
thread_outcome (MfTb rt spr) word t = system_outcome (MfTb rt spr) word t
thread_outcome (MfMsr rt) word t = system_outcome (MfMsr rt) word t
thread_outcome (MtMsr op rs l) word t = system_outcome (MtMsr op rs l) word t
thread_outcome (Sync l) word t = system_outcome (Sync l) word t
thread_outcome Eieio word t = system_outcome Eieio word t
thread_outcome TlbSync word t = system_outcome TlbSync word t
thread_outcome (Inval op rb rs ric prs r) word t = system_outcome (Inval op rb rs ric prs r) word t
thread_outcome (Message op rb) word t = system_outcome (Message op rb) word t
thread_outcome Isync word t = system_outcome Isync word t
thread_outcome Rfid word t = system_outcome Rfid word t
thread_outcome Hrfid word t = system_outcome Hrfid word t
thread_outcome (Sc lev) word t = system_outcome (Sc lev) word t
