use Rattle.std.proofs.Common.{refl, arith}
use Rattle.ppc_spr.specs.Msrs.{after_interrupt}
use Rattle.ppc_spr.proofs.LawLemmas.{interrupt_clears, interrupt_raises, interrupt_profiled}
use Rattle.interrupts.specs.Table.{interrupt_of}
use Rattle.interrupts.proofs.DeliveryLemmas.{state_after, next_after}
use Rattle.interrupts.proofs.laws.an_interrupt_enters_privileged_state.Goals as goal

pub returns-clause-next : goal.returns-clause-next
returns-clause-next c = next_after c.args.cause c.args.thread

pub returns-clause-profile : goal.returns-clause-profile
unfolding after_interrupt
returns-clause-profile c = rw (state_after c.args.cause c.args.thread) (interrupt_profiled c.args.thread.msr.0 (interrupt_of c.args.cause).hyper)

pub returns-clause-privileged : goal.returns-clause-privileged
unfolding after_interrupt
returns-clause-privileged c = rw (state_after c.args.cause c.args.thread) (interrupt_clears c.args.thread.msr.0 (interrupt_of c.args.cause).hyper 49 (omega arith) refl)

pub returns-clause-disabled : goal.returns-clause-disabled
unfolding after_interrupt
returns-clause-disabled c = rw (state_after c.args.cause c.args.thread) (interrupt_clears c.args.thread.msr.0 (interrupt_of c.args.cause).hyper 48 (omega arith) refl)

pub returns-clause-fetches : goal.returns-clause-fetches
unfolding after_interrupt
returns-clause-fetches c = rw (state_after c.args.cause c.args.thread) (interrupt_clears c.args.thread.msr.0 (interrupt_of c.args.cause).hyper 58 (omega arith) refl)

pub returns-clause-data : goal.returns-clause-data
unfolding after_interrupt
returns-clause-data c = rw (state_after c.args.cause c.args.thread) (interrupt_clears c.args.thread.msr.0 (interrupt_of c.args.cause).hyper 59 (omega arith) refl)

pub returns-clause-hypervisor : goal.returns-clause-hypervisor
unfolding after_interrupt
returns-clause-hypervisor c = rw (state_after c.args.cause c.args.thread) (interrupt_raises c.args.thread.msr.0 (interrupt_of c.args.cause).hyper)
