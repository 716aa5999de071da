use Rattle.ppc_spr.specs.Msrs.{after_interrupt}
use Rattle.std.proofs.Common.{refl, arith}
use Rattle.ppc_spr.proofs.LawLemmas.{interrupt_clears, interrupt_raises, interrupt_profiled}
use Rattle.ppc_spr.proofs.laws.interrupts_keep_the_profile.Goals as goal

pub returns-clause-profile : goal.returns-clause-profile
unfolding after_interrupt
returns-clause-profile c = interrupt_profiled c.args.msr.0 c.args.hyper

pub returns-clause-privileged : goal.returns-clause-privileged
unfolding after_interrupt
returns-clause-privileged c = interrupt_clears c.args.msr.0 c.args.hyper 49 (omega arith) refl

pub returns-clause-fetches : goal.returns-clause-fetches
unfolding after_interrupt
returns-clause-fetches c = interrupt_clears c.args.msr.0 c.args.hyper 58 (omega arith) refl

pub returns-clause-data : goal.returns-clause-data
unfolding after_interrupt
returns-clause-data c = interrupt_clears c.args.msr.0 c.args.hyper 59 (omega arith) refl

pub returns-clause-raised : goal.returns-clause-raised
unfolding after_interrupt
returns-clause-raised c = interrupt_raises c.args.msr.0 c.args.hyper
