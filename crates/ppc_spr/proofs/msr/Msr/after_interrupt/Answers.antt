use Rattle.std.proofs.Common.{rules, ap}
use Rattle.ppc_spr.specs.Msrs.{after_interrupt}
use Rattle.ppc_spr.specs.Profile.{msr_of}
use Rattle.ppc_spr.proofs.Puts.{interrupt_is}
use Rattle.ppc_spr.proofs.msr.Msr.after_interrupt.Goals as goal

pub returns : goal.returns
unfolding after_interrupt
returns c = rw (c.cleared.ensures, c.raised.ensures) (ap msr_of (interrupt_is c.args.self.0 c.args.hyper (search rules)))
