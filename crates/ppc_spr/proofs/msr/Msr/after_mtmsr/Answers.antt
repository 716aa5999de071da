use Rattle.std.proofs.Common.{◌∙◌, ap}
use Rattle.ppc_spr.specs.Msrs.{after_mtmsr}
use Rattle.ppc_spr.specs.Profile.{profiled}
use Rattle.ppc_spr.proofs.Puts.{mtmsr_is}
use Rattle.ppc_spr.proofs.msr.Msr.after_mtmsr.Goals as goal

pub returns-else-l : goal.returns-else-l
unfolding after_mtmsr
returns-else-l c = rw c.if-l.false (c.profiled.ensures ∙ ap profiled (c.put.ensures ∙ mtmsr_is c.args.self.0 c.args.rs))
