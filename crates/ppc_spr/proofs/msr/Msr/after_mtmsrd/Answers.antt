use Rattle.std.proofs.Common.{◌∙◌, ap}
use Rattle.ppc_spr.specs.Msrs.{after_mtmsrd}
use Rattle.ppc_spr.specs.Profile.{profiled}
use Rattle.ppc_spr.proofs.Puts.{mtmsrd_is}
use Rattle.ppc_spr.proofs.msr.Msr.after_mtmsrd.Goals as goal

pub returns-else-l : goal.returns-else-l
unfolding after_mtmsrd
returns-else-l c = rw c.if-l.false (c.profiled.ensures ∙ ap profiled (c.put.ensures ∙ mtmsrd_is c.args.self.0 c.args.rs))
