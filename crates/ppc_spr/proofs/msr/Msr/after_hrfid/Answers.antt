use Rattle.std.proofs.Common.{◌∙◌, ap}
use Rattle.ppc_spr.specs.Msrs.{after_hrfid}
use Rattle.ppc_spr.specs.Profile.{profiled}
use Rattle.ppc_spr.proofs.Puts.{hrfid_is}
use Rattle.ppc_spr.proofs.msr.Msr.after_hrfid.Goals as goal

pub returns : goal.returns
unfolding after_hrfid
returns c = c.profiled.ensures ∙ ap profiled (c.put.ensures ∙ hrfid_is c.args.self.0 c.args.hsrr1)
