use Rattle.std.proofs.Common.{◌∙◌, ap}
use Rattle.ppc_spr.specs.Msrs.{after_rfid}
use Rattle.ppc_spr.specs.Profile.{profiled}
use Rattle.ppc_spr.proofs.Puts.{rfid_is}
use Rattle.ppc_spr.proofs.msr.Msr.after_rfid.Goals as goal

pub returns : goal.returns
unfolding after_rfid
returns c = c.profiled.ensures ∙ ap profiled (c.put.ensures ∙ rw c.kept_by_rfid.ensures (rfid_is c.args.self.0 c.args.srr1))
