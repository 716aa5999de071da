use Rattle.std.proofs.Common.{rules, ◌∙◌, ap}
use Rattle.ppc_spr.specs.Profile.{profiled}
use Rattle.ppc_spr.proofs.Puts.{enabled_is}
use Rattle.ppc_spr.proofs.msr.Msr.enabled.Goals as goal

pub returns : goal.returns
returns c = c.profiled.ensures ∙ ap profiled (enabled_is c.args.self.0 c.args.rs (search rules) (search rules))
