use Rattle.std.proofs.Common.{rules, refl}
use Rattle.ppc_bus.proofs.WindowLemmas.{plugged_push}
use Rattle.ppc_bus.proofs.buses.BusOf.plug.Goals as goal

pub invariant_of-self : goal.invariant_of-self
invariant_of-self g c = rw c.push.ensures.items (plugged_push c.self.inside.slots.items _ _ refl c.self.invariant (search rules))
