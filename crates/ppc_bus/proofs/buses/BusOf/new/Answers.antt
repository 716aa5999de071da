use Rattle.ppc_bus.proofs.WindowLemmas.{none_plugged}
use Rattle.ppc_bus.proofs.buses.BusOf.new.Goals as goal

pub invariant_of-result : goal.invariant_of-result
invariant_of-result g c = rw c.new.ensures none_plugged
