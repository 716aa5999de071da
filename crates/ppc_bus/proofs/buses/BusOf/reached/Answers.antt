use Rattle.std.proofs.Common.{sym, ◌∙◌}
use Rattle.ppc_bus.proofs.WindowLemmas.{found_there}
use Rattle.ppc_bus.proofs.buses.BusOf.reached.Goals as goal

pub returns-then-is_good_access-clause-there : goal.returns-then-is_good_access-clause-there
returns-then-is_good_access-clause-there g c = found_there c.args.self.now c.args.at _ _ (sym c.slot_at.ensures.place ∙ c.in-Some.is)
