use Rattle.std.proofs.Common.{length}
use Rattle.ppc_bus.proofs.slots.+met_from.Given as goal

abbrev pub decreases-met_from : goal.decreases-met_from
decreases-met_from g l = length l.slots.now
