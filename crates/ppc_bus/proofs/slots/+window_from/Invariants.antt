use Rattle.std.proofs.Common.{length}
use Rattle.ppc_bus.proofs.slots.+window_from.Given as goal

abbrev pub decreases-window_from : goal.decreases-window_from
decreases-window_from g l = length l.slots.now
