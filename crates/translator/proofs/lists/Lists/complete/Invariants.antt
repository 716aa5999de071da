use Rattle.std.proofs.Common.{◌≡◌}
use Rattle.journal_core.specs.Translating.{without_done}
use Rattle.translator.specs.Fits.{FitsSoFar}
use Rattle.translator.proofs.lists.Lists.complete.Given as goal

abbrev pub invariant-loop-thread : goal.invariant-loop-thread
invariant-loop-thread l = (l.self.threads ≡ l.initial.self.threads) × FitsSoFar l.initial.self l.self (without_done l.journal) l.journal l.row l.thread
