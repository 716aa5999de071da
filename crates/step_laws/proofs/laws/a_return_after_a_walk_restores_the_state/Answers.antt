use Rattle.std.proofs.Common.{rules}
use Rattle.step_laws.proofs.StatusLemmas.{walk_returns}
use Rattle.step_laws.proofs.laws.a_return_after_a_walk_restores_the_state.Goals as goal

pub returns : goal.returns
returns c = walk_returns c.args.thread (search rules)
