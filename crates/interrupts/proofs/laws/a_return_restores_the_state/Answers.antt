use Rattle.std.proofs.Common.{rules}
use Rattle.interrupts.proofs.ReturnLemmas.{restores}
use Rattle.interrupts.proofs.laws.a_return_restores_the_state.Goals as goal

pub returns : goal.returns
returns c = restores c.args.cause c.args.thread (search rules)
