use Rattle.ppc_bus.proofs.ChainLemmas.{chain_answers}
use Rattle.ppc_bus.proofs.laws.chain_gives_answers.Goals as goal

pub returns : goal.returns
returns g c = chain_answers g.D.Device.list g.D.Device.answers
