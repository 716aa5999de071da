use Rattle.ppc_bus.proofs.WindowLemmas.{whole}
use Rattle.ppc_bus.proofs.laws.aligned_access_lies_in_its_window.Goals as goal

pub returns : goal.returns
returns c = whole
