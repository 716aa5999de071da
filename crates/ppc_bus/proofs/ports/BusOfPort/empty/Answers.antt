use Rattle.std.proofs.Common.{ap, ◌∙◌}
use Rattle.ppc_bus.specs.Windows.{windows_of}
use Rattle.ppc_bus.proofs.WindowLemmas.{windows-emptied}
use Rattle.ppc_bus.proofs.ports.BusOfPort.empty.Goals as goal

pub returns-clause-windows : goal.returns-clause-windows
returns-clause-windows g c = ap (λ bus. windows_of bus) c.eject.ensures.left ∙ windows-emptied c.args.self.now c.args.slot
