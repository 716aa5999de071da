use Rattle.ppc_bus.specs.Slots.{slot_in}
use Rattle.ppc_bus.proofs.AnswerLemmas.{loaded_below, where_ok}
use Rattle.ppc_bus.proofs.ports.BusOfPort.load.Goals as goal

pub returns-clause-below : goal.returns-clause-below
returns-clause-below g c = where_ok c.load.result (λ r row. loaded_below g.D.Device.list g.D.Device.answers (slot_in c.args.self.now r.0) 0 r.0 r.1 c.args.size r.2 (row 0).gives) c.load.ensures.row
