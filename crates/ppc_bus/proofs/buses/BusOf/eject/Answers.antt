use Rattle.std.proofs.Common.{◌∙◌}
use Rattle.ppc_bus.proofs.ListLemmas.{got, not_got, taken_past, taken_at}
use Rattle.ppc_bus.proofs.WindowLemmas.{plugged_emptied}
use Rattle.ppc_bus.proofs.buses.BusOf.eject.Goals as goal
use Rattle.ppc_bus.proofs.buses.BusOf.eject.Goals.{in-None, in-Some}

pub returns-clause-taken : goal.returns-clause-taken
returns-clause-taken g c =
    elim c.match-get_mut.branch [
      | in-None w ↦ taken_past c.self.inside.slots.items c.args.self.now c.args.slot c.match-get_mut.result c.self.view_is (not_got c.get_mut.result _ w.in-None.is c.get_mut.ensures.variant) w.result-is
      | in-Some w ↦ taken_at c.self.inside.slots.items c.args.self.now c.args.slot w.in-Some.place.now c.match-get_mut.result c.self.view_is (got c.get_mut.result w.in-Some.place _ w.in-Some.is c.get_mut.ensures.variant) w.in-Some.ensures.value (w.result-is ∙ w.take_device.ensures.taken)
    ]

pub invariant_of-self : goal.invariant_of-self
invariant_of-self g c =
    elim c.match-get_mut.branch [
      | in-None w ↦ rw w.self-inside-is c.self.invariant
      | in-Some w ↦ rw (w.self-inside-is, w.take_device.ensures.left) (plugged_emptied c.self.inside.slots.items c.args.slot c.self.invariant)
    ]
