use Rattle.std.proofs.Common.{rules}
use Rattle.ppc_bus.specs.Devices.{store_row}
use Rattle.ppc_bus.proofs.ListLemmas.{some_at, never_past}
use Rattle.ppc_bus.proofs.AnswerLemmas.{answered, others, windows, at_store, plugged_same}
use Rattle.ppc_bus.proofs.buses.BusOf.store_to.Goals as goal

pub store_slot-requires-clause-there : goal.store_slot-requires-clause-there
store_slot-requires-clause-there g c = some_at c.self.inside.slots.items c.args.self.now c.args.slot c.in-Some.place.now c.self.view_is c.requires.there c.in-Some.ensures.value

pub unreachable-requires : goal.unreachable-requires
unreachable-requires g c = let within = never_past c.self.inside.slots.items c.args.self.now c.args.slot c.self.view_is c.requires.there in search rules

pub returns-clause-row : goal.returns-clause-row
returns-clause-row g c step =
    answered g.D.Device.list g.D.Device.answers (store_row step c.args.slot c.args.offset c.args.size c.args.value c.store_slot.result) c.self.inside.slots.items c.args.self.now c.in-Some.place.now c.store_slot.new.slot c.self.view_is c.requires.there c.in-Some.ensures.value
    (at_store g.D.Device.list g.D.Device.answers step c.args.slot c.args.offset c.args.size c.args.value c.store_slot.result c.in-Some.place.now c.store_slot.new.slot c.store_slot.ensures)

pub returns-clause-others : goal.returns-clause-others
returns-clause-others g c = others c.self.inside.slots.items c.args.self.now c.args.slot c.store_slot.new.slot c.self.view_is c.requires.there

pub returns-clause-windows : goal.returns-clause-windows
returns-clause-windows g c =
    windows g.D.Device.list g.D.Device.answers (store_row 0 c.args.slot c.args.offset c.args.size c.args.value c.store_slot.result) c.self.inside.slots.items c.args.self.now c.in-Some.place.now c.store_slot.new.slot c.self.view_is c.requires.there c.in-Some.ensures.value
    (at_store g.D.Device.list g.D.Device.answers 0 c.args.slot c.args.offset c.args.size c.args.value c.store_slot.result c.in-Some.place.now c.store_slot.new.slot c.store_slot.ensures)

pub invariant_of-self : goal.invariant_of-self
invariant_of-self g c =
    let same =
    windows g.D.Device.list g.D.Device.answers (store_row 0 c.args.slot c.args.offset c.args.size c.args.value c.store_slot.result) c.self.inside.slots.items c.args.self.now c.in-Some.place.now c.store_slot.new.slot c.self.view_is c.requires.there c.in-Some.ensures.value
    (at_store g.D.Device.list g.D.Device.answers 0 c.args.slot c.args.offset c.args.size c.args.value c.store_slot.result c.in-Some.place.now c.store_slot.new.slot c.store_slot.ensures)
    in
    plugged_same c.self.inside.slots.items c.args.self.now _ c.self.view_is same c.self.invariant
