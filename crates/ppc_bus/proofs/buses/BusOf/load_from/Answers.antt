use Rattle.std.proofs.Common.{rules}
use Rattle.ppc_bus.specs.Devices.{load_row}
use Rattle.ppc_bus.proofs.ListLemmas.{some_at, never_past}
use Rattle.ppc_bus.proofs.AnswerLemmas.{answered, others, windows, at_load, plugged_same}
use Rattle.ppc_bus.proofs.buses.BusOf.load_from.Goals as goal

pub load_slot-requires-clause-there : goal.load_slot-requires-clause-there
load_slot-requires-clause-there g c = some_at c.self.inside.slots.items c.args.self.now c.args.slot c.in-Some.place.now c.self.view_is c.requires.there c.in-Some.ensures.value

pub unreachable-requires : goal.unreachable-requires
unreachable-requires g c = let within = never_past c.self.inside.slots.items c.args.self.now c.args.slot c.self.view_is c.requires.there in search rules

pub returns-clause-row : goal.returns-clause-row
returns-clause-row g c step =
    answered g.D.Device.list g.D.Device.answers (load_row step c.args.slot c.args.offset c.args.size c.load_slot.result) c.self.inside.slots.items c.args.self.now c.in-Some.place.now c.load_slot.new.slot c.self.view_is c.requires.there c.in-Some.ensures.value
    (at_load g.D.Device.list g.D.Device.answers step c.args.slot c.args.offset c.args.size c.load_slot.result c.in-Some.place.now c.load_slot.new.slot c.load_slot.ensures)

pub returns-clause-others : goal.returns-clause-others
returns-clause-others g c = others c.self.inside.slots.items c.args.self.now c.args.slot c.load_slot.new.slot c.self.view_is c.requires.there

pub returns-clause-windows : goal.returns-clause-windows
returns-clause-windows g c =
    windows g.D.Device.list g.D.Device.answers (load_row 0 c.args.slot c.args.offset c.args.size c.load_slot.result) c.self.inside.slots.items c.args.self.now c.in-Some.place.now c.load_slot.new.slot c.self.view_is c.requires.there c.in-Some.ensures.value
    (at_load g.D.Device.list g.D.Device.answers 0 c.args.slot c.args.offset c.args.size c.load_slot.result c.in-Some.place.now c.load_slot.new.slot c.load_slot.ensures)

pub invariant_of-self : goal.invariant_of-self
invariant_of-self g c =
    let same =
    windows g.D.Device.list g.D.Device.answers (load_row 0 c.args.slot c.args.offset c.args.size c.load_slot.result) c.self.inside.slots.items c.args.self.now c.in-Some.place.now c.load_slot.new.slot c.self.view_is c.requires.there c.in-Some.ensures.value
    (at_load g.D.Device.list g.D.Device.answers 0 c.args.slot c.args.offset c.args.size c.load_slot.result c.in-Some.place.now c.load_slot.new.slot c.load_slot.ensures)
    in
    plugged_same c.self.inside.slots.items c.args.self.now _ c.self.view_is same c.self.invariant
