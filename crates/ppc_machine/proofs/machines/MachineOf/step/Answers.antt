use Rattle.std.proofs.Common.{sym, ◌∙◌, refl}
use Rattle.ppc_bus.specs.Answers.{DeviceAnswers}
use Rattle.ppc_machine.specs.Inside.{held_of}
use Rattle.ppc_machine.proofs.ViewLemmas.{IsKept-step, start_of-step}
use Rattle.ppc_machine.proofs.machines.MachineOf.step.Goals as goal

pub invariant_of-self : goal.invariant_of-self
invariant_of-self g c =
    let running = sym c.last_stop.ensures ∙ c.in_default.is in
    IsKept-step {D = g.row.D.Denot} (DeviceAnswers g.D.Device.list g.D.Device.answers) (held_of c.self.inside) (held_of (record { entry = c.self.inside.entry; measured = c.self.inside.measured; parts = c.step.new.parts })) c.args.thread c.step.result c.self.invariant running
    (record { entry = refl; plugged = refl; count = c.step.ensures.count; steps = c.step.ensures.step })

pub returns-clause-row : goal.returns-clause-row
returns-clause-row g c = λ running. rw (← c.self.view_is) (record { entry = refl; plugged = refl; count = c.step.ensures.count; steps = c.step.ensures.step })

pub returns-clause-start : goal.returns-clause-start
returns-clause-start g c =
    let running = sym c.last_stop.ensures ∙ c.in_default.is in
    rw (← c.self.view_is)
    (start_of-step {D = g.row.D.Denot} (DeviceAnswers g.D.Device.list g.D.Device.answers) (held_of c.self.inside) (held_of (record { entry = c.self.inside.entry; measured = c.self.inside.measured; parts = c.step.new.parts })) c.args.thread c.step.result c.self.invariant running
    (record { entry = refl; plugged = refl; count = c.step.ensures.count; steps = c.step.ensures.step }))

pub returns-clause-lawful : goal.returns-clause-lawful
returns-clause-lawful g c =
    let running = sym c.last_stop.ensures ∙ c.in_default.is in
    (IsKept-step {D = g.row.D.Denot} (DeviceAnswers g.D.Device.list g.D.Device.answers) (held_of c.self.inside) (held_of (record { entry = c.self.inside.entry; measured = c.self.inside.measured; parts = c.step.new.parts })) c.args.thread c.step.result c.self.invariant running
    (record { entry = refl; plugged = refl; count = c.step.ensures.count; steps = c.step.ensures.step })).lawful

pub returns-clause-chosen : goal.returns-clause-chosen
returns-clause-chosen g c =
    let running = sym c.last_stop.ensures ∙ c.in_default.is in
    (IsKept-step {D = g.row.D.Denot} (DeviceAnswers g.D.Device.list g.D.Device.answers) (held_of c.self.inside) (held_of (record { entry = c.self.inside.entry; measured = c.self.inside.measured; parts = c.step.new.parts })) c.args.thread c.step.result c.self.invariant running
    (record { entry = refl; plugged = refl; count = c.step.ensures.count; steps = c.step.ensures.step })).chosen

-- the translator fits with any values
pub step-requires-clause-any_values : goal.step-requires-clause-any_values
step-requires-clause-any_values g c = λ s j values new same fits. tt
