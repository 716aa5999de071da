use Rattle.std.proofs.Common.{rules, ◌≡◌, None, ◌∙◌, refl, sym, ap, arith}
use Rattle.ppc_bus.specs.Windows.{windows_of}
use Rattle.ppc_machine.specs.Plugging.{windows_for, plugged_windows}
use Rattle.ppc_machine.specs.Opening as opening
use Rattle.ppc_machine.proofs.OpenLemmas.{allowed, is_reason, IsKept-opened, is_opened}
use Rattle.ppc_machine.proofs.PlugLemmas.{windows_of-slots_for}
use Rattle.ppc_machine.proofs.machines.MachineOf.open.Goals as goal

pub returns-in-Some-clause-err : goal.returns-in-Some-clause-err
returns-in-Some-clause-err g c =
    (refl, is_reason _ c.in-Some.reason (ap (λ ps. opening.refusal_for c.args.image.now c.args.guests.now c.args.ram_mib c.args.threads (windows_for g.D.Device.window_size ps) c.args.steps) (sym c.as_slice-slice.ensures.value) ∙ sym c.refusal_for.ensures.refusal ∙ c.in-Some.is))

pub take_memory-requires-clause-most : goal.take_memory-requires-clause-most
take_memory-requires-clause-most g c = (allowed c.args.image.now c.args.guests.now c.args.ram_mib c.args.threads (windows_for g.D.Device.window_size c.as_slice-slice.result.now) c.args.steps (sym c.refusal_for.ensures.refusal ∙ c.in_default.is)).ram_most

pub take_memory-requires-clause-steps : goal.take_memory-requires-clause-steps
take_memory-requires-clause-steps g c = (allowed c.args.image.now c.args.guests.now c.args.ram_mib c.args.threads (windows_for g.D.Device.window_size c.as_slice-slice.result.now) c.args.steps (sym c.refusal_for.ensures.refusal ∙ c.in_default.is)).steps_most

pub take_memory-requires-clause-place : goal.take_memory-requires-clause-place
take_memory-requires-clause-place g c = (allowed c.args.image.now c.args.guests.now c.args.ram_mib c.args.threads (windows_for g.D.Device.window_size c.as_slice-slice.result.now) c.args.steps (sym c.refusal_for.ensures.refusal ∙ c.in_default.is)).no_place

pub reset-requires-clause-some : goal.reset-requires-clause-some
reset-requires-clause-some g c =
    let one = (allowed c.args.image.now c.args.guests.now c.args.ram_mib c.args.threads (windows_for g.D.Device.window_size c.as_slice-slice.result.now) c.args.steps (sym c.refusal_for.ensures.refusal ∙ c.in_default.is)).threads_one in
    omega (arith, one)

pub reset-requires-clause-most : goal.reset-requires-clause-most
reset-requires-clause-most g c =
    let one = (allowed c.args.image.now c.args.guests.now c.args.ram_mib c.args.threads (windows_for g.D.Device.window_size c.as_slice-slice.result.now) c.args.steps (sym c.refusal_for.ensures.refusal ∙ c.in_default.is)).threads_one in
    omega (arith, one)

pub plug_all-requires : goal.plug_all-requires
plug_all-requires g c =
    let fine = rw c.as_slice-slice.ensures.value at (allowed c.args.image.now c.args.guests.now c.args.ram_mib c.args.threads (windows_for g.D.Device.window_size c.as_slice-slice.result.now) c.args.steps (sym c.refusal_for.ensures.refusal ∙ c.in_default.is)).none_refused in
    (search rules, fine)

pub invariant_of-result : goal.invariant_of-result
invariant_of-result g c =
    let few = (allowed c.args.image.now c.args.guests.now c.args.ram_mib c.args.threads (windows_for g.D.Device.window_size c.as_slice-slice.result.now) c.args.steps (sym c.refusal_for.ensures.refusal ∙ c.in_default.is)).steps_most in
    let plugged : windows_of c.refusal_for.new.bus ≡ plugged_windows (windows_for g.D.Device.window_size c.args.devices.items) =
    c.refusal_for.ensures.plugged c.in_default.is ∙ ap (λ ps. plugged_windows (windows_for g.D.Device.window_size ps)) c.as_slice-slice.ensures.value in
    let windows : windows_of c.plug_all.result ≡ windows_of c.refusal_for.new.bus =
    ap (λ slots. windows_of slots) c.plug_all.ensures ∙ windows_of-slots_for g.D.Device.window_size c.args.devices.items ∙ sym plugged in
    IsKept-opened c.args.image.now.entry c.args.threads c.args.steps c.reset.result c.in-Ok.memory.0.ram (windows_of c.refusal_for.new.bus) c.plug_all.result c.in-Ok.memory.1 c.in-Ok.ensures.journal c.reset.ensures.reset c.reset.ensures.count windows c.in-Ok.ensures.bytes few

pub returns-clause-ok : goal.returns-clause-ok
returns-clause-ok g c =
    let none : opening.refusal_for c.args.image.now c.args.guests.now c.args.ram_mib c.args.threads (windows_for g.D.Device.window_size c.args.devices.items) c.args.steps ≡ None =
    ap (λ ps. opening.refusal_for c.args.image.now c.args.guests.now c.args.ram_mib c.args.threads (windows_for g.D.Device.window_size ps) c.args.steps) (sym c.as_slice-slice.ensures.value) ∙ sym c.refusal_for.ensures.refusal ∙ c.in_default.is in
    let plugged : windows_of c.refusal_for.new.bus ≡ plugged_windows (windows_for g.D.Device.window_size c.args.devices.items) =
    c.refusal_for.ensures.plugged c.in_default.is ∙ ap (λ ps. plugged_windows (windows_for g.D.Device.window_size ps)) c.as_slice-slice.ensures.value in
    (none, is_opened g.D.Device.window_size c.args.image.now c.args.guests.now c.args.ram_mib c.args.threads c.args.devices.items c.args.steps c.reset.result c.in-Ok.memory.0.ram (windows_of c.refusal_for.new.bus) c.plug_all.result c.in-Ok.memory.1 plugged c.reset.ensures.reset c.in-Ok.ensures.ram c.plug_all.ensures c.in-Ok.ensures.journal)
