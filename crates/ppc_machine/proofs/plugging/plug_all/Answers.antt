use Rattle.std.proofs.Common.{◌≡◌, ◌++◌, [], ◌∷◌, sym, ap, ◌∙◌, append_assoc}
use Rattle.std.proofs.lemmas.Option.{none-some}
use Rattle.std.proofs.lemmas.List.{append-nil, nil_from_length}
use Rattle.ppc_machine.specs.Plugging as plugging
use Rattle.ppc_machine.proofs.PlugLemmas.{not_refused, slots_for-push}
use Rattle.ppc_machine.proofs.plugging.plug_all.Goals as goal

pub loop-plugged-init : goal.loop-plugged-init
loop-plugged-init g c = record { slots = c.new-bus.ensures; split = c.into_iter-plugged-iterator.ensures.into_iter_gives.0 }

pub loop-plugged-preserved : goal.loop-plugged-preserved
loop-plugged-preserved g c =
    let steps = c.in-Some.ensures.steps in
    record {
      slots = c.in-Ok.ensures.plugged ∙ slots_for-push g.D.Device.window_size c.loop-plugged.yielded c.in-Some.plugged c.loop-plugged.bus c.loop-plugged.invariant.slots;
      split = append_assoc c.loop-plugged.yielded (c.in-Some.plugged ∷ []) c.next.new.self.rest.items ∙ ap (λ ps. c.loop-plugged.yielded ++ ps) (sym steps.0) ∙ c.loop-plugged.invariant.split;
    }

pub unreachable-requires : goal.unreachable-requires
unreachable-requires g c =
    let steps = c.in-Some.ensures.steps in
    let split : c.loop-plugged.yielded ++ c.in-Some.plugged ∷ c.next.new.self.rest.items ≡ c.args.devices.items = ap (λ ps. c.loop-plugged.yielded ++ ps) (sym steps.0) ∙ c.loop-plugged.invariant.split in
    none-some c.in-Err.field-0.reason (sym (not_refused g.D.Device.window_size c.args.devices.items c.loop-plugged.yielded c.next.new.self.rest.items c.in-Some.plugged c.loop-plugged.bus c.requires split c.loop-plugged.invariant.slots) ∙ sym c.in-Err.ensures.reason)

pub returns : goal.returns
returns g c =
    let none : c.loop-plugged.plugged-iterator.rest.items ≡ [] = nil_from_length c.loop-plugged.plugged-iterator.rest.items (sym c.loop-plugged.plugged-iterator.rest.ok.0 ∙ c.in-None.ensures.steps.0) in
    let all : c.loop-plugged.yielded ≡ c.args.devices.items = sym (append-nil c.loop-plugged.yielded) ∙ ap (λ ps. c.loop-plugged.yielded ++ ps) (sym none) ∙ c.loop-plugged.invariant.split in
    c.loop-plugged.invariant.slots ∙ ap (plugging.slots_for g.D.Device.window_size) all
