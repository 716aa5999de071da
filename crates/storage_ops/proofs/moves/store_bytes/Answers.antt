use Rattle.std.proofs.Common.{◌≡◌, [], ◌∷◌, Some, None, ap, sym, ◌∙◌, refl, subst}
use Rattle.journal_core.specs.declared.rows.StepEnd.TheVariants.{Ran}
use Rattle.form_outcomes.specs.Outcomes.{Goes}
use Rattle.ppc_bus.specs.Devices.{store_row}
use Rattle.thread_regs.specs.Registers.{gpr}
use Rattle.storage_ops.specs.Forms as forms
use Rattle.storage_ops.specs.Parts.{listed}
use Rattle.storage_ops.specs.Checks as checks
use Rattle.storage_ops.specs.Effects as effects
use Rattle.storage_ops.specs.Accesses.{Carries, scene_of}
use Rattle.storage_ops.proofs.MovesLemmas.{carries_written, carries_asked, single_size, store_is_asked}
use Rattle.storage_ops.proofs.moves.store_bytes.Goals as goal

pub returns-in-None : goal.returns-in-None
returns-in-None g c =
    let none : checks.device_of (g.B.Port.windows c.args.bus.now) (listed c.args.parts.now) ≡ None = sym c.device_of.ensures ∙ c.in-None.is in
    subst (λ place. Carries g.B.Port.related g.B.Port.windows c.args.number (λ answer. Goes (effects.store_after c.args.form.now c.args.register c.args.base c.args.at c.args.thread.now (listed c.args.parts.now) place)) (scene_of c.args.thread.now c.args.store.now.ram c.args.bus.now c.args.journal.now) (scene_of c.update.new.thread c.store_parts.new.store.ram c.args.bus.now c.store_parts.new.journal) Ran) (sym none)
    (carries_written g.B.Port.related g.B.Port.windows c.args.number c.args.moment (λ answer. effects.store_after c.args.form.now c.args.register c.args.base c.args.at c.args.thread.now (listed c.args.parts.now) None) (effects.split c.sent-value.result (listed c.args.parts.now)) c.args.thread.now c.update.new.thread c.args.store.now.ram c.store_parts.new.store.ram c.args.bus.now c.args.journal.now c.store_parts.new.journal c.requires.moment
    c.update.ensures (ap (λ v. effects.split v (listed c.args.parts.now)) (sym (c.sent-value.ensures.value ∙ ap (λ v. forms.sent c.args.form.now v) c.gpr.ensures))) refl c.store_parts.ensures.ram c.store_parts.ensures.rows c.store_parts.ensures.right)

pub returns-in-Some : goal.returns-in-Some
returns-in-Some g c =
    let some : checks.device_of (g.B.Port.windows c.args.bus.now) (listed c.args.parts.now) ≡ Some c.in-Some.place = sym c.device_of.ensures ∙ c.in-Some.is in
    let same : c.args.parts.now.first.size ≡ c.args.form.now.size = single_size (g.B.Port.windows c.args.bus.now) c.args.parts.now c.in-Some.place c.args.form.now.size some c.requires.sizes in
    let value : c.sent-value.result ≡ forms.sent c.args.form.now (gpr c.args.thread.now c.args.register) = c.sent-value.ensures.value ∙ ap (λ v. forms.sent c.args.form.now v) c.gpr.ensures in
    subst (λ place. Carries g.B.Port.related g.B.Port.windows c.args.number (λ answer. Goes (effects.store_after c.args.form.now c.args.register c.args.base c.args.at c.args.thread.now (listed c.args.parts.now) place)) (scene_of c.args.thread.now c.args.store.now.ram c.args.bus.now c.args.journal.now) (scene_of c.update.new.thread c.args.store.now.ram c.device_store-signal.new.bus c.device_store-signal.new.journal) c.end_by.result) (sym some)
    (carries_asked g.B.Port.related g.B.Port.windows c.args.number c.args.moment (λ answer. effects.store_after c.args.form.now c.args.register c.args.base c.args.at c.args.thread.now (listed c.args.parts.now) (Some c.in-Some.place)) (store_row c.args.moment c.in-Some.place.0 c.in-Some.place.1 c.args.parts.now.first.size c.sent-value.result c.device_store-signal.result) c.args.thread.now c.update.new.thread c.args.store.now.ram c.args.bus.now c.device_store-signal.new.bus c.args.journal.now c.device_store-signal.new.journal c.end_by.result c.requires.moment
    c.update.ensures refl (subst (λ v. effects.AreAsked c.args.moment (Some (effects.asked_at c.args.form.now c.in-Some.place v)) (store_row c.args.moment c.in-Some.place.0 c.in-Some.place.1 c.args.parts.now.first.size c.sent-value.result c.device_store-signal.result ∷ [])) value (store_is_asked c.args.form.now c.in-Some.place c.args.moment c.args.parts.now.first.size c.sent-value.result c.device_store-signal.result c.requires.stores same)) c.device_store-signal.ensures.row c.device_store-signal.ensures.related c.device_store-signal.ensures.windows c.end_by.ensures)
