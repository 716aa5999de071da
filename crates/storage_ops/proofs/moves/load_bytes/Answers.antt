use Rattle.std.proofs.Common.{◌≡◌, Some, None, ap, sym, ◌∙◌, refl, subst}
use Rattle.journal_core.specs.declared.rows.StepEnd.TheVariants.{Ran}
use Rattle.form_outcomes.specs.Outcomes.{Goes}
use Rattle.ppc_bus.specs.Devices.{load_row}
use Rattle.thread_regs.specs.Registers.{with_gpr}
use Rattle.storage_ops.specs.Forms as forms
use Rattle.storage_ops.specs.Parts.{listed}
use Rattle.storage_ops.specs.Checks as checks
use Rattle.storage_ops.specs.Effects as effects
use Rattle.storage_ops.specs.Accesses.{Carries, scene_of}
use Rattle.storage_ops.proofs.MovesLemmas.{carries_plain, carries_asked, single_size, load_is_asked}
use Rattle.storage_ops.proofs.moves.load_bytes.Goals as goal

pub returns-in-None : goal.returns-in-None
returns-in-None g c =
    let none : checks.device_of (g.B.Port.windows c.args.bus.now) (listed c.args.parts.now) ≡ None = sym c.device_of.ensures ∙ c.in-None.is in
    subst (λ place. Carries g.B.Port.related g.B.Port.windows c.args.number (λ answer. Goes (effects.load_after c.args.form.now c.args.register c.args.base c.args.at c.args.thread.now c.args.store.now.ram answer (listed c.args.parts.now) place)) (scene_of c.args.thread.now c.args.store.now.ram c.args.bus.now c.args.journal.now) (scene_of c.finish_load.new.thread c.args.store.now.ram c.args.bus.now c.args.journal.now) Ran) (sym none)
    (carries_plain g.B.Port.related g.B.Port.windows c.args.number (λ answer. effects.load_after c.args.form.now c.args.register c.args.base c.args.at c.args.thread.now c.args.store.now.ram answer (listed c.args.parts.now) None) c.args.thread.now c.finish_load.new.thread c.args.store.now.ram c.args.bus.now c.args.journal.now
    (c.finish_load.ensures ∙ ap (λ v. effects.updated c.args.form.now c.args.base c.args.at (with_gpr c.args.thread.now c.args.register (forms.loaded c.args.form.now v))) c.load_parts-value.ensures.value) refl refl)

pub returns-in-Some : goal.returns-in-Some
returns-in-Some g c =
    let some : checks.device_of (g.B.Port.windows c.args.bus.now) (listed c.args.parts.now) ≡ Some c.in-Some.place = sym c.device_of.ensures ∙ c.in-Some.is in
    let same : c.args.parts.now.first.size ≡ c.args.form.now.size = single_size (g.B.Port.windows c.args.bus.now) c.args.parts.now c.in-Some.place c.args.form.now.size some c.requires.sizes in
    let row = load_row c.args.moment c.in-Some.place.0 c.in-Some.place.1 c.args.parts.now.first.size c.device_load-value.result in
    subst (λ place. Carries g.B.Port.related g.B.Port.windows c.args.number (λ answer. Goes (effects.load_after c.args.form.now c.args.register c.args.base c.args.at c.args.thread.now c.args.store.now.ram answer (listed c.args.parts.now) place)) (scene_of c.args.thread.now c.args.store.now.ram c.args.bus.now c.args.journal.now) (scene_of c.finish_load-in-Some.new.thread c.args.store.now.ram c.device_load-value.new.bus c.device_load-value.new.journal) Ran) (sym some)
    (carries_asked g.B.Port.related g.B.Port.windows c.args.number c.args.moment (λ answer. effects.load_after c.args.form.now c.args.register c.args.base c.args.at c.args.thread.now c.args.store.now.ram answer (listed c.args.parts.now) (Some c.in-Some.place)) (load_row c.args.moment c.in-Some.place.0 c.in-Some.place.1 c.args.parts.now.first.size c.device_load-value.result) c.args.thread.now c.finish_load-in-Some.new.thread c.args.store.now.ram c.args.bus.now c.device_load-value.new.bus c.args.journal.now c.device_load-value.new.journal Ran c.requires.moment
    c.finish_load-in-Some.ensures refl (load_is_asked c.args.form.now c.in-Some.place c.args.moment c.args.parts.now.first.size c.device_load-value.result c.requires.load same c.device_load-value.ensures.below) c.device_load-value.ensures.row c.device_load-value.ensures.related c.device_load-value.ensures.windows refl)
