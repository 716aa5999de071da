use Rattle.std.proofs.Common.{◌≡◌, length, Some, None, true, false, ap, sym, ◌∙◌}
use Rattle.journal_core.specs.declared.rows.StepEnd.TheVariants.{Ran}
use Rattle.form_outcomes.specs.Outcomes.{Goes}
use Rattle.storage_ops.specs.Parts.{listed, is_whole}
use Rattle.storage_ops.specs.Checks as checks
use Rattle.storage_ops.specs.Effects as effects
use Rattle.storage_ops.specs.Accesses.{scene_of}
use Rattle.storage_ops.proofs.MovesLemmas.{carries_refused, carries_taken, carries_by}
use Rattle.storage_ops.proofs.moves.move_bytes.Goals as goal

pub returns-in-Some : goal.returns-in-Some
returns-in-Some g c =
    let refused : checks.first_refusal (g.B.Port.windows c.args.bus.now) (is_whole (listed c.args.parts.now)) (length c.args.store.now.ram) (listed c.args.parts.now) ≡ Some (c.in-Some.name, c.in-Some.value) =
    ap (λ b. checks.first_refusal (g.B.Port.windows c.args.bus.now) b (length c.args.store.now.ram) (listed c.args.parts.now)) (sym c.is_whole-whole.ensures)
    ∙ (ap (λ n. checks.first_refusal (g.B.Port.windows c.args.bus.now) c.is_whole-whole.result n (listed c.args.parts.now)) (sym c.size.ensures.size) ∙ (sym c.first_refusal.ensures ∙ c.in-Some.is)) in
    carries_refused g.B.Port.related g.B.Port.windows c.args.number (checks.first_refusal (g.B.Port.windows c.args.bus.now) (is_whole (listed c.args.parts.now)) (length c.args.store.now.ram) (listed c.args.parts.now)) c.in-Some.name c.in-Some.value
    (λ answer. Goes (effects.move_after c.args.form.now c.args.register c.args.base c.args.at c.args.thread.now (g.B.Port.windows c.args.bus.now) c.args.store.now.ram answer (listed c.args.parts.now))) c.args.thread.now c.args.store.now.ram c.args.bus.now c.args.journal.now refused

pub returns-then-form : goal.returns-then-form
returns-then-form g c =
    let taken : checks.first_refusal (g.B.Port.windows c.args.bus.now) (is_whole (listed c.args.parts.now)) (length c.args.store.now.ram) (listed c.args.parts.now) ≡ None =
    ap (λ b. checks.first_refusal (g.B.Port.windows c.args.bus.now) b (length c.args.store.now.ram) (listed c.args.parts.now)) (sym c.is_whole-whole.ensures)
    ∙ (ap (λ n. checks.first_refusal (g.B.Port.windows c.args.bus.now) c.is_whole-whole.result n (listed c.args.parts.now)) (sym c.size.ensures.size) ∙ (sym c.first_refusal.ensures ∙ c.in_default.is)) in
    carries_taken g.B.Port.related g.B.Port.windows c.args.number (checks.first_refusal (g.B.Port.windows c.args.bus.now) (is_whole (listed c.args.parts.now)) (length c.args.store.now.ram) (listed c.args.parts.now))
    (λ answer. Goes (effects.move_after c.args.form.now c.args.register c.args.base c.args.at c.args.thread.now (g.B.Port.windows c.args.bus.now) c.args.store.now.ram answer (listed c.args.parts.now)))
    (scene_of c.args.thread.now c.args.store.now.ram c.args.bus.now c.args.journal.now) (scene_of c.store_bytes.new.thread c.store_bytes.new.store.ram c.store_bytes.new.bus c.store_bytes.new.journal) c.store_bytes.result taken
    (carries_by g.B.Port.related g.B.Port.windows c.args.number c.args.form.now.store true
    (λ answer. effects.store_after c.args.form.now c.args.register c.args.base c.args.at c.args.thread.now (listed c.args.parts.now) (checks.device_of (g.B.Port.windows c.args.bus.now) (listed c.args.parts.now)))
    (λ answer. effects.load_after c.args.form.now c.args.register c.args.base c.args.at c.args.thread.now c.args.store.now.ram answer (listed c.args.parts.now) (checks.device_of (g.B.Port.windows c.args.bus.now) (listed c.args.parts.now)))
    (scene_of c.args.thread.now c.args.store.now.ram c.args.bus.now c.args.journal.now) (scene_of c.store_bytes.new.thread c.store_bytes.new.store.ram c.store_bytes.new.bus c.store_bytes.new.journal) c.store_bytes.result c.if-form.true c.store_bytes.ensures)

pub returns : goal.returns
returns g c =
    let taken : checks.first_refusal (g.B.Port.windows c.args.bus.now) (is_whole (listed c.args.parts.now)) (length c.args.store.now.ram) (listed c.args.parts.now) ≡ None =
    ap (λ b. checks.first_refusal (g.B.Port.windows c.args.bus.now) b (length c.args.store.now.ram) (listed c.args.parts.now)) (sym c.is_whole-whole.ensures)
    ∙ (ap (λ n. checks.first_refusal (g.B.Port.windows c.args.bus.now) c.is_whole-whole.result n (listed c.args.parts.now)) (sym c.size.ensures.size) ∙ (sym c.first_refusal.ensures ∙ c.in_default.is)) in
    carries_taken g.B.Port.related g.B.Port.windows c.args.number (checks.first_refusal (g.B.Port.windows c.args.bus.now) (is_whole (listed c.args.parts.now)) (length c.args.store.now.ram) (listed c.args.parts.now))
    (λ answer. Goes (effects.move_after c.args.form.now c.args.register c.args.base c.args.at c.args.thread.now (g.B.Port.windows c.args.bus.now) c.args.store.now.ram answer (listed c.args.parts.now)))
    (scene_of c.args.thread.now c.args.store.now.ram c.args.bus.now c.args.journal.now) (scene_of c.load_bytes.new.thread c.args.store.now.ram c.load_bytes.new.bus c.load_bytes.new.journal) Ran taken
    (carries_by g.B.Port.related g.B.Port.windows c.args.number c.args.form.now.store false
    (λ answer. effects.store_after c.args.form.now c.args.register c.args.base c.args.at c.args.thread.now (listed c.args.parts.now) (checks.device_of (g.B.Port.windows c.args.bus.now) (listed c.args.parts.now)))
    (λ answer. effects.load_after c.args.form.now c.args.register c.args.base c.args.at c.args.thread.now c.args.store.now.ram answer (listed c.args.parts.now) (checks.device_of (g.B.Port.windows c.args.bus.now) (listed c.args.parts.now)))
    (scene_of c.args.thread.now c.args.store.now.ram c.args.bus.now c.args.journal.now) (scene_of c.load_bytes.new.thread c.args.store.now.ram c.load_bytes.new.bus c.load_bytes.new.journal) Ran c.if-form.false c.load_bytes.ensures)
