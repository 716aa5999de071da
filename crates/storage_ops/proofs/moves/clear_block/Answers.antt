use Rattle.std.proofs.Common.{◌≡◌, length, Some, None, false, ap, sym, ◌∙◌, refl}
use Rattle.journal_core.specs.declared.rows.StepEnd.TheVariants.{Ran}
use Rattle.form_outcomes.specs.Outcomes.{Goes}
use Rattle.storage_ops.specs.Parts.{listed}
use Rattle.storage_ops.specs.Checks as checks
use Rattle.storage_ops.specs.Effects as effects
use Rattle.storage_ops.specs.Accesses.{scene_of}
use Rattle.storage_ops.proofs.MovesLemmas.{carries_written, carries_refused, carries_taken}
use Rattle.storage_ops.proofs.moves.clear_block.Goals as goal

pub returns-in-Some : goal.returns-in-Some
returns-in-Some g c =
    let refused : checks.first_refusal (g.B.Port.windows c.args.bus.now) false (length c.args.store.now.ram) (listed c.args.parts.now) ≡ Some (c.in-Some.name, c.in-Some.value) =
    ap (λ n. checks.first_refusal (g.B.Port.windows c.args.bus.now) false n (listed c.args.parts.now)) (sym c.size.ensures.size) ∙ (sym c.first_refusal.ensures ∙ c.in-Some.is) in
    carries_refused g.B.Port.related g.B.Port.windows c.args.number (checks.first_refusal (g.B.Port.windows c.args.bus.now) false (length c.args.store.now.ram) (listed c.args.parts.now)) c.in-Some.name c.in-Some.value
    (λ answer. Goes (effects.clear_after c.args.thread.now (listed c.args.parts.now))) c.args.thread.now c.args.store.now.ram c.args.bus.now c.args.journal.now refused

pub returns : goal.returns
returns g c =
    let taken : checks.first_refusal (g.B.Port.windows c.args.bus.now) false (length c.args.store.now.ram) (listed c.args.parts.now) ≡ None =
    ap (λ n. checks.first_refusal (g.B.Port.windows c.args.bus.now) false n (listed c.args.parts.now)) (sym c.size.ensures.size) ∙ (sym c.first_refusal.ensures ∙ c.in_default.is) in
    carries_taken g.B.Port.related g.B.Port.windows c.args.number (checks.first_refusal (g.B.Port.windows c.args.bus.now) false (length c.args.store.now.ram) (listed c.args.parts.now))
    (λ answer. Goes (effects.clear_after c.args.thread.now (listed c.args.parts.now))) (scene_of c.args.thread.now c.args.store.now.ram c.args.bus.now c.args.journal.now) (scene_of c.args.thread.now c.clear_doublewords.new.store.ram c.args.bus.now c.clear_doublewords.new.journal) Ran taken
    (carries_written g.B.Port.related g.B.Port.windows c.args.number c.args.moment (λ answer. effects.clear_after c.args.thread.now (listed c.args.parts.now)) (effects.zeros 16 c.args.parts.now.first.at) c.args.thread.now c.args.thread.now c.args.store.now.ram c.clear_doublewords.new.store.ram c.args.bus.now c.args.journal.now c.clear_doublewords.new.journal c.requires.moment refl refl refl c.clear_doublewords.ensures.ram c.clear_doublewords.ensures.rows c.clear_doublewords.ensures.right)
