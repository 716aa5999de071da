use Rattle.std.proofs.Common.{◌≡◌, [], Some, None, ap, sym, ◌∙◌, refl}
use Rattle.journal_core.specs.declared.asks.Found.TheVariants.{Real, Fault, Stop}
use Rattle.journal_core.specs.declared.rows.StepEnd.TheVariants.{Took, Stopped}
use Rattle.journal_core.specs.declared.rows.StopName.TheVariants.{NoStorage}
use Rattle.journal_core.specs.declared.rows.Use.TheVariants.{Unused}
use Rattle.form_outcomes.specs.Outcomes.{Takes, Stops}
use Rattle.storage_ops.specs.Effects.{around}
use Rattle.storage_ops.specs.Accesses.{scene_of}
use Rattle.storage_ops.proofs.AnsweringLemmas.{quiet_stays}
use Rattle.ppc_step.specs.States.{word_at}
use Rattle.ppc_step.specs.Steps.{fetched_outcome}
use Rattle.ppc_step.proofs.PerformingLemmas.{performs_guest_zero, performs_no_word, performs_word}
use Rattle.ppc_step.proofs.stepping.perform.Goals as goal

pub returns-then-is_guest_zero-clause-performed : goal.returns-then-is_guest_zero-clause-performed
returns-then-is_guest_zero-clause-performed g c =
    performs_guest_zero g.T.Translate.chooses g.B.Port.related g.B.Port.windows c.args.number c.args.thread.now c.args.store.now.ram c.args.bus.now c.args.journal.now c.without_word-then-is_guest_zero.result
    (sym c.pending.ensures ∙ c.in_default.is) (sym c.is_guest_zero.ensures ∙ c.if-is_guest_zero.true) c.without_word-then-is_guest_zero.ensures

pub returns-in-Fault-clause-performed : goal.returns-in-Fault-clause-performed
returns-in-Fault-clause-performed g c =
    performs_no_word g.T.Translate.chooses g.B.Port.related g.B.Port.windows c.args.number c.args.moment c.args.thread.now c.args.store.now.ram c.args.bus.now c.fetch_ask-ask.result c.args.journal.now c.translate.new.journal (Fault c.in-Fault.cause c.in-Fault.used) (Takes c.in-Fault.cause) c.without_word-in-Fault.result (Took c.in-Fault.cause) c.in-Fault.used
    c.requires.moment (sym c.pending.ensures ∙ c.in_default.is) (sym c.is_guest_zero.ensures ∙ c.if-is_guest_zero.false) c.fetch_ask-ask.ensures c.in-Fault.ensures.adds c.in-Fault.ensures.answer c.in-Fault.ensures.chosen refl (λ answer. refl) refl refl refl c.without_word-in-Fault.ensures

pub returns-in-Stop-clause-performed : goal.returns-in-Stop-clause-performed
returns-in-Stop-clause-performed g c =
    performs_no_word g.T.Translate.chooses g.B.Port.related g.B.Port.windows c.args.number c.args.moment c.args.thread.now c.args.store.now.ram c.args.bus.now c.fetch_ask-ask.result c.args.journal.now c.translate.new.journal (Stop c.in-Stop.name c.in-Stop.value) (Stops c.in-Stop.name c.in-Stop.value) c.without_word-in-Stop.result (Stopped c.in-Stop.name c.in-Stop.value) Unused
    c.requires.moment (sym c.pending.ensures ∙ c.in_default.is) (sym c.is_guest_zero.ensures ∙ c.if-is_guest_zero.false) c.fetch_ask-ask.ensures c.in-Stop.ensures.adds c.in-Stop.ensures.answer c.in-Stop.ensures.chosen refl (λ answer. refl) refl refl refl c.without_word-in-Stop.ensures

pub execute_word-out-requires-clause-quiet : goal.execute_word-out-requires-clause-quiet
execute_word-out-requires-clause-quiet g c = quiet_stays c.args.journal.now c.translate.new.journal c.in-Real.ensures.adds c.requires.quiet

pub returns-in-None-clause-performed : goal.returns-in-None-clause-performed
returns-in-None-clause-performed g c =
    let no_word : word_at c.args.store.now.ram c.in-Real.at ≡ None = sym c.fetch.ensures ∙ c.in-None.is in
    performs_no_word g.T.Translate.chooses g.B.Port.related g.B.Port.windows c.args.number c.args.moment c.args.thread.now c.args.store.now.ram c.args.bus.now c.fetch_ask-ask.result c.args.journal.now c.translate.new.journal (Real c.in-Real.at c.in-Real.used) (Stops NoStorage c.in-Real.at) c.without_word-in-None.result (Stopped NoStorage c.in-Real.at) c.in-Real.used
    c.requires.moment (sym c.pending.ensures ∙ c.in_default.is) (sym c.is_guest_zero.ensures ∙ c.if-is_guest_zero.false) c.fetch_ask-ask.ensures c.in-Real.ensures.adds c.in-Real.ensures.answer c.in-Real.ensures.chosen no_word (λ answer. sym (ap (λ w. fetched_outcome c.args.thread.now c.in-Real.at w (around (g.B.Port.windows c.args.bus.now) c.args.store.now.ram [] answer)) no_word)) refl refl refl c.without_word-in-None.ensures

pub returns-in-Some-fetch-clause-performed : goal.returns-in-Some-fetch-clause-performed
returns-in-Some-fetch-clause-performed g c =
    let word_is : word_at c.args.store.now.ram c.in-Real.at ≡ Some c.in-Some-fetch.word = sym c.fetch.ensures ∙ c.in-Some-fetch.is in
    performs_word g.T.Translate.chooses g.B.Port.related g.B.Port.windows c.args.number c.args.moment c.in-Some-fetch.word c.in-Real.at c.args.thread.now c.args.store.now.ram c.args.bus.now c.fetch_ask-ask.result c.args.journal.now c.translate.new.journal
    (scene_of c.execute_word-out.new.thread c.execute_word-out.new.store.ram c.execute_word-out.new.bus c.execute_word-out.new.journal) c.in-Real.used c.execute_word-out.result _
    c.requires.moment g.met.T.Translate.chosen_stays c.fills_are_named.ensures.named (sym c.pending.ensures ∙ c.in_default.is) (sym c.is_guest_zero.ensures ∙ c.if-is_guest_zero.false) c.fetch_ask-ask.ensures c.in-Real.ensures.adds c.in-Real.ensures.answer c.in-Real.ensures.chosen word_is c.execute_word-out.ensures.executed refl
