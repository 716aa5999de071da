use Rattle.std.proofs.Common.{◌≡◌, ℕ, [], ap, sym, ◌∙◌, refl}
use Rattle.journal_core.specs.declared.rows.StepEnd.TheVariants.{Took, Stopped}
use Rattle.journal_core.specs.declared.rows.StopName.TheVariants as stops
use Rattle.journal_core.specs.declared.rows.Use.TheVariants.{Unused}
use Rattle.journal_core.specs.declared.rows.StepEnd.{StepEnd}
use Rattle.form_outcomes.specs.Outcomes.{Takes, Stops, unsupported}
use Rattle.form_outcomes.specs.Programs.{assist}
use Rattle.word_decoder.specs.declared.decoded.Decoded.{Decoded}
use Rattle.word_decoder.specs.declared.decoded.Decoded.TheVariants.{Form, Zero, InvalidForm, Unsupported}
use Rattle.word_decoder.specs.Decode.{decoded_of}
use Rattle.thread_regs.specs.declared.registers.Thread.{Thread}
use Rattle.storage_ops.specs.declared.accesses.StorageOut.{StorageOut}
use Rattle.storage_ops.specs.Reaching.{reached}
use Rattle.storage_ops.specs.Effects.{Around, around}
use Rattle.storage_ops.specs.Accesses.{scene_of}
use Rattle.storage_ops.proofs.MovesLemmas.{carries_nothing}
use Rattle.ppc_step.specs.Words.{form_outcome, form_asks, decoded_outcome, decoded_asks, word_outcome, word_asks}
use Rattle.ppc_step.proofs.ExecutedLemmas.{carries_same, performs_without, performs_same}
use Rattle.ppc_step.proofs.words.execute_word.Goals as goal

abbrev shown : StepEnd → StorageOut
shown end = record { end = end; first = Unused; second = Unused }

asks_by : (word : ℕ) (t : Thread) (d : Decoded) → decoded_of word ≡ d → word_asks word t ≡ decoded_asks d word t
unfolding word_asks
asks_by word t d is = ap (λ d. decoded_asks d word t) is

outcome_by : (word : ℕ) (t : Thread) (x : Around) (d : Decoded) → decoded_of word ≡ d → word_outcome word t x ≡ decoded_outcome d word t x
unfolding word_outcome
outcome_by word t x d is = ap (λ d. decoded_outcome d word t x) is

pub returns-in-Form-clause-executed : goal.returns-in-Form-clause-executed
unfolding decoded_asks decoded_outcome
returns-in-Form-clause-executed g c =
    let is : decoded_of c.args.word ≡ Form c.in-Form.insn = sym c.decode.ensures.form ∙ c.in-Form.is in
    performs_same g.T.Translate.chooses g.B.Port.related g.B.Port.windows c.args.number (reached (form_asks c.in-Form.insn c.args.word c.args.thread.now)) (reached (word_asks c.args.word c.args.thread.now))
    (λ founds answer. form_outcome c.in-Form.insn c.args.word c.args.thread.now (around (g.B.Port.windows c.args.bus.now) c.args.store.now.ram founds answer)) (λ founds answer. word_outcome c.args.word c.args.thread.now (around (g.B.Port.windows c.args.bus.now) c.args.store.now.ram founds answer)) (scene_of c.args.thread.now c.args.store.now.ram c.args.bus.now c.args.journal.now) (scene_of c.execute_form.new.thread c.execute_form.new.store.ram c.execute_form.new.bus c.execute_form.new.journal) c.execute_form.result
    (λ founds. ap (λ xs. reached xs founds) (sym (asks_by c.args.word c.args.thread.now (Form c.in-Form.insn) is))) (λ founds answer. sym (outcome_by c.args.word c.args.thread.now (around (g.B.Port.windows c.args.bus.now) c.args.store.now.ram founds answer) (Form c.in-Form.insn) is)) c.execute_form.ensures.executed

pub returns-in-Zero-clause-executed : goal.returns-in-Zero-clause-executed
unfolding decoded_asks decoded_outcome
returns-in-Zero-clause-executed g c =
    let is : decoded_of c.args.word ≡ Zero = sym c.decode.ensures.form ∙ c.in-Zero.is in
    performs_without g.T.Translate.chooses g.B.Port.related g.B.Port.windows c.args.number (reached (word_asks c.args.word c.args.thread.now)) (λ founds answer. word_outcome c.args.word c.args.thread.now (around (g.B.Port.windows c.args.bus.now) c.args.store.now.ram founds answer)) c.args.thread.now c.args.thread.now c.args.store.now.ram c.args.bus.now c.args.journal.now c.without_uses.result (Took (assist c.args.word))
    (ap (λ xs. reached xs []) (asks_by c.args.word c.args.thread.now (Zero) is))
    (carries_same g.B.Port.related g.B.Port.windows c.args.number (λ answer. Takes (assist c.args.word)) (λ answer. word_outcome c.args.word c.args.thread.now (around (g.B.Port.windows c.args.bus.now) c.args.store.now.ram [] answer)) (scene_of c.args.thread.now c.args.store.now.ram c.args.bus.now c.args.journal.now) (scene_of c.args.thread.now c.args.store.now.ram c.args.bus.now c.args.journal.now) (Took (assist c.args.word))
    (λ answer. sym (outcome_by c.args.word c.args.thread.now (around (g.B.Port.windows c.args.bus.now) c.args.store.now.ram [] answer) (Zero) is))
    (carries_nothing g.B.Port.related g.B.Port.windows c.args.number (λ answer. Takes (assist c.args.word)) c.args.thread.now c.args.store.now.ram c.args.bus.now c.args.journal.now (Took (assist c.args.word)) refl refl))
    (c.without_uses.ensures ∙ ap (λ x. shown (Took x)) c.assist.ensures)

pub returns-in-InvalidForm-clause-executed : goal.returns-in-InvalidForm-clause-executed
unfolding decoded_asks decoded_outcome
returns-in-InvalidForm-clause-executed g c =
    let is : decoded_of c.args.word ≡ InvalidForm c.in-InvalidForm.field-0 = sym c.decode.ensures.form ∙ c.in-InvalidForm.is in
    performs_without g.T.Translate.chooses g.B.Port.related g.B.Port.windows c.args.number (reached (word_asks c.args.word c.args.thread.now)) (λ founds answer. word_outcome c.args.word c.args.thread.now (around (g.B.Port.windows c.args.bus.now) c.args.store.now.ram founds answer)) c.args.thread.now c.args.thread.now c.args.store.now.ram c.args.bus.now c.args.journal.now c.without_uses-in-InvalidForm.result (Stopped stops.InvalidForm c.args.word)
    (ap (λ xs. reached xs []) (asks_by c.args.word c.args.thread.now (InvalidForm c.in-InvalidForm.field-0) is))
    (carries_same g.B.Port.related g.B.Port.windows c.args.number (λ answer. Stops stops.InvalidForm c.args.word) (λ answer. word_outcome c.args.word c.args.thread.now (around (g.B.Port.windows c.args.bus.now) c.args.store.now.ram [] answer)) (scene_of c.args.thread.now c.args.store.now.ram c.args.bus.now c.args.journal.now) (scene_of c.args.thread.now c.args.store.now.ram c.args.bus.now c.args.journal.now) (Stopped stops.InvalidForm c.args.word)
    (λ answer. sym (outcome_by c.args.word c.args.thread.now (around (g.B.Port.windows c.args.bus.now) c.args.store.now.ram [] answer) (InvalidForm c.in-InvalidForm.field-0) is))
    (carries_nothing g.B.Port.related g.B.Port.windows c.args.number (λ answer. Stops stops.InvalidForm c.args.word) c.args.thread.now c.args.store.now.ram c.args.bus.now c.args.journal.now (Stopped stops.InvalidForm c.args.word) refl refl))
    (c.without_uses-in-InvalidForm.ensures ∙ ap (λ v. shown (Stopped stops.InvalidForm v)) c.from.ensures)

pub returns-in-Unsupported-clause-executed : goal.returns-in-Unsupported-clause-executed
unfolding decoded_asks decoded_outcome
returns-in-Unsupported-clause-executed g c =
    let is : decoded_of c.args.word ≡ Unsupported = sym c.decode.ensures.form ∙ c.in-Unsupported.is in
    performs_without g.T.Translate.chooses g.B.Port.related g.B.Port.windows c.args.number (reached (word_asks c.args.word c.args.thread.now)) (λ founds answer. word_outcome c.args.word c.args.thread.now (around (g.B.Port.windows c.args.bus.now) c.args.store.now.ram founds answer)) c.args.thread.now c.args.thread.now c.args.store.now.ram c.args.bus.now c.args.journal.now c.without_uses-in-Unsupported.result (Stopped stops.Unsupported c.args.word)
    (ap (λ xs. reached xs []) (asks_by c.args.word c.args.thread.now (Unsupported) is))
    (carries_same g.B.Port.related g.B.Port.windows c.args.number (λ answer. unsupported c.args.word) (λ answer. word_outcome c.args.word c.args.thread.now (around (g.B.Port.windows c.args.bus.now) c.args.store.now.ram [] answer)) (scene_of c.args.thread.now c.args.store.now.ram c.args.bus.now c.args.journal.now) (scene_of c.args.thread.now c.args.store.now.ram c.args.bus.now c.args.journal.now) (Stopped stops.Unsupported c.args.word)
    (λ answer. sym (outcome_by c.args.word c.args.thread.now (around (g.B.Port.windows c.args.bus.now) c.args.store.now.ram [] answer) (Unsupported) is))
    (carries_nothing g.B.Port.related g.B.Port.windows c.args.number (λ answer. unsupported c.args.word) c.args.thread.now c.args.store.now.ram c.args.bus.now c.args.journal.now (Stopped stops.Unsupported c.args.word) refl refl))
    (c.without_uses-in-Unsupported.ensures ∙ ap shown c.unsupported.ensures)
