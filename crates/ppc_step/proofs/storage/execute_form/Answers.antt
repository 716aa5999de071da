use Rattle.std.proofs.Common.{[], ap, sym, ◌∙◌, refl, subst}
use Rattle.journal_core.specs.declared.rows.StepEnd.TheVariants.{Took, Stopped}
use Rattle.journal_core.specs.declared.rows.StopName.TheVariants as stops
use Rattle.journal_core.specs.declared.rows.Use.TheVariants.{Unused}
use Rattle.journal_core.specs.declared.rows.StepEnd.{StepEnd}
use Rattle.form_outcomes.specs.Outcomes.{Takes, unsupported}
use Rattle.storage_ops.specs.declared.accesses.StorageOut.{StorageOut}
use Rattle.storage_ops.specs.Deeds.{deed_of}
use Rattle.storage_ops.specs.Reaching.{reached, asks_of}
use Rattle.storage_ops.specs.Effects.{around}
use Rattle.storage_ops.specs.Accesses.{Performs, scene_of}
use Rattle.storage_ops.proofs.MovesLemmas.{carries_nothing}
use Rattle.ppc_step.specs.Effects.{thread_outcome}
use Rattle.ppc_step.specs.Words.{alone, access_outcome, form_outcome, form_asks}
use Rattle.ppc_step.proofs.PlainForms.{IsPlain, plain_form, IsOpen, access_is_open, block_is_open, indexed_is_open, IsRefused, reserving_is_refused, indexed_is_refused}
use Rattle.ppc_step.proofs.ExecutedLemmas.{carries_same, carries_alone, performs_without, performs_same}
use Rattle.ppc_step.proofs.storage.execute_form.Goals as goal

abbrev shown : StepEnd → StorageOut
shown end = record { end = end; first = Unused; second = Unused }

pub returns-in-Access-clause-executed : goal.returns-in-Access-clause-executed
returns-in-Access-clause-executed g c =
    let open_is : IsOpen c.args.insn c.args.word c.args.thread.now = access_is_open c.args.insn c.args.word c.args.thread.now c.in-Access.op c.in-Access.rt c.in-Access.ra c.in-Access.disp c.in-Access.is in
    performs_same g.T.Translate.chooses g.B.Port.related g.B.Port.windows c.args.number (reached (asks_of (deed_of c.args.insn c.args.thread.now) c.args.thread.now)) (reached (form_asks c.args.insn c.args.word c.args.thread.now))
    (λ founds answer. access_outcome c.args.insn c.args.thread.now (around (g.B.Port.windows c.args.bus.now) c.args.store.now.ram founds answer)) (λ founds answer. form_outcome c.args.insn c.args.word c.args.thread.now (around (g.B.Port.windows c.args.bus.now) c.args.store.now.ram founds answer))
    (scene_of c.args.thread.now c.args.store.now.ram c.args.bus.now c.args.journal.now) (scene_of c.access_on.new.thread c.access_on.new.store.ram c.access_on.new.bus c.access_on.new.journal) c.access_on.result
    (λ founds. ap (λ xs. reached xs founds) open_is.asks) (λ founds answer. open_is.outcome (around (g.B.Port.windows c.args.bus.now) c.args.store.now.ram founds answer)) c.access_on.ensures.access

pub returns-in-Block-clause-executed : goal.returns-in-Block-clause-executed
returns-in-Block-clause-executed g c =
    let open_is : IsOpen c.args.insn c.args.word c.args.thread.now = block_is_open c.args.insn c.args.word c.args.thread.now c.in-Block.op c.in-Block.ra c.in-Block.rb c.in-Block.is in
    performs_same g.T.Translate.chooses g.B.Port.related g.B.Port.windows c.args.number (reached (asks_of (deed_of c.args.insn c.args.thread.now) c.args.thread.now)) (reached (form_asks c.args.insn c.args.word c.args.thread.now))
    (λ founds answer. access_outcome c.args.insn c.args.thread.now (around (g.B.Port.windows c.args.bus.now) c.args.store.now.ram founds answer)) (λ founds answer. form_outcome c.args.insn c.args.word c.args.thread.now (around (g.B.Port.windows c.args.bus.now) c.args.store.now.ram founds answer))
    (scene_of c.args.thread.now c.args.store.now.ram c.args.bus.now c.args.journal.now) (scene_of c.access_on-in-Block.new.thread c.access_on-in-Block.new.store.ram c.access_on-in-Block.new.bus c.access_on-in-Block.new.journal) c.access_on-in-Block.result
    (λ founds. ap (λ xs. reached xs founds) open_is.asks) (λ founds answer. open_is.outcome (around (g.B.Port.windows c.args.bus.now) c.args.store.now.ram founds answer)) c.access_on-in-Block.ensures.access

pub returns-in-None-clause-executed : goal.returns-in-None-clause-executed
returns-in-None-clause-executed g c =
    let open_is : IsOpen c.args.insn c.args.word c.args.thread.now = indexed_is_open c.args.insn c.args.word c.args.thread.now c.in-AccessX.op c.in-AccessX.rt c.in-AccessX.ra c.in-AccessX.rb c.in-AccessX.is (sym c.reserves.ensures ∙ c.if-reserves.false) (sym c.refusal_of.ensures ∙ c.in-None.is) in
    performs_same g.T.Translate.chooses g.B.Port.related g.B.Port.windows c.args.number (reached (asks_of (deed_of c.args.insn c.args.thread.now) c.args.thread.now)) (reached (form_asks c.args.insn c.args.word c.args.thread.now))
    (λ founds answer. access_outcome c.args.insn c.args.thread.now (around (g.B.Port.windows c.args.bus.now) c.args.store.now.ram founds answer)) (λ founds answer. form_outcome c.args.insn c.args.word c.args.thread.now (around (g.B.Port.windows c.args.bus.now) c.args.store.now.ram founds answer))
    (scene_of c.args.thread.now c.args.store.now.ram c.args.bus.now c.args.journal.now) (scene_of c.access_on-in-None.new.thread c.access_on-in-None.new.store.ram c.access_on-in-None.new.bus c.access_on-in-None.new.journal) c.access_on-in-None.result
    (λ founds. ap (λ xs. reached xs founds) open_is.asks) (λ founds answer. open_is.outcome (around (g.B.Port.windows c.args.bus.now) c.args.store.now.ram founds answer)) (subst (λ i. Performs g.T.Translate.chooses g.B.Port.related g.B.Port.windows c.args.number (reached (asks_of (deed_of i c.args.thread.now) c.args.thread.now)) (λ founds answer. access_outcome i c.args.thread.now (around (g.B.Port.windows c.args.bus.now) c.args.store.now.ram founds answer)) (scene_of c.args.thread.now c.args.store.now.ram c.args.bus.now c.args.journal.now) (scene_of c.access_on-in-None.new.thread c.access_on-in-None.new.store.ram c.access_on-in-None.new.bus c.access_on-in-None.new.journal) c.access_on-in-None.result) (sym c.in-AccessX.is) c.access_on-in-None.ensures.access)

pub returns-then-reserves-clause-executed : goal.returns-then-reserves-clause-executed
returns-then-reserves-clause-executed g c =
    let refused : IsRefused c.args.insn c.args.word c.args.thread.now (unsupported c.args.word) = reserving_is_refused c.args.insn c.args.word c.args.thread.now c.in-AccessX.op c.in-AccessX.rt c.in-AccessX.ra c.in-AccessX.rb c.in-AccessX.is (sym c.reserves.ensures ∙ c.if-reserves.true) in
    performs_without g.T.Translate.chooses g.B.Port.related g.B.Port.windows c.args.number (reached (form_asks c.args.insn c.args.word c.args.thread.now)) (λ founds answer. form_outcome c.args.insn c.args.word c.args.thread.now (around (g.B.Port.windows c.args.bus.now) c.args.store.now.ram founds answer)) c.args.thread.now c.args.thread.now c.args.store.now.ram c.args.bus.now c.args.journal.now c.without_uses.result (Stopped stops.Unsupported c.args.word)
    (ap (λ xs. reached xs []) refused.asks)
    (carries_same g.B.Port.related g.B.Port.windows c.args.number (λ answer. unsupported c.args.word) (λ answer. form_outcome c.args.insn c.args.word c.args.thread.now (around (g.B.Port.windows c.args.bus.now) c.args.store.now.ram [] answer)) (scene_of c.args.thread.now c.args.store.now.ram c.args.bus.now c.args.journal.now) (scene_of c.args.thread.now c.args.store.now.ram c.args.bus.now c.args.journal.now) (Stopped stops.Unsupported c.args.word)
    (λ answer. refused.outcome (around (g.B.Port.windows c.args.bus.now) c.args.store.now.ram [] answer))
    (carries_nothing g.B.Port.related g.B.Port.windows c.args.number (λ answer. unsupported c.args.word) c.args.thread.now c.args.store.now.ram c.args.bus.now c.args.journal.now (Stopped stops.Unsupported c.args.word) refl refl))
    (c.without_uses.ensures ∙ ap shown c.unsupported.ensures)

pub returns-in-Some-clause-executed : goal.returns-in-Some-clause-executed
returns-in-Some-clause-executed g c =
    let refused : IsRefused c.args.insn c.args.word c.args.thread.now (Takes c.in-Some.cause) = indexed_is_refused c.args.insn c.args.word c.args.thread.now c.in-AccessX.op c.in-AccessX.rt c.in-AccessX.ra c.in-AccessX.rb c.in-Some.cause c.in-AccessX.is (sym c.reserves.ensures ∙ c.if-reserves.false) (sym c.refusal_of.ensures ∙ c.in-Some.is) in
    performs_without g.T.Translate.chooses g.B.Port.related g.B.Port.windows c.args.number (reached (form_asks c.args.insn c.args.word c.args.thread.now)) (λ founds answer. form_outcome c.args.insn c.args.word c.args.thread.now (around (g.B.Port.windows c.args.bus.now) c.args.store.now.ram founds answer)) c.args.thread.now c.args.thread.now c.args.store.now.ram c.args.bus.now c.args.journal.now c.without_uses-in-Some.result (Took c.in-Some.cause)
    (ap (λ xs. reached xs []) refused.asks)
    (carries_same g.B.Port.related g.B.Port.windows c.args.number (λ answer. Takes c.in-Some.cause) (λ answer. form_outcome c.args.insn c.args.word c.args.thread.now (around (g.B.Port.windows c.args.bus.now) c.args.store.now.ram [] answer)) (scene_of c.args.thread.now c.args.store.now.ram c.args.bus.now c.args.journal.now) (scene_of c.args.thread.now c.args.store.now.ram c.args.bus.now c.args.journal.now) (Took c.in-Some.cause)
    (λ answer. refused.outcome (around (g.B.Port.windows c.args.bus.now) c.args.store.now.ram [] answer))
    (carries_nothing g.B.Port.related g.B.Port.windows c.args.number (λ answer. Takes c.in-Some.cause) c.args.thread.now c.args.store.now.ram c.args.bus.now c.args.journal.now (Took c.in-Some.cause) refl refl))
    c.without_uses-in-Some.ensures

pub returns-in_default-clause-executed : goal.returns-in_default-clause-executed
returns-in_default-clause-executed g c =
    let plain : IsPlain c.args.insn c.args.word c.args.thread.now = plain_form c.args.insn c.args.word c.args.thread.now c.in_default.not-Access c.in_default.not-AccessX c.in_default.not-Block in
    performs_without g.T.Translate.chooses g.B.Port.related g.B.Port.windows c.args.number (reached (form_asks c.args.insn c.args.word c.args.thread.now)) (λ founds answer. form_outcome c.args.insn c.args.word c.args.thread.now (around (g.B.Port.windows c.args.bus.now) c.args.store.now.ram founds answer)) c.args.thread.now c.execute.new.thread c.args.store.now.ram c.args.bus.now c.args.journal.now c.without_uses-in_default.result c.execute.result
    (ap (λ xs. reached xs []) plain.asks)
    (carries_same g.B.Port.related g.B.Port.windows c.args.number (λ answer. alone (thread_outcome c.args.insn c.args.word c.args.thread.now)) (λ answer. form_outcome c.args.insn c.args.word c.args.thread.now (around (g.B.Port.windows c.args.bus.now) c.args.store.now.ram [] answer)) (scene_of c.args.thread.now c.args.store.now.ram c.args.bus.now c.args.journal.now) (scene_of c.execute.new.thread c.args.store.now.ram c.args.bus.now c.args.journal.now) c.execute.result
    (λ answer. sym (plain.outcome (around (g.B.Port.windows c.args.bus.now) c.args.store.now.ram [] answer)))
    (carries_alone g.B.Port.related g.B.Port.windows c.args.number (thread_outcome c.args.insn c.args.word c.args.thread.now) c.args.thread.now c.execute.new.thread c.args.store.now.ram c.args.bus.now c.args.journal.now c.execute.result c.execute.ensures))
    c.without_uses-in_default.ensures
