use Rattle.std.proofs.Common.{◌≡◌, ◌+◌, ◌++◌, nat_lt, List, length, length-append, Some, ap, sym, ◌∙◌, subst, arith}
use Rattle.journal_core.specs.declared.rows.DeviceRow.{DeviceRow}
use Rattle.journal_core.specs.Rows.{JournalView}
use Rattle.journal_core.specs.Standing.{AreNamed}
use Rattle.journal_core.specs.Steps.{add_step}
use Rattle.journal_core.specs.Translating.{SameKept}
use Rattle.thread_regs.specs.declared.registers.Thread.{Thread}
use Rattle.storage_ops.specs.Accesses.{scene_of}
use Rattle.storage_ops.specs.Effects.{answer_in, behind, AreAsked}
use Rattle.ppc_step.specs.States.{state_of, ptcrs_of}
use Rattle.journal_core.specs.declared.rows.ReadRow.{ReadRow}
use Rattle.journal_core.specs.declared.rows.FillRow.{FillRow}
use Rattle.ppc_step.specs.Steps.{step_outcome, threads_after}
use Rattle.ppc_step.specs.Performing.{is_asked}
use Rattle.ppc_step.specs.Rule.{StepsTo}
use Rattle.ppc_step.proofs.ExecutedLemmas.{more_is}
use Rattle.ppc_step.proofs.StepLemmas.{row_of, steps_to}
use Rattle.ppc_step.proofs.ThreadsLemmas.{threads_are, length_by, ptcr_at, ptcrs_length, dated_is_quiet}
use Rattle.ppc_step.proofs.stepping.step.Goals as goal

pub perform-ending-requires-clause-quiet : goal.perform-ending-requires-clause-quiet
perform-ending-requires-clause-quiet g c = dated_is_quiet c.args.parts.now.journal.rows c.requires.dated

pub perform-ending-requires-clause-fits : goal.perform-ending-requires-clause-fits
perform-ending-requires-clause-fits g c =
    (ptcrs_of c.args.parts.now.threads, ptcr_at c.args.parts.now.threads c.args.thread c.requires.thread ∙ ap (λ (t : Thread). Some t.ptcr) (sym c.get_mut.ensures.value), c.requires.fits)

pub returns-clause-step : goal.returns-clause-step
returns-clause-step g c =
    let performed = c.perform-ending.ensures.performed in
    let carried = performed.carries.carried in
    let devices_are : c.perform-ending.new.journal.rows.devices ≡ c.args.parts.now.journal.rows.devices ++ carried.devices =
    ap (λ (j : JournalView). j.rows.devices) carried.journal ∙ ap (λ (j : JournalView). j.rows.devices ++ carried.devices) performed.answered.adds.rows in
    let asked : nat_lt c.counts-before.result.devices c.counts.result.devices ≡ is_asked carried.devices =
    ap (λ n. nat_lt n c.counts.result.devices) c.counts-before.ensures.devices ∙ (ap (λ n. nat_lt (length c.args.parts.now.journal.rows.devices) n) c.counts.ensures.devices
    ∙ (ap (λ (ds : List DeviceRow). nat_lt (length c.args.parts.now.journal.rows.devices) (length ds)) devices_are ∙ more_is c.args.parts.now.journal.rows.devices carried.devices)) in
    let named : AreNamed performed.between.rows.reads performed.between.rows.fills =
    subst (λ (fs : List FillRow). AreNamed performed.between.rows.reads fs) (ap (λ (j : JournalView). j.rows.fills) carried.journal)
    (subst (λ (rs : List ReadRow). AreNamed rs c.perform-ending.new.journal.rows.fills) (ap (λ (j : JournalView). j.rows.reads) carried.journal) c.fills_are_named.ensures.named) in
    let outcome = step_outcome c.get_mut.result.now (g.B.Port.windows c.args.parts.now.bus) c.args.parts.now.store.ram performed.founds (answer_in carried.devices) in
    let threads : c.finish.new.threads ≡ threads_after c.args.thread c.perform-ending.new.thread c.args.parts.now.threads c.perform-ending.result.end carried.devices =
    c.finish.ensures ∙ threads_are (step_outcome c.get_mut.result.now (g.B.Port.windows c.args.parts.now.bus) c.args.parts.now.store.ram performed.founds (answer_in carried.devices)) c.args.thread (length performed.between.rows.steps) c.args.parts.now.threads c.perform-ending.new.thread carried.devices c.perform-ending.result.end (nat_lt c.counts-before.result.devices c.counts.result.devices) c.requires.thread asked performed.carries.ended
    (carried.thread ∙ ap (λ t. (behind (step_outcome c.get_mut.result.now (g.B.Port.windows c.args.parts.now.bus) c.args.parts.now.store.ram performed.founds (answer_in carried.devices)) t).thread) c.get_mut.ensures.value)
    (subst (λ t. AreAsked (length performed.between.rows.steps) (behind (step_outcome c.get_mut.result.now (g.B.Port.windows c.args.parts.now.bus) c.args.parts.now.store.ram performed.founds (answer_in carried.devices)) t).asked carried.devices) c.get_mut.ensures.value carried.device) in
    let cia : c.nia-cia.result ≡ c.get_mut.result.now.nia = c.nia-cia.ensures ∙ (ap (λ (t : Thread). t.nia) c.get.ensures ∙ sym (ap (λ (t : Thread). t.nia) c.get_mut.ensures.value)) in
    let journal : c.push_step.new.self ≡ record c.perform-ending.new.journal { rows = add_step c.perform-ending.new.journal.rows (row_of c.args.thread c.get_mut.result.now c.perform-ending.result) } =
    c.push_step.ensures.row ∙ ap (λ a. record c.perform-ending.new.journal { rows = add_step c.perform-ending.new.journal.rows (record { thread = c.args.thread; cia = a; word = c.perform-ending.result.word; end = c.perform-ending.result.end; uses = c.perform-ending.result.uses }) }) cia in
    subst (λ j. StepsTo g.T.Translate.chooses g.B.Port.related c.args.parts.now.journal j c.args.parts.now.bus c.perform-ending.new.bus (state_of c.args.parts.now.threads c.args.parts.now.store.ram (g.B.Port.windows c.args.parts.now.bus)) (state_of c.finish.new.threads c.perform-ending.new.store.ram (g.B.Port.windows c.perform-ending.new.bus)) c.args.thread c.perform-ending.result.end) (sym journal)
    (steps_to g.T.Translate.chooses g.B.Port.related g.B.Port.windows c.args.thread c.args.parts.now.threads c.finish.new.threads (scene_of c.get_mut.result.now c.args.parts.now.store.ram c.args.parts.now.bus c.args.parts.now.journal) (scene_of c.perform-ending.new.thread c.perform-ending.new.store.ram c.perform-ending.new.bus c.perform-ending.new.journal) c.perform-ending.result g.met.T.Translate.chosen_stays performed c.get_mut.ensures.value c.requires.thread c.requires.dated named c.requires.room c.requires.most threads)

pub returns-clause-count : goal.returns-clause-count
returns-clause-count g c =
    ap length c.finish.ensures ∙ length_by c.args.thread c.args.parts.now.threads c.perform-ending.new.thread c.perform-ending.result.end (nat_lt c.counts-before.result.devices c.counts.result.devices)

pub returns-clause-fits : goal.returns-clause-fits
returns-clause-fits g c =
    let count : length c.finish.new.threads ≡ length c.args.parts.now.threads =
    ap length c.finish.ensures ∙ length_by c.args.thread c.args.parts.now.threads c.perform-ending.new.thread c.perform-ending.result.end (nat_lt c.counts-before.result.devices c.counts.result.devices) in
    let same : SameKept c.perform-ending.new.journal c.push_step.new.self = record {
      reads = ap (λ (j : JournalView). j.rows.reads) c.push_step.ensures.row;
      fills = ap (λ (j : JournalView). j.rows.fills) c.push_step.ensures.row;
      dones = ap (λ (j : JournalView). j.rows.dones) c.push_step.ensures.row;
      floor = ap (λ (j : JournalView). j.floor) c.push_step.ensures.row;
      steps = (let e : length c.push_step.new.self.rows.steps ≡ length c.perform-ending.new.journal.rows.steps + 1 = ap (λ (j : JournalView). length j.rows.steps) c.push_step.ensures.row ∙ (length-append c.perform-ending.new.journal.rows.steps _) in omega (arith, e));
    } in
    c.requires.any_values c.perform-ending.new.tr c.push_step.new.self (ptcrs_of c.args.parts.now.threads) (ptcrs_of c.finish.new.threads) (ptcrs_length c.args.parts.now.threads c.finish.new.threads count)
    (g.met.T.Translate.stays c.perform-ending.new.tr c.perform-ending.new.journal c.push_step.new.self (ptcrs_of c.args.parts.now.threads) same
    (c.perform-ending.ensures.fits (ptcrs_of c.args.parts.now.threads) (ptcr_at c.args.parts.now.threads c.args.thread c.requires.thread ∙ ap (λ (t : Thread). Some t.ptcr) (sym c.get_mut.ensures.value)) c.requires.fits))
