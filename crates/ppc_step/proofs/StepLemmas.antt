-- A step that was performed, with its row, is one step by the rule.
use Rattle.std.proofs.Common.{◌≡◌, ℕ, ◌<◌, ◌≤◌, List, [], length, Option, refl, sym, ap, ◌∙◌, subst}
use Rattle.journal_core.specs.declared.asks.Found.{Found}
use Rattle.journal_core.specs.declared.rows.DeviceRow.{DeviceRow}
use Rattle.journal_core.specs.declared.rows.StepRow.{StepRow}
use Rattle.journal_core.specs.Past.{past, word_in}
use Rattle.journal_core.specs.Rows.{JournalView}
use Rattle.journal_core.specs.Room.{HasRoom, most_steps}
use Rattle.journal_core.specs.Standing.{AreNamed}
use Rattle.journal_core.specs.Steps.{StepRows, IsDated, IsOwn, add_step, with_own}
use Rattle.journal_core.specs.Runs.{PastStep}
use Rattle.journal_core.specs.Turns.{Mark, Query, query_of, turn_in, mark_of}
use Rattle.journal_core.specs.Answers.{IsAnswer, AreAnswered, KeepsUses, ChoosesUses}
use Rattle.journal_core.specs.Translating.{Stays, AreTrue}
use Rattle.journal_core.proofs.RoomLemmas.{HasRoom-more}
use Rattle.ppc_bus.specs.Windows.{Window}
use Rattle.thread_regs.specs.declared.registers.Thread.{Thread}
use Rattle.thread_regs.specs.Registers.{thread_at}
use Rattle.storage_ops.specs.Effects.{After, behind, writes_of, AreAsked, answer_in, end_with}
use Rattle.storage_ops.specs.Accesses.{Scene}
use Rattle.form_outcomes.specs.Outcomes.{Outcome, end_of}
use Rattle.ppc_step.specs.declared.stepping.Ending.{Ending}
use Rattle.ppc_step.specs.States.{State, state_of}
use Rattle.ppc_step.specs.Steps.{fetched, step_asks, step_outcome, threads_after}
use Rattle.ppc_step.specs.Performing.{PerformsStep}
use Rattle.ppc_step.specs.Rule.{KeepsRule, IsReady, StepsTo, raised, IsCause, IsEffect, turn_after, behind_step, next_state}
use Rattle.ppc_step.proofs.MarksLemmas.{own_is, journal_with}
use Rattle.ppc_step.proofs.UsesLemmas.{IsBetween, uses_kept, uses_chosen}
use Rattle.ppc_step.proofs.RowsLemmas.{cause_by, effect_by, done_behind, readings_true, stands}
use Rattle.ppc_step.proofs.StateLemmas.{few_step_asks, all_answered, all_show, behind_shown, state_is}

-- the row of a step of a thread of this number that had these registers
abbrev pub row_of : ℕ → Thread → Ending → StepRow
row_of number t e = record { thread = number; cia = t.nia; word = e.word; end = e.end; uses = e.uses }

-- the rows that a performed step adds
abbrev own_of : {P : Type 0} (chooses : Query → Found → Mark → Type 0) (related : P → DeviceRow → P → Type 0) (windows : P → List (Option Window)) (number : ℕ) (old new : Scene P) (e : Ending) → PerformsStep chooses related windows number old new e → StepRows
own_of chooses related windows number old new e performed = record {
  number = length old.journal.rows.steps;
  row = row_of number old.thread e;
  reads = performed.answered.adds.reads;
  fills = performed.answered.adds.fills;
  writes = performed.carries.carried.writes;
  dones = [];
  devices = performed.carries.carried.devices;
}

-- a step that was performed, whose row comes then
module _ {P : Type 0} (chooses : Query → Found → Mark → Type 0) (related : P → DeviceRow → P → Type 0) (windows : P → List (Option Window)) (number : ℕ) (threads threads' : List Thread) (old new : Scene P) (e : Ending)
    (performed : PerformsStep chooses related windows number old new e) (dated : IsDated old.journal.rows) (thread : old.thread ≡ thread_at threads number) where
  abbrev own : StepRows
  own = own_of chooses related windows number old new e performed

  abbrev s : State
  s = state_of threads old.ram (windows old.port)

  abbrev outcome : Thread → Outcome After
  outcome t = step_outcome t (windows old.port) old.ram performed.founds (answer_in performed.carries.carried.devices)

  same_steps : length performed.between.rows.steps ≡ own.number
  same_steps = ap (λ (j : JournalView). length j.rows.steps) performed.answered.adds.rows

  asked : AreAsked own.number (behind (outcome old.thread) old.thread).asked own.devices
  asked = subst (λ n. AreAsked n (behind (outcome old.thread) old.thread).asked own.devices) same_steps performed.carries.carried.device

  written_are : own.writes ≡ writes_of own.number number old.ram (behind (outcome old.thread) old.thread).stored
  written_are = subst (λ n. own.writes ≡ writes_of n number old.ram (behind (outcome old.thread) old.thread).stored) same_steps performed.carries.carried.write

  is_own : IsOwn own
  is_own = own_is own number old.ram (behind (outcome old.thread) old.thread).stored (behind (outcome old.thread) old.thread).asked performed.answered.adds.read_moments performed.answered.adds.fill_moments written_are refl asked

  is_between : IsBetween old.journal.rows performed.between.rows own
  is_between = record {
    dated = dated;
    is_own = is_own;
    numbered = refl;
    reads = ap (λ (j : JournalView). j.rows.reads) performed.answered.adds.rows;
    fills = ap (λ (j : JournalView). j.rows.fills) performed.answered.adds.rows;
    dones = ap (λ (j : JournalView). j.rows.dones) performed.answered.adds.rows;
    none = refl;
  }

  journal_is : record new.journal { rows = add_step new.journal.rows own.row } ≡ record old.journal { rows = with_own old.journal.rows own }
  journal_is = journal_with old.journal performed.between new.journal own refl performed.answered.adds.rows performed.carries.carried.journal

  few : length (step_asks old.thread old.ram performed.founds) ≤ 3
  few = few_step_asks old.thread old.ram performed.founds

  chosen_are : Stays chooses → AreNamed performed.between.rows.reads performed.between.rows.fills →
      ChoosesUses chooses (word_in old.ram) (turn_in (record new.journal { rows = add_step new.journal.rows own.row }) number own.number) (step_asks (thread_at threads number) old.ram performed.founds) performed.founds e.uses
  chosen_are stays named =
      let floored : performed.between.floor ≡ old.journal.floor = ap (λ (j : JournalView). j.floor) performed.answered.adds.rows in
      let made : ChoosesUses chooses (word_in old.ram) (turn_in (record old.journal { rows = with_own old.journal.rows own }) number own.number) (step_asks old.thread old.ram performed.founds) performed.founds e.uses =
      uses_chosen chooses (word_in old.ram) old.journal.rows performed.between own old.journal.floor number (step_asks old.thread old.ram performed.founds) performed.founds e.uses stays named floored is_between few performed.uses
      (performed.answered.chosen (word_in old.ram) (λ at. refl)) in
      subst (λ t. ChoosesUses chooses (word_in old.ram) (turn_in (record new.journal { rows = add_step new.journal.rows own.row }) number own.number) (step_asks t old.ram performed.founds) performed.founds e.uses) thread
      (subst (λ j. ChoosesUses chooses (word_in old.ram) (turn_in j number own.number) (step_asks old.thread old.ram performed.founds) performed.founds e.uses) (sym journal_is) made)

  -- where all before it was ready the step keeps the rule
  module _ (begin : State) (made : List (PastStep State)) (ready : IsReady begin old.journal.rows made s) where
    stand : (at : ℕ) → past begin.ram old.journal.rows.writes own.number at ≡ word_in old.ram at
    stand = stands begin.ram old.ram old.journal.rows dated ready.ram

    answers_are : AreAnswered (λ before ask found after. IsAnswer (past begin.ram old.journal.rows.writes) (query_of (turn_in performed.between number own.number) (past begin.ram old.journal.rows.writes own.number) before ask) found after) (mark_of old.journal.rows) (step_asks old.thread old.ram performed.founds) performed.founds (mark_of performed.between.rows)
    answers_are = performed.answered.answers (past begin.ram old.journal.rows.writes) stand ready.readings

    rule_is : number < length threads → HasRoom old.journal.reserved old.journal.rows → old.journal.reserved ≤ most_steps → KeepsRule begin old.journal.rows made s own
    rule_is inside room most = record {
      thread = record { below = inside; running = ready.running; room = HasRoom-more old.journal.reserved most_steps old.journal.rows most room };
      founds = performed.founds;
      fetch = record { cia = ap (λ (t : Thread). t.nia) thread; word = subst (λ t. e.word ≡ fetched t old.ram performed.founds) thread performed.word };
      uses = subst (λ t. KeepsUses (past begin.ram old.journal.rows.writes) (turn_after old.journal.rows own) (step_asks t old.ram performed.founds) performed.founds e.uses) thread
          (uses_kept (past begin.ram old.journal.rows.writes) old.journal.rows performed.between own number (step_asks old.thread old.ram performed.founds) performed.founds e.uses is_between few performed.uses answers_are);
      cause = subst (λ t. IsCause (raised (outcome t)) e.end) thread (cause_by own.number (outcome old.thread) old.thread own.devices e.end asked performed.carries.ended);
      effect = subst (λ t. IsEffect (raised (outcome t)) own.devices e.end) thread (effect_by (outcome old.thread) own.devices e.end performed.carries.ended);
      write = subst (λ t. own.writes ≡ writes_of own.number number old.ram (behind (outcome t) t).stored) thread written_are;
      device = subst (λ t. AreAsked own.number (behind (outcome t) t).asked own.devices) thread asked;
      done = refl;
    }

    next_is : threads' ≡ threads_after number new.thread threads e.end own.devices → state_of threads' new.ram (windows new.port) ≡ next_state s own
    next_is threads_are =
        let shows = all_show (past begin.ram old.journal.rows.writes) (past begin.ram old.journal.rows.writes own.number) (turn_in performed.between number own.number) (mark_of old.journal.rows) (mark_of performed.between.rows) (step_asks old.thread old.ram performed.founds) performed.founds answers_are in
        let count = all_answered (λ before ask found after. IsAnswer (past begin.ram old.journal.rows.writes) (query_of (turn_in performed.between number own.number) (past begin.ram old.journal.rows.writes own.number) before ask) found after) (mark_of old.journal.rows) (mark_of performed.between.rows) (step_asks old.thread old.ram performed.founds) performed.founds answers_are in
        state_is s own new.thread threads' new.ram (windows new.port) threads_are
        (λ done. performed.carries.carried.thread ∙ done_behind own.number (outcome old.thread) old.thread (behind_step s own) own.devices e.end asked performed.carries.ended
        (λ a goes. behind_shown s own old.thread performed.founds a thread shows count performed.uses performed.word goes) done)
        performed.carries.carried.ram performed.carries.carried.windows_are

    readings_are : AreTrue (past begin.ram (add_step new.journal.rows own.row).writes) (add_step new.journal.rows own.row)
    readings_are =
        subst (λ (j : JournalView). AreTrue (past begin.ram j.rows.writes) j.rows) (sym journal_is)
        (readings_true begin.ram old.journal.rows own performed.between.rows dated is_own refl is_between.reads (performed.answered.truth (past begin.ram old.journal.rows.writes) stand ready.readings))

pub steps_to : {P : Type 0} (chooses : Query → Found → Mark → Type 0) (related : P → DeviceRow → P → Type 0) (windows : P → List (Option Window)) (number : ℕ) (threads threads' : List Thread) (old new : Scene P) (e : Ending) →
    Stays chooses → (performed : PerformsStep chooses related windows number old new e) →
    old.thread ≡ thread_at threads number → number < length threads →
    IsDated old.journal.rows → AreNamed performed.between.rows.reads performed.between.rows.fills → HasRoom old.journal.reserved old.journal.rows → old.journal.reserved ≤ 1048576 →
    threads' ≡ threads_after number new.thread threads e.end performed.carries.carried.devices →
    StepsTo chooses related old.journal (record new.journal { rows = add_step new.journal.rows (row_of number old.thread e) }) old.port new.port (state_of threads old.ram (windows old.port)) (state_of threads' new.ram (windows new.port)) number e.end
unfolding rule_is
steps_to chooses related windows number threads threads' old new e stays performed thread inside dated named room most threads_are = record {
  own = own_of chooses related windows number old new e performed;
  number = refl;
  thread = refl;
  ended = refl;
  is_own = is_own chooses related windows number threads threads' old new e performed dated thread;
  journal = journal_is chooses related windows number threads threads' old new e performed dated thread;
  right = performed.carries.carried.right;
  devices = performed.carries.carried.port;
  founds = performed.founds;
  chosen = chosen_are chooses related windows number threads threads' old new e performed dated thread stays named;
  outcome = performed.carries.ended ∙ ap (λ (th : Thread). end_with performed.carries.carried.devices (end_of (step_outcome th (windows old.port) old.ram performed.founds (answer_in performed.carries.carried.devices)))) thread;
  kept = λ begin made ready. record {
    rule = rule_is chooses related windows number threads threads' old new e performed dated thread begin made ready inside room most;
    answers = refl;
    state = next_is chooses related windows number threads threads' old new e performed dated thread begin made ready threads_are;
    readings = readings_are chooses related windows number threads threads' old new e performed dated thread begin made ready;
  };
}
