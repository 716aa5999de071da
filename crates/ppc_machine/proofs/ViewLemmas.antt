-- What each machine keeps, from one step to the next.
use Rattle.std.proofs.Common.{◌≡◌, ◌≤◌, ℕ, List, [], ◌∷◌, ◌++◌, length, Option, refl, ap, sym, ◌∙◌, subst}
use Rattle.journal_core.specs.declared.rows.DeviceRow.{DeviceRow}
use Rattle.journal_core.specs.declared.rows.StepEnd.{StepEnd}
use Rattle.journal_core.specs.declared.rows.WriteRow.{WriteRow}
use Rattle.journal_core.specs.Bytes.{IsBytes}
use Rattle.journal_core.specs.Past.{ram_after, ram_before, past, written, AreWrites, Fits}
use Rattle.journal_core.specs.Rows.{Rows, JournalView}
use Rattle.journal_core.specs.declared.asks.Found.{Found}
use Rattle.journal_core.specs.Turns.{Mark, Query, turn_of}
use Rattle.journal_core.specs.Answers.{ChoosesUses}
use Rattle.journal_core.specs.Past.{word_in}
use Rattle.journal_core.specs.Steps.{StepRows, with_own}
use Rattle.thread_regs.specs.Registers.{thread_at}
use Rattle.ppc_step.specs.Steps.{step_asks}
use Rattle.ppc_step.specs.Chosen.{KeepsChosen}
use Rattle.ppc_step.proofs.ConfinedLemmas.{steps_confined, lawful_by}
use Rattle.journal_core.specs.Ends.{IsRunning}
use Rattle.journal_core.specs.Translating.{AreTrue}
use Rattle.journal_core.proofs.PastLemmas.{ram_after-append, ram_before-more, IsBytes-ram_after}
use Rattle.journal_core.proofs.RunsLemmas.{IsRun-push}
use Rattle.ppc_bus.specs.declared.slots.Slot.{Slot}
use Rattle.ppc_step.specs.States.{State}
use Rattle.ppc_step.specs.Rule.{KeepsRule, next_state, thread_in, turn_after, IsReady, IsKept as IsKeptStep}
use Rattle.ppc_step.specs.Soundness.{IsSound}
use Rattle.ppc_step.proofs.SoundLemmas.{reset_is_sound, runs_stay_sound}
use Rattle.ppc_machine.specs.MachineView.{MachineView, now_of, start_of, MachineChoice, IsChosen, IsKept}
use Rattle.ppc_machine.specs.Machines.{StepsOn}

abbrev pub Relation : Type 0 → Type 1
Relation D = List (Option (Slot D)) → DeviceRow → List (Option (Slot D)) → Type 0

ready : {D : Type 0} (m : MachineView D) (kept : IsKept m) → IsRunning m.journal.rows.steps → IsReady (start_of m) m.journal.rows kept.lawful.made (now_of m)
ready m kept running = record { run = kept.lawful.run; running = running; ram = kept.fits.last; readings = kept.readings }

keeps : {D : Type 0} (related : Relation D) (old new : MachineView D) (t : ℕ) (end : StepEnd) (kept : IsKept old) → IsRunning old.journal.rows.steps → (on : StepsOn related old new t end) →
    IsKeptStep (start_of old) kept.lawful.made old.journal.rows new.journal.rows (now_of old) (now_of new) on.steps.own on.steps.founds
keeps related old new t end kept running on = on.steps.kept (start_of old) kept.lawful.made (ready old kept running)

pub rows_of_step : {D : Type 0} (related : Relation D) (old new : MachineView D) (t : ℕ) (end : StepEnd) (on : StepsOn related old new t end) → new.journal.rows ≡ with_own old.journal.rows on.steps.own
rows_of_step related old new t end on = ap (λ (j : JournalView). j.rows) on.steps.journal

writes_of_step : {D : Type 0} (related : Relation D) (old new : MachineView D) (t : ℕ) (end : StepEnd) (on : StepsOn related old new t end) → new.journal.rows.writes ≡ old.journal.rows.writes ++ on.steps.own.writes
unfolding with_own
writes_of_step related old new t end on = ap (λ (j : Rows). j.writes) (rows_of_step related old new t end on)

ram_of_step : {D : Type 0} (related : Relation D) (old new : MachineView D) (t : ℕ) (end : StepEnd) → IsKept old → IsRunning old.journal.rows.steps → (on : StepsOn related old new t end) → new.ram ≡ ram_after old.ram on.steps.own.writes
unfolding next_state
ram_of_step related old new t end kept running on = ap (λ (s : State). s.ram) (keeps related old new t end kept running on).state

bytes_now : {D : Type 0} (m : MachineView D) → IsKept m → IsBytes m.ram
bytes_now m kept = subst IsBytes (sym kept.fits.last) (IsBytes-ram_after (start_of m).ram m.journal.rows.writes kept.fits.bytes)

ram_back : {D : Type 0} (related : Relation D) (old new : MachineView D) (t : ℕ) (end : StepEnd) → IsKept old → IsRunning old.journal.rows.steps → (on : StepsOn related old new t end) → ram_before new.ram new.journal.rows.writes ≡ ram_before old.ram old.journal.rows.writes
ram_back related old new t end kept running on =
    ap (λ (ram : List ℕ). ram_before ram new.journal.rows.writes) (ram_of_step related old new t end kept running on)
    ∙ (ap (λ (ws : List WriteRow). ram_before (ram_after old.ram on.steps.own.writes) ws) (writes_of_step related old new t end on)
    ∙ ram_before-more old.ram old.journal.rows.writes on.steps.own.writes (bytes_now old kept) on.steps.right)

-- a step leaves the start as it was
pub start_of-step : {D : Type 0} (related : Relation D) (old new : MachineView D) (t : ℕ) (end : StepEnd) → IsKept old → IsRunning old.journal.rows.steps → StepsOn related old new t end → start_of new ≡ start_of old
unfolding start_of
start_of-step related old new t end kept running on =
    rw (on.entry, on.count, on.plugged, ram_back related old new t end kept running on) refl

writes_join : (first : List ℕ) (rows more : List WriteRow) → AreWrites first rows → AreWrites (ram_after first rows) more → AreWrites first (rows ++ more)
unfolding AreWrites ram_after
writes_join first [] more a b = b
writes_join first (row ∷ rows) more a b = (a.0, writes_join (written first row) rows more a.1 b)

fits_on : (first now new : List ℕ) (rows own all : List WriteRow) → Fits first rows now → AreWrites now own → new ≡ ram_after now own → all ≡ rows ++ own → Fits first all new
fits_on first now new rows own all fits right is are = record {
  bytes = fits.bytes;
  right = subst (AreWrites first) (sym are) (writes_join first rows own fits.right (subst (λ (ram : List ℕ). AreWrites ram own) fits.last right));
  last = is ∙ (ap (λ (ram : List ℕ). ram_after ram own) fits.last ∙ (sym (ram_after-append first rows own) ∙ ap (λ (ws : List WriteRow). ram_after first ws) (sym are)));
}

-- a choice of a step, seen in the journal with its rows
chosen_by : (chooses : Query → Found → Mark → Type 0) (s : State) (before rows : Rows) (own : StepRows) (floor t : ℕ) (founds these : List Found) → rows ≡ with_own before own → floor ≡ 0 → own.row.thread ≡ t → these ≡ founds →
    ChoosesUses chooses (word_in s.ram) (turn_of rows floor t own.number) (step_asks (thread_at s.threads t) s.ram founds) founds own.row.uses →
    ChoosesUses chooses (word_in s.ram) (turn_after before own) (step_asks (thread_in s own) s.ram these) these own.row.uses
chosen_by chooses s before rows own floor t founds these rows_are floor_is thread same h =
    subst (λ (x : Rows). ChoosesUses chooses (word_in s.ram) (turn_of x 0 own.row.thread own.number) (step_asks (thread_in s own) s.ram these) these own.row.uses) rows_are
    (subst (λ f. ChoosesUses chooses (word_in s.ram) (turn_of rows f own.row.thread own.number) (step_asks (thread_in s own) s.ram these) these own.row.uses) floor_is
    (subst (λ u. ChoosesUses chooses (word_in s.ram) (turn_of rows floor u own.number) (step_asks (thread_at s.threads u) s.ram these) these own.row.uses) (sym thread)
    (subst (λ (fs : List Found). ChoosesUses chooses (word_in s.ram) (turn_of rows floor t own.number) (step_asks (thread_at s.threads t) s.ram fs) fs own.row.uses) (sym same) h)))

-- the journal's floor stays
floor_of_step : {D : Type 0} (related : Relation D) (old new : MachineView D) (t : ℕ) (end : StepEnd) → StepsOn related old new t end → new.journal.floor ≡ old.journal.floor
floor_of_step related old new t end on = ap (λ (j : JournalView). j.floor) on.steps.journal

-- a step's answers were chosen, like all before it
chosen-step : {D : Type 0} (related : Relation D) (old new : MachineView D) (t : ℕ) (end : StepEnd) → IsKept old → IsRunning old.journal.rows.steps → StepsOn related old new t end → IsChosen new
chosen-step related old new t end kept running on =
    let begin : start_of new ≡ start_of old = start_of-step related old new t end kept running on in
    let made = kept.chosen.made in
    let step = on.steps.kept (start_of old) made (record { run = lawful_by MachineChoice (start_of old) old.journal.rows made (now_of old) kept.chosen.run; running = running; ram = kept.fits.last; readings = kept.readings }) in
    let keeps : KeepsChosen MachineChoice (start_of old) old.journal.rows made (now_of old) on.steps.own = record {
      rule = step.rule;
      chosen = chosen_by MachineChoice (now_of old) old.journal.rows new.journal.rows on.steps.own new.journal.floor t on.steps.founds step.rule.founds (rows_of_step related old new t end on) (floor_of_step related old new t end on ∙ kept.floor) on.steps.thread step.answers on.steps.chosen;
      confined = steps_confined (start_of old) old.journal.rows made (now_of old) on.steps.own step.rule;
    } in
    let run = IsRun-push (KeepsChosen MachineChoice (start_of old)) next_state (start_of old) old.journal.rows made (now_of old) on.steps.own kept.chosen.run on.steps.is_own on.steps.number keeps in
    record {
      made = record { state = now_of old; own = on.steps.own } ∷ made;
      run = rw (begin, rows_of_step related old new t end on, step.state) run;
    }

-- a step keeps what each machine keeps
pub IsKept-step : {D : Type 0} (related : Relation D) (old new : MachineView D) (t : ℕ) (end : StepEnd) → IsKept old → IsRunning old.journal.rows.steps → StepsOn related old new t end → IsKept new
IsKept-step related old new t end kept running on =
    let begin : start_of new ≡ start_of old = start_of-step related old new t end kept running on in
    let step = keeps related old new t end kept running on in
    let run = IsRun-push (KeepsRule (start_of old)) next_state (start_of old) old.journal.rows kept.lawful.made (now_of old) on.steps.own kept.lawful.run on.steps.is_own on.steps.number step.rule in
    record {
      most = rw on.steps.journal kept.most;
      fits = subst (λ (s : State). Fits s.ram new.journal.rows.writes new.ram) (sym begin)
          (fits_on (start_of old).ram old.ram new.ram old.journal.rows.writes on.steps.own.writes new.journal.rows.writes kept.fits on.steps.right (ram_of_step related old new t end kept running on) (writes_of_step related old new t end on));
      floor = floor_of_step related old new t end on ∙ kept.floor;
      lawful = record {
        made = record { state = now_of old; own = on.steps.own } ∷ kept.lawful.made;
        run = rw (begin, rows_of_step related old new t end on, step.state) run;
      };
      chosen = chosen-step related old new t end kept running on;
      readings = subst (λ (s : State). AreTrue (past s.ram new.journal.rows.writes) new.journal.rows) (sym begin) step.readings;
    }

-- the state that a machine is in is sound
pub sound_now : {D : Type 0} (m : MachineView D) → IsKept m → 1 ≤ length m.threads → length m.threads ≤ 4 → IsSound (now_of m)
unfolding start_of
sound_now m kept some most = runs_stay_sound (start_of m) m.journal.rows (now_of m) (reset_is_sound (length m.threads) m.entry _ _ some most) kept.lawful
