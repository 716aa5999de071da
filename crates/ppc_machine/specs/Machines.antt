-- What a step and a run of a machine say.
use Rattle.std.specs.Prelude.{ℕ, ◌≡◌, ◌≤◌, ◌<◌, ◌++◌, List, length, Option, Some, None}
use Rattle.journal_core.specs.declared.rows.DeviceRow.{DeviceRow}
use Rattle.journal_core.specs.declared.rows.StopName.{StopName}
use Rattle.journal_core.specs.declared.rows.Ended.{Ended}
use Rattle.journal_core.specs.declared.rows.StepEnd.{StepEnd}
use Rattle.journal_core.specs.declared.rows.StepEnd.TheVariants as step_ends
use Rattle.journal_core.specs.Steps.{first_steps}
use Rattle.journal_core.specs.Ends.{ended_of, thread_of_row, Grows, stop_of}
use Rattle.sched_text.specs.Plan.{Plan, turn}
use Rattle.ppc_bus.specs.declared.slots.Slot.{Slot}
use Rattle.ppc_bus.specs.Chains.{Chain}
use Rattle.ppc_step.specs.Rule.{StepsTo}
use Rattle.ppc_machine.specs.MachineView.{MachineView, now_of, start_of, MachineChoice, IsLawful, IsChosen}

-- One step of a machine that runs, where `related` says what a slot's device, a device row and the slots after it have to do with
-- each other: the entry, the windows as plugged and the number of threads stay, and the rest is one step by the rule.
pub record StepsOn {D : Type 0} (related : List (Option (Slot D)) → DeviceRow → List (Option (Slot D)) → Type 0) (old new : MachineView D) (t : ℕ) (end : StepEnd) : Type 0 where
  pub entry : new.entry ≡ old.entry
  pub plugged : new.plugged ≡ old.plugged
  pub count : length new.threads ≡ length old.threads
  pub steps : StepsTo MachineChoice related old.journal new.journal old.slots new.slots (now_of old) (now_of new) t end

-- a machine that stopped answers the same stop, and stays as it is
abbrev pub stop_as : {D : Type 0} → Option (StopName × ℕ) → MachineView D → MachineView D → StepEnd → Type 0
stop_as (Some stop) old new end = (end ≡ step_ends.Stopped stop.0 stop.1) × (new ≡ old)
stop_as None old new end = Unit {0}

abbrev pub IsStopped : {D : Type 0} → MachineView D → MachineView D → StepEnd → Type 0
IsStopped old new end = stop_as (stop_of old.journal.rows.steps) old new end

-- the device rows that came, one after another from the slots as they were to the slots as they are
pub record Asks {D : Type 0} (related : List (Option (Slot D)) → DeviceRow → List (Option (Slot D)) → Type 0) (old new : MachineView D) : Type 0 where
  pub rows : List DeviceRow
  pub added : new.journal.rows.devices ≡ old.journal.rows.devices ++ rows
  pub chain : Chain related old.slots rows new.slots

-- a run of n steps by a schedule, from the machine as it was to the machine as it is
pub record RunsTo {D : Type 0} (related : List (Option (Slot D)) → DeviceRow → List (Option (Slot D)) → Type 0) (p : Plan) (n : ℕ) (old new : MachineView D) (end : Ended) : Type 0 where
  -- it ends so, and nowhere before
  pub ended : ended_of n (turn p (length new.journal.rows.steps)) new.journal.reserved new.journal.rows ≡ Some end
  pub exact : (k : ℕ) → length old.journal.rows.steps ≤ k → k < length new.journal.rows.steps → ended_of n (turn p k) old.journal.reserved (first_steps k new.journal.rows) ≡ None
  -- each new step is that of the thread whose turn it was, and no old row has changed
  pub turns : (k : ℕ) → length old.journal.rows.steps ≤ k → k < length new.journal.rows.steps → thread_of_row new.journal.rows.steps k ≡ turn p k
  pub grows : Grows old.journal new.journal
  -- the entry, the windows as plugged and the start are the machine's own, all rows are lawful, and all answers were chosen
  pub entry : new.entry ≡ old.entry
  pub plugged : new.plugged ≡ old.plugged
  pub start : start_of new ≡ start_of old
  pub lawful : IsLawful new
  pub chosen : IsChosen new
  -- the devices gave what the new device rows say
  pub devices : Asks related old new
