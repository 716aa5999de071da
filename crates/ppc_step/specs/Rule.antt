-- The rule of one step, and the state after it.
use Rattle.std.specs.Prelude.{◌≡◌, ℕ, ◌<◌, List, [], ◌∷◌, Option, Some, None, length}
use Rattle.journal_core.specs.declared.asks.Found.{Found}
use Rattle.journal_core.specs.declared.asks.Found.TheVariants as founds_of
use Rattle.journal_core.specs.declared.rows.DeviceRow.{DeviceRow}
use Rattle.journal_core.specs.declared.rows.StepEnd.{StepEnd}
use Rattle.journal_core.specs.declared.rows.StepEnd.TheVariants.{Ran, Took, Stopped}
use Rattle.journal_core.specs.declared.rows.StepRow.{StepRow}
use Rattle.journal_core.specs.declared.rows.Use.{Use}
use Rattle.journal_core.specs.declared.rows.Use.TheVariants.{Unused, Real, Hit, Walked, Faulted}
use Rattle.journal_core.specs.Rows.{Rows, JournalView}
use Rattle.journal_core.specs.Room.{HasRoom, most_steps}
use Rattle.journal_core.specs.Past.{ram_after, past, word_in, AreWrites}
use Rattle.journal_core.specs.Steps.{StepRows, IsOwn, with_own}
use Rattle.journal_core.specs.Runs.{IsRun, PastStep}
use Rattle.journal_core.specs.Ends.{IsRunning}
use Rattle.journal_core.specs.Turns.{Mark, Turn, Query, turn_of}
use Rattle.journal_core.specs.Answers.{KeepsUses, ChoosesUses}
use Rattle.journal_core.specs.Translating.{AreTrue}
use Rattle.form_outcomes.specs.Outcomes.{Outcome, Goes, Takes, Stops, end_of}
use Rattle.ppc_bus.specs.Chains.{Chain}
use Rattle.thread_regs.specs.declared.registers.Thread.{Thread}
use Rattle.thread_regs.specs.Registers.{thread_at}
use Rattle.storage_ops.specs.Effects.{After, around, behind, writes_of, AreAsked, answer_in, end_with, windows_after}
use Rattle.ppc_step.specs.States.{State}
use Rattle.ppc_step.specs.Words.{word_outcome}
use Rattle.ppc_step.specs.Steps.{fetched, step_asks, step_outcome, threads_after}

-- the thread of a step as it is before it
abbrev pub thread_in : State → StepRows → Thread
thread_in s own = thread_at s.threads own.row.thread

-- what a step comes to whose asks have these answers
abbrev pub outcome_of : State → StepRows → List Found → Outcome After
outcome_of s own founds = step_outcome (thread_in s own) s.windows s.ram founds (answer_in own.devices)

-- the interrupt or the stop that the first check gives that gives one
abbrev pub raised : Outcome After → Option StepEnd
raised (Goes after) = None
raised (Takes cause) = Some (Took cause)
raised (Stops name value) = Some (Stopped name value)

-- the step ends by the check that raises something
abbrev pub IsCause : Option StepEnd → StepEnd → Type 0
IsCause (Some raised_end) end = end ≡ raised_end
IsCause None end = Unit {0}

-- where no check raises anything the step ran, or was stopped by the device that it asked
abbrev pub IsEffect : Option StepEnd → List DeviceRow → StepEnd → Type 0
IsEffect (Some raised_end) devices end = Unit {0}
IsEffect None devices end = end ≡ end_with devices Ran

-- the fetch: the row has the address of the instruction, and its word exactly where one is fetched
pub record IsFetched (t : Thread) (ram : List ℕ) (founds : List Found) (row : StepRow) : Type 0 where
  pub cia : row.cia ≡ t.nia
  pub word : row.word ≡ fetched t ram founds

-- whose step it is: one of the threads', no earlier step is a stop, and a whole step fits a journal for the most steps
pub record IsNext (before : Rows) (s : State) (own : StepRows) : Type 0 where
  pub below : own.row.thread < length s.threads
  pub running : IsRunning before.steps
  pub room : HasRoom most_steps before

-- the turn of a step, seen with its own rows
abbrev pub turn_after : Rows → StepRows → Turn
turn_after before own = turn_of (with_own before own) 0 own.row.thread own.number

-- The rule for one step's rows, given the start, the rows and the steps before it and the state before it; the state after it is
-- `next_state`. The uses answer the asks that are reached, in their order: which of their readings is not read or not true, not
-- current, no walk or not right, `IsAnswer` says field by field.
pub record KeepsRule (start : State) (before : Rows) (made : List (PastStep State)) (s : State) (own : StepRows) : Type 0 where
  pub thread : IsNext before s own
  pub founds : List Found
  pub fetch : IsFetched (thread_in s own) s.ram founds own.row
  pub uses : KeepsUses (past start.ram before.writes) (turn_after before own) (step_asks (thread_in s own) s.ram founds) founds own.row.uses
  pub cause : IsCause (raised (outcome_of s own founds)) own.row.end
  pub effect : IsEffect (raised (outcome_of s own founds)) own.devices own.row.end
  pub write : own.writes ≡ writes_of own.number own.row.thread s.ram (behind (outcome_of s own founds) (thread_in s own)).stored
  pub device : AreAsked own.number (behind (outcome_of s own founds) (thread_in s own)).asked own.devices
  -- no operation is completed
  pub done : own.dones ≡ []

-- the answers that the uses of a row show, up to the first that shows no real address
abbrev pub shown_by : Use → List Found → List Found
shown_by Unused founds = []
shown_by (Real at) founds = founds_of.Real at (Real at) ∷ founds
shown_by (Hit i at) founds = founds_of.Real at (Hit i at) ∷ founds
shown_by (Walked i at) founds = founds_of.Real at (Walked i at) ∷ founds
shown_by (Faulted first count) founds = []

abbrev pub all_shown : List Use → List Found
all_shown [] = []
all_shown (used ∷ uses) = shown_by used (all_shown uses)

-- the uses of data
abbrev pub data_uses : List Use → List Use
data_uses [] = []
data_uses (used ∷ uses) = uses

-- the registers behind the form of a word, by the real addresses that the row shows and the value that a device gave; as they
-- were where no form goes on
abbrev pub registers_behind : State → StepRows → Option ℕ → Thread → Thread
registers_behind s own None t = t
registers_behind s own (Some word) t = (behind (word_outcome word t (around s.windows s.ram (all_shown (data_uses own.row.uses)) (answer_in own.devices))) t).thread

-- the registers behind the form of a step
abbrev pub behind_step : State → StepRows → Thread
behind_step s own = registers_behind s own own.row.word (thread_in s own)

-- The state after one step: the threads after it, by how it ends; RAM with its write rows; and the windows without the devices
-- that its device rows eject.
unfoldable pub next_state : State → StepRows → State
next_state s own = record {
  threads = threads_after own.row.thread (behind_step s own) s.threads own.row.end own.devices;
  ram = ram_after s.ram own.writes;
  windows = windows_after s.windows own.devices;
}

-- the rows before a step are a run by the rule from a start to the state before it, none of them is a stop, and their readings
-- are true
pub record IsReady (begin : State) (rows : Rows) (made : List (PastStep State)) (s : State) : Type 0 where
  pub run : IsRun (KeepsRule begin) next_state begin rows made s
  pub running : IsRunning rows.steps
  pub ram : s.ram ≡ ram_after begin.ram rows.writes
  pub readings : AreTrue (past begin.ram rows.writes) rows

-- what a step with these answers keeps that was ready: the rule, the state after it, and the truth of all readings
pub record IsKept (begin : State) (made : List (PastStep State)) (before after : Rows) (s s' : State) (own : StepRows) (founds : List Found) : Type 0 where
  pub rule : KeepsRule begin before made s own
  pub answers : rule.founds ≡ founds
  pub state : s' ≡ next_state s own
  pub readings : AreTrue (past begin.ram after.writes) after

-- One step of the code over a translator's choice and a port: the rows that it adds, of which the write rows have the right bytes;
-- the answers, which are the translator's choice, and its end, which goes by them; the port behind the device rows; and, where all
-- before it was ready, the rule, the state that it leaves and the truth of the readings.
pub record StepsTo {P : Type 0} (chooses : Query → Found → Mark → Type 0) (related : P → DeviceRow → P → Type 0) (old new : JournalView) (port port' : P) (s s' : State) (t : ℕ) (end : StepEnd) : Type 0 where
  pub own : StepRows
  pub number : own.number ≡ length old.rows.steps
  pub thread : own.row.thread ≡ t
  pub ended : own.row.end ≡ end
  pub is_own : IsOwn own
  pub journal : new ≡ record old { rows = with_own old.rows own }
  pub right : AreWrites s.ram own.writes
  pub devices : Chain related port own.devices port'
  pub founds : List Found
  pub chosen : ChoosesUses chooses (word_in s.ram) (turn_of new.rows new.floor t own.number) (step_asks (thread_at s.threads t) s.ram founds) founds own.row.uses
  pub outcome : end ≡ end_with own.devices (end_of (step_outcome (thread_at s.threads t) s.windows s.ram founds (answer_in own.devices)))
  pub kept : (begin : State) (made : List (PastStep State)) → IsReady begin old.rows made s → IsKept begin made old.rows new.rows s s' own founds

-- a journal is lawful from a state to a state: each step keeps the rule, and the last state is the one after all steps
pub record IsLawfulRun (begin : State) (rows : Rows) (now : State) : Type 0 where
  pub made : List (PastStep State)
  pub run : IsRun (KeepsRule begin) next_state begin rows made now
