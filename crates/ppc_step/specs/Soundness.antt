-- The invariant of states, and what each step keeps.
use Rattle.std.specs.Prelude.{◌≡◌, ◌≢◌, ℕ, ◌<◌, ◌≤◌, List, length, Option}
use Rattle.journal_core.specs.Rows.{Rows}
use Rattle.journal_core.specs.Steps.{StepRows}
use Rattle.journal_core.specs.Runs.{PastStep}
use Rattle.ppc_bus.specs.Windows.{Window}
use Rattle.thread_regs.specs.declared.registers.Thread.{Thread}
use Rattle.thread_regs.specs.Registers.{thread_at, all_reset}
use Rattle.thread_regs.specs.Soundness.{AreSound}
use Rattle.ppc_step.specs.States.{State, state_of}
use Rattle.ppc_step.specs.Rule.{KeepsRule, next_state, IsLawfulRun}

-- there are one to four threads, each is sound, and all have one time base
pub record IsSound (s : State) : Type 0 where
  pub some : 1 ≤ length s.threads
  pub most : length s.threads ≤ 4
  pub threads : AreSound s.threads
  pub clock : (i : ℕ) → i < length s.threads → (thread_at s.threads i).tb ≡ (thread_at s.threads 0).tb

-- a reset state of one to four threads is sound
abbrev pub ResetIsSound : Type 0
ResetIsSound = (count entry : ℕ) (ram : List ℕ) (windows : List (Option Window)) → 1 ≤ count → count ≤ 4 → IsSound (state_of (all_reset count entry) ram windows)

-- the state after a step that keeps the rule is sound where the one before it is
abbrev pub StepsStaySound : Type 0
StepsStaySound = (start : State) (before : Rows) (made : List (PastStep State)) (s : State) (own : StepRows) →
    IsSound s → KeepsRule start before made s own → IsSound (next_state s own)

-- so each state of a lawful run from a sound state is sound
abbrev pub RunsStaySound : Type 0
RunsStaySound = (start : State) (rows : Rows) (now : State) → IsSound start → IsLawfulRun start rows now → IsSound now

-- all registers but those of the clock are as they were
abbrev pub KeepsAllButTheClock : Thread → Thread → Type 0
KeepsAllButTheClock old new = new ≡ record old { tb = new.tb; dec = new.dec; hdec = new.hdec }

-- of every other thread a step changes the clock alone
abbrev pub StepsKeepOtherThreads : Type 0
StepsKeepOtherThreads = (s : State) (own : StepRows) (i : ℕ) → i < length s.threads → i ≢ own.row.thread →
    KeepsAllButTheClock (thread_at s.threads i) (thread_at (next_state s own).threads i)
