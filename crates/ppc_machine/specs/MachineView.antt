-- What contracts see of a machine, and what each machine keeps.
use Rattle.std.specs.Prelude.{ℕ, ◌≡◌, ◌≤◌, List, length, Option}
use Rattle.journal_core.specs.declared.asks.Found.{Found}
use Rattle.journal_core.specs.Turns.{Mark, Query}
use Rattle.journal_core.specs.Choice.{PlainChoice}
use Rattle.journal_core.specs.Rows.{JournalView}
use Rattle.journal_core.specs.Past.{ram_before, past, Fits}
use Rattle.journal_core.specs.Translating.{AreTrue}
use Rattle.ppc_bus.specs.declared.slots.Slot.{Slot}
use Rattle.ppc_bus.specs.Windows.{Window, windows_of}
use Rattle.thread_regs.specs.declared.registers.Thread.{Thread}
use Rattle.thread_regs.specs.Registers.{all_reset}
use Rattle.ppc_step.specs.States.{State, state_of}
use Rattle.ppc_step.specs.Chosen.{IsChosenRun}
use Rattle.ppc_step.specs.Rule.{IsLawfulRun}

-- the entry, the windows as they were plugged, the registers of the threads, the bytes of RAM, the slots of the bus with their
-- devices, and the journal
pub record MachineView (D : Type 0) : Type 0 where
  pub entry : ℕ
  pub plugged : List (Option Window)
  pub threads : List Thread
  pub ram : List ℕ
  pub slots : List (Option (Slot D))
  pub journal : JournalView

-- the state that a machine is in
abbrev pub now_of : {D : Type 0} → MachineView D → State
now_of m = state_of m.threads m.ram (windows_of m.slots)

-- the state that a machine began in: its threads reset at its entry, its RAM with all write rows taken back, and the windows as
-- they were plugged
unfoldable pub start_of : {D : Type 0} → MachineView D → State
start_of m = state_of (all_reset (length m.threads) m.entry) (ram_before m.ram m.journal.rows.writes) m.plugged

-- the machine's journal is lawful from the machine's start to its state
abbrev pub IsLawful : {D : Type 0} → MachineView D → Type 0
IsLawful m = IsLawfulRun (start_of m) m.journal.rows (now_of m)

-- which answers the machine chooses: always that of the fresh walk
abbrev pub MachineChoice : Query → Found → Mark → Type 0
MachineChoice = PlainChoice

-- and all answers in its journal were chosen so, and what they let through is confined
abbrev pub IsChosen : {D : Type 0} → MachineView D → Type 0
IsChosen m = IsChosenRun MachineChoice (start_of m) m.journal.rows (now_of m)

-- what each machine keeps: a lawful journal whose answers were chosen, whose write rows lead from its first bytes to those of RAM, and whose readings are
-- true
pub record IsKept {D : Type 0} (m : MachineView D) : Type 0 where
  pub most : m.journal.reserved ≤ 1048576
  pub fits : Fits (start_of m).ram m.journal.rows.writes m.ram
  pub floor : m.journal.floor ≡ 0
  pub lawful : IsLawful m
  pub chosen : IsChosen m
  pub readings : AreTrue (past (start_of m).ram m.journal.rows.writes) m.journal.rows
