-- How many rows the steps of a lawful journal have, and how many steps surely have room for theirs.
use Rattle.std.specs.Prelude.{◌≡◌, ℕ, ◌<◌, ◌≤◌, List, length}
use Rattle.journal_core.specs.Rows.{Rows}
use Rattle.journal_core.specs.Room.{HasRoom, step_reads, step_fills, step_writes, step_dones, step_devices}
use Rattle.journal_core.specs.Steps.{StepRows, IsDated, IsOwn}
use Rattle.journal_core.specs.Runs.{PastStep}
use Rattle.ppc_step.specs.States.{State}
use Rattle.ppc_step.specs.Rule.{KeepsRule, IsLawfulRun}

-- a step has no more rows of each kind than a step needs at most
pub record AreFew (own : StepRows) : Type 0 where
  pub reads : length own.reads ≤ step_reads
  pub fills : length own.fills ≤ step_fills
  pub writes : length own.writes ≤ step_writes
  pub dones : length own.dones ≤ step_dones
  pub devices : length own.devices ≤ step_devices

-- so it is of each step that keeps the rule behind the rows before it
abbrev pub StepsAddFew : Type 0
StepsAddFew = (start : State) (before : Rows) (made : List (PastStep State)) (s : State) (own : StepRows) →
    IsDated before → IsOwn own → own.number ≡ length before.steps → KeepsRule start before made s own → AreFew own

-- how many steps surely have room: no list is then longer than a journal's longest
abbrev pub surely : ℕ
surely = 2496

-- a lawful journal that is made for no more steps than these has room for each step
abbrev pub ShortRunsHaveRoom : Type 0
ShortRunsHaveRoom = (start : State) (rows : Rows) (now : State) (reserved : ℕ) →
    IsLawfulRun start rows now → reserved ≤ surely → length rows.steps < reserved → HasRoom reserved rows
