-- What an access leaves of all that it works on.
use Rattle.std.specs.Prelude.{◌≡◌, ℕ, List, ◌++◌, length, Option}
use Rattle.journal_core.specs.declared.asks.Ask.{Ask}
use Rattle.journal_core.specs.declared.asks.Found.{Found}
use Rattle.journal_core.specs.declared.rows.WriteRow.{WriteRow}
use Rattle.journal_core.specs.declared.rows.DeviceRow.{DeviceRow}
use Rattle.journal_core.specs.declared.rows.StepEnd.{StepEnd}
use Rattle.journal_core.specs.Past.{ram_after, AreWrites}
use Rattle.journal_core.specs.Rows.{JournalView}
use Rattle.journal_core.specs.Turns.{Mark, Query}
use Rattle.form_outcomes.specs.Outcomes.{Outcome, end_of}
use Rattle.ppc_ops.specs.declared.insn.Insn.{Insn}
use Rattle.ppc_bus.specs.Windows.{Window}
use Rattle.ppc_bus.specs.Chains.{Chain}
use Rattle.thread_regs.specs.declared.registers.Thread.{Thread}
use Rattle.storage_ops.specs.declared.accesses.StorageOut.{StorageOut}
use Rattle.storage_ops.specs.Deeds.{deed_of}
use Rattle.storage_ops.specs.Reaching.{asks_of, reached, first_use, second_use}
use Rattle.storage_ops.specs.Answering.{IsAnswered}
use Rattle.storage_ops.specs.Effects.{After, around, storage_outcome, behind, writes_of, AreAsked, answer_in, end_with, windows_after}

-- what an access works on: the registers of its thread, RAM, the devices behind a port, and the journal
pub record Scene (P : Type 0) : Type 0 where
  pub thread : Thread
  pub ram : List ℕ
  pub port : P
  pub journal : JournalView

abbrev pub scene_of : {P : Type 0} → Thread → List ℕ → P → JournalView → Scene P
scene_of thread ram port journal = record { thread = thread; ram = ram; port = port; journal = journal }

-- the journal with some write rows more
abbrev pub with_writes : JournalView → List WriteRow → JournalView
with_writes j writes = record j { rows = record j.rows { writes = j.rows.writes ++ writes } }

-- What is to stand behind a form was carried out, in the step that is being made by the thread of this number. It may go by the
-- value that a device gave. Write rows, each with the right bytes, and at most one device row, came at the end; storage, the port
-- and its windows are those behind these rows.
pub record IsCarried {P : Type 0} (related : P → DeviceRow → P → Type 0) (windows : P → List (Option Window)) (number : ℕ) (after : ℕ → After) (old new : Scene P) : Type 0 where
  pub writes : List WriteRow
  pub devices : List DeviceRow
  pub journal : new.journal ≡ record old.journal { rows = record old.journal.rows { writes = old.journal.rows.writes ++ writes; devices = old.journal.rows.devices ++ devices } }
  pub thread : new.thread ≡ (after (answer_in devices)).thread
  pub write : writes ≡ writes_of (length old.journal.rows.steps) number old.ram (after (answer_in devices)).stored
  pub right : AreWrites old.ram writes
  pub device : AreAsked (length old.journal.rows.steps) (after (answer_in devices)).asked devices
  pub ram : new.ram ≡ ram_after old.ram writes
  pub port : Chain related old.port devices new.port
  pub windows_are : windows new.port ≡ windows_after (windows old.port) devices

-- What comes to this, by the value that a device gave, was carried out, and ends so.
pub record Carries {P : Type 0} (related : P → DeviceRow → P → Type 0) (windows : P → List (Option Window)) (number : ℕ) (outcome : ℕ → Outcome After) (old new : Scene P) (end : StepEnd) : Type 0 where
  pub carried : IsCarried related windows number (λ answer. behind (outcome answer) old.thread) old new
  pub ended : end ≡ end_with carried.devices (end_of (outcome (answer_in carried.devices)))

-- What is done for some asks, which the thread of this number makes in their order, and for an outcome by their answers and by the
-- value that a device gives: the asks are answered; behind these answers there is the outcome, and what stands behind it is
-- carried out. The uses show the answers.
pub record Performs {P : Type 0} (chooses : Query → Found → Mark → Type 0) (related : P → DeviceRow → P → Type 0) (windows : P → List (Option Window)) (number : ℕ) (asks : List Found → List Ask) (outcome : List Found → ℕ → Outcome After) (old new : Scene P) (out : StorageOut) : Type 0 where
  pub founds : List Found
  pub between : JournalView
  pub answered : IsAnswered chooses 2 number old.ram (asks founds) old.journal between founds
  pub carries : Carries related windows number (outcome founds) (record old { journal = between }) new out.end
  pub first : out.first ≡ first_use founds
  pub second : out.second ≡ second_use founds

-- the asks of a form of storage that are reached where they are answered so
abbrev pub asks_in : Insn → Thread → List Found → List Ask
asks_in i t founds = reached (asks_of (deed_of i t) t) founds

-- what a form of storage comes to in a scene, by the answers to its asks and by the value that a device gives
abbrev pub outcome_in : {P : Type 0} → (P → List (Option Window)) → Insn → Scene P → List Found → ℕ → Outcome After
outcome_in windows i old founds answer = storage_outcome i old.thread (around (windows old.port) old.ram founds answer)

-- an access of a form in the thread of this number
abbrev pub IsAccess : {P : Type 0} → (Query → Found → Mark → Type 0) → (P → DeviceRow → P → Type 0) → (P → List (Option Window)) → ℕ → Insn → Scene P → Scene P → StorageOut → Type 0
IsAccess chooses related windows number i old new out = Performs chooses related windows number (asks_in i old.thread) (outcome_in windows i old) old new out
