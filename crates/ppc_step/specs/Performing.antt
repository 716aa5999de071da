-- A step of a thread before its row is there.
use Rattle.std.specs.Prelude.{◌≡◌, ℕ, Bool, true, false, if◌then◌else◌, List, [], ◌∷◌, Option}
use Rattle.journal_core.specs.declared.asks.Found.{Found}
use Rattle.journal_core.specs.declared.rows.DeviceRow.{DeviceRow}
use Rattle.journal_core.specs.declared.rows.StepEnd.{StepEnd}
use Rattle.journal_core.specs.declared.rows.StepEnd.TheVariants.{Ran, Took, Stopped}
use Rattle.journal_core.specs.Rows.{JournalView}
use Rattle.journal_core.specs.Turns.{Mark, Query}
use Rattle.journal_core.specs.Answers.{uses_of}
use Rattle.ppc_ops.specs.declared.insn.Insn.{Insn}
use Rattle.ppc_bus.specs.Windows.{Window}
use Rattle.storage_ops.specs.declared.accesses.StorageOut.{StorageOut}
use Rattle.storage_ops.specs.Reaching.{reached}
use Rattle.storage_ops.specs.Answering.{IsAnswered}
use Rattle.storage_ops.specs.Effects.{around}
use Rattle.storage_ops.specs.Accesses.{Scene, Carries, Performs}
use Rattle.ppc_step.specs.declared.stepping.Ending.{Ending}
use Rattle.ppc_step.specs.Words.{form_outcome, form_asks, word_outcome, word_asks}
use Rattle.interrupts.specs.Delivery.{delivered}
use Rattle.interrupts.specs.Clock.{all_ticked}
use Rattle.thread_regs.specs.declared.registers.Thread.{Thread}
use Rattle.thread_regs.specs.Registers.{thread_at}
use Rattle.ppc_step.specs.Steps.{fetched, step_asks, step_outcome, ticked_with}

-- the form of a word is executed by the thread of this number
abbrev pub IsExecuted : {P : Type 0} → (Query → Found → Mark → Type 0) → (P → DeviceRow → P → Type 0) → (P → List (Option Window)) → ℕ → Insn → ℕ → Scene P → Scene P → StorageOut → Type 0
IsExecuted chooses related windows number i word old new out =
    Performs chooses related windows number (reached (form_asks i word old.thread)) (λ founds answer. form_outcome i word old.thread (around (windows old.port) old.ram founds answer)) old new out

-- a word is executed
abbrev pub IsWordExecuted : {P : Type 0} → (Query → Found → Mark → Type 0) → (P → DeviceRow → P → Type 0) → (P → List (Option Window)) → ℕ → ℕ → Scene P → Scene P → StorageOut → Type 0
IsWordExecuted chooses related windows number word old new out =
    Performs chooses related windows number (reached (word_asks word old.thread)) (λ founds answer. word_outcome word old.thread (around (windows old.port) old.ram founds answer)) old new out

-- The step of the thread of this number: its asks are answered in their order; behind these answers there is its outcome, and what
-- stands behind it is carried out. It ends so, with the word that it fetched and the uses that show the answers.
pub record PerformsStep {P : Type 0} (chooses : Query → Found → Mark → Type 0) (related : P → DeviceRow → P → Type 0) (windows : P → List (Option Window)) (number : ℕ) (old new : Scene P) (e : Ending) : Type 0 where
  pub founds : List Found
  pub between : JournalView
  pub answered : IsAnswered chooses 3 number old.ram (step_asks old.thread old.ram founds) old.journal between founds
  pub carries : Carries related windows number (step_outcome old.thread (windows old.port) old.ram founds) (record old { journal = between }) new e.end
  pub word : e.word ≡ fetched old.thread old.ram founds
  pub uses : e.uses ≡ uses_of founds

-- a step is done by how it ends and by whether it asked a device
abbrev pub is_done_by : StepEnd → Bool → Bool
is_done_by Ran asked = true
is_done_by (Took cause) asked = false
is_done_by (Stopped name value) asked = asked

-- there is a device row
abbrev pub is_asked : List DeviceRow → Bool
is_asked [] = false
is_asked (row ∷ rows) = true

-- the threads after a step of one that ends so and whose form has left its registers, by whether it asked a device: an interrupt
-- is delivered to it, and every clock ticks where the step was done or took one
abbrev pub threads_by : ℕ → List Thread → StepEnd → Bool → List Thread
threads_by number threads Ran asked = all_ticked threads
threads_by number threads (Took cause) asked = ticked_with number (delivered cause (thread_at threads number)) threads
threads_by number threads (Stopped name value) asked = if asked then all_ticked threads else threads
