-- What a step of a thread comes to, check by check, and what it leaves of all threads.
use Rattle.std.specs.Prelude.{ℕ, Bool, true, false, not, ◌&&◌, ◌==◌, if◌then◌else◌, List, [], ◌∷◌, slice_set, Option, Some, None}
use Rattle.journal_core.specs.declared.asks.Ask.{Ask}
use Rattle.journal_core.specs.declared.asks.Found.{Found}
use Rattle.journal_core.specs.declared.asks.Found.TheVariants.{Real, Fault, Stop}
use Rattle.journal_core.specs.declared.causes.Cause.{Cause}
use Rattle.journal_core.specs.declared.rows.DeviceRow.{DeviceRow}
use Rattle.journal_core.specs.declared.rows.StepEnd.{StepEnd}
use Rattle.journal_core.specs.declared.rows.StepEnd.TheVariants.{Ran, Took, Stopped}
use Rattle.journal_core.specs.declared.rows.StopName.TheVariants.{NoStorage, GuestZero}
use Rattle.ppc_spr.specs.Msrs.{hv}
use Rattle.form_outcomes.specs.Outcomes.{Outcome, Goes, Takes, Stops}
use Rattle.thread_regs.specs.declared.registers.Thread.{Thread}
use Rattle.thread_regs.specs.Registers.{thread_at}
use Rattle.interrupts.specs.Delivery.{delivered}
use Rattle.interrupts.specs.PendingCauses.{pending_cause}
use Rattle.interrupts.specs.Clock.{all_ticked}
use Rattle.ppc_bus.specs.Windows.{Window}
use Rattle.storage_ops.specs.Reaching.{reached}
use Rattle.storage_ops.specs.Effects.{After, Around, around, registers}
use Rattle.ppc_step.specs.States.{fetch_ask, word_at}
use Rattle.ppc_step.specs.Words.{word_outcome, word_asks}

-- ---- the fetch

-- the word that was fetched, by the answer to the fetch: none but where it is a real address whose four bytes are in RAM
abbrev pub word_by : List ℕ → List Found → Option ℕ
word_by ram [] = None
word_by ram (Real at used ∷ founds) = word_at ram at
word_by ram (Fault cause used ∷ founds) = None
word_by ram (Stop name value ∷ founds) = None

-- a guest's state with partition number 0, which stops the machine: such a guest has no tables
abbrev pub is_guest_zero : Thread → Bool
is_guest_zero t = not (hv t.msr) && (t.lpidr == 0)

-- a pending interrupt comes first, and then a guest's state with partition number 0: with either no word is fetched
abbrev pub word_unless : Option Cause → Bool → List ℕ → List Found → Option ℕ
word_unless (Some cause) zero ram founds = None
word_unless None true ram founds = None
word_unless None false ram founds = word_by ram founds

-- the word that a step of this thread fetches, where its asks have these answers
abbrev pub fetched : Thread → List ℕ → List Found → Option ℕ
fetched t ram founds = word_unless (pending_cause t) (is_guest_zero t) ram founds

-- ---- its asks

-- the answers behind the first
abbrev pub behind_first : List Found → List Found
behind_first [] = []
behind_first (found ∷ founds) = founds

-- the asks of a word for data that are reached
abbrev pub data_asks : Thread → Option ℕ → List Found → List Ask
data_asks t None founds = []
data_asks t (Some word) founds = reached (word_asks word t) founds

abbrev pub asks_unless_ended : Option Cause → Bool → Thread → List ℕ → List Found → List Ask
asks_unless_ended (Some cause) zero t ram founds = []
asks_unless_ended None true t ram founds = []
asks_unless_ended None false t ram founds = fetch_ask t ∷ data_asks t (word_by ram founds) (behind_first founds)

-- the asks of a step of this thread that are reached, where they have these answers: the fetch, and then those for data
abbrev pub step_asks : Thread → List ℕ → List Found → List Ask
step_asks t ram founds = asks_unless_ended (pending_cause t) (is_guest_zero t) t ram founds

-- ---- its outcome

-- a word that was fetched, or storage that is not there
abbrev pub fetched_outcome : Thread → ℕ → Option ℕ → Around → Outcome After
fetched_outcome t at (Some word) x = word_outcome word t x
fetched_outcome t at None x = Stops NoStorage at

-- by the answer to the fetch; a step has one
abbrev pub found_outcome : Thread → List (Option Window) → List ℕ → List Found → ℕ → Outcome After
found_outcome t windows ram [] answer = Goes (registers t)
found_outcome t windows ram (Real at used ∷ founds) answer = fetched_outcome t at (word_at ram at) (around windows ram founds answer)
found_outcome t windows ram (Fault cause used ∷ founds) answer = Takes cause
found_outcome t windows ram (Stop name value ∷ founds) answer = Stops name value

abbrev pub outcome_unless : Option Cause → Bool → Outcome After → Outcome After
outcome_unless (Some cause) zero outcome = Takes cause
outcome_unless None true outcome = Stops GuestZero 0
outcome_unless None false outcome = outcome

-- What a step of this thread comes to, over these windows and RAM, by the answers to its asks and by the value that a device gives:
-- what the first of these checks gives that raises an interrupt or stops the machine, and else what its form leaves. They are,
-- in this order, a pending interrupt; a guest's state with partition number 0; the translation of the fetch, and its word; the word's decoding; the form's privilege; its
-- alignment, trap or system call; the translation of its data, page by page; and where its parts lie.
abbrev pub step_outcome : Thread → List (Option Window) → List ℕ → List Found → ℕ → Outcome After
step_outcome t windows ram founds answer = outcome_unless (pending_cause t) (is_guest_zero t) (found_outcome t windows ram founds answer)

-- ---- all threads

-- a thread's registers, and then a tick of every thread's clock
abbrev pub ticked_with : ℕ → Thread → List Thread → List Thread
ticked_with number t threads = all_ticked (slice_set threads number t)

-- a step is done whole where it ran, and where a device that it asked stopped the machine
abbrev pub is_done : StepEnd → List DeviceRow → Bool
is_done Ran devices = true
is_done (Took cause) devices = false
is_done (Stopped name value) [] = false
is_done (Stopped name value) (row ∷ rows) = true

-- the threads where a step was not done: an interrupt is delivered to its thread as it was before, and a stop changes nothing
abbrev pub threads_undone : ℕ → List Thread → StepEnd → List Thread
threads_undone number threads Ran = threads
threads_undone number threads (Took cause) = ticked_with number (delivered cause (thread_at threads number)) threads
threads_undone number threads (Stopped name value) = threads

-- the threads after a step of one that ends so, with these device rows, whose form leaves these registers
abbrev pub threads_after : ℕ → Thread → List Thread → StepEnd → List DeviceRow → List Thread
threads_after number after threads end devices = if is_done end devices then ticked_with number after threads else threads_undone number threads end
