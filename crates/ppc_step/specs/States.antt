-- The architected state, and what a fetch finds in it.
use Rattle.std.specs.Prelude.{ℕ, ◌+◌, nat_le, if◌then◌else◌, List, map, length, Option, Some, None}
use Rattle.journal_core.specs.declared.asks.AccessKind.TheVariants.{Fetch}
use Rattle.journal_core.specs.declared.asks.Ask.{Ask}
use Rattle.journal_core.specs.Bytes.{le_value, piece}
use Rattle.ppc_bus.specs.Windows.{Window}
use Rattle.thread_regs.specs.declared.registers.Thread.{Thread}
use Rattle.storage_ops.specs.Reaching.{ask_of}

-- the registers of each thread, its time base among them, the bytes of RAM, and the windows of the devices by their slots
pub record State : Type 0 where
  pub threads : List Thread
  pub ram : List ℕ
  pub windows : List (Option Window)

-- the state of these threads over this RAM and these windows: each state that is not made from another one is made so
abbrev pub state_of : List Thread → List ℕ → List (Option Window) → State
state_of ts bytes slots = record { threads = ts; ram = bytes; windows = slots }

-- a thread's fetch asks for the address of its next instruction
abbrev pub fetch_ask : Thread → Ask
fetch_ask t = ask_of t Fetch t.nia

-- the instruction's word at a real address, where its four bytes are all in RAM
unfoldable pub word_at : List ℕ → ℕ → Option ℕ
word_at ram at = if nat_le (at + 4) (length ram) then Some (le_value (piece ram at 4)) else None

-- the values of each thread's partition table control register
abbrev pub ptcrs_of : List Thread → List ℕ
ptcrs_of threads = map (λ (t : Thread). t.ptcr) threads
