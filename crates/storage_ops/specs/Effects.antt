-- What a form of storage comes to.
use Rattle.std.specs.Prelude.{◌≡◌, ℕ, zero, suc, ◌+◌, ◌*◌, ◌/◌, ◌%◌, ◌^◌, ◌<◌, if◌then◌else◌, Bool, true, false, List, [], ◌∷◌, length, Option, Some, None}
use Rattle.journal_core.specs.declared.asks.Found.{Found}
use Rattle.journal_core.specs.declared.causes.Cause.TheVariants.{Alignment}
use Rattle.journal_core.specs.declared.rows.WriteRow.{WriteRow}
use Rattle.journal_core.specs.declared.rows.DeviceRow.{DeviceRow}
use Rattle.journal_core.specs.declared.rows.Signal.{Signal}
use Rattle.journal_core.specs.declared.rows.Signal.TheVariants.{Quiet, Byte, Stop, Eject}
use Rattle.journal_core.specs.declared.rows.StepEnd.{StepEnd}
use Rattle.journal_core.specs.declared.rows.StepEnd.TheVariants.{Stopped}
use Rattle.journal_core.specs.declared.rows.StopName.TheVariants.{DeviceStop}
use Rattle.journal_core.specs.Bytes.{le_value}
use Rattle.journal_core.specs.Past.{write_row, written}
use Rattle.form_outcomes.specs.Outcomes.{Outcome, Goes, Takes, after_of}
use Rattle.ppc_ops.specs.declared.insn.Insn.{Insn}
use Rattle.ppc_bus.specs.Windows.{Window}
use Rattle.ppc_bus.specs.Devices.{load_row, store_row}
use Rattle.ppc_bus.specs.Slots.{emptied}
use Rattle.thread_regs.specs.declared.registers.Thread.{Thread}
use Rattle.thread_regs.specs.Registers.{gpr, with_gpr}
use Rattle.storage_ops.specs.declared.forms.AccessForm.{AccessForm}
use Rattle.storage_ops.specs.declared.deeds.Deed.{Deed}
use Rattle.storage_ops.specs.declared.deeds.Deed.TheVariants.{Moves, Clears, Touches, Nothing}
use Rattle.storage_ops.specs.declared.parts.Part.{Part}
use Rattle.storage_ops.specs.Forms.{loaded, sent}
use Rattle.storage_ops.specs.Parts.{is_whole, bytes_in}
use Rattle.storage_ops.specs.Deeds.{deed_of, is_misaligned, address_in, parts_in}
use Rattle.storage_ops.specs.Reaching.{and_then, laid}
use Rattle.storage_ops.specs.Checks.{first_refusal, unless_refused, device_of}

-- a number of some bytes that is stored at a real address
pub record Stored : Type 0 where
  pub at : ℕ
  pub size : ℕ
  pub value : ℕ

-- a load or a store of so many bytes at an offset in the window of a device; a store has the number of the bytes
pub record DeviceAsk : Type 0 where
  pub slot : ℕ
  pub offset : ℕ
  pub size : ℕ
  pub store : Bool
  pub value : ℕ

-- what stands behind a form: the registers of its thread, what is stored in order, and what is asked of a device
pub record After : Type 0 where
  pub thread : Thread
  pub stored : List Stored
  pub asked : Option DeviceAsk

-- registers alone
abbrev pub registers : Thread → After
registers t = record { thread = t; stored = []; asked = None }

-- what a form finds around its thread: the windows of the devices, RAM, the answers to its asks, and the value that a device
-- gives
pub record Around : Type 0 where
  pub windows : List (Option Window)
  pub ram : List ℕ
  pub founds : List Found
  pub answer : ℕ

abbrev pub around : List (Option Window) → List ℕ → List Found → ℕ → Around
around windows ram founds answer = record { windows = windows; ram = ram; founds = founds; answer = answer }

-- a form with update puts the effective address into RA
abbrev pub updated : AccessForm → ℕ → ℕ → Thread → Thread
updated form base at t = if form.update then with_gpr t base at else t

-- the lowest bytes of a number, and the next ones, are stored in the parts in their order
abbrev pub split : ℕ → List Part → List Stored
split value [] = []
split value (p ∷ ps) = record { at = p.at; size = p.size; value = value % 256 ^ p.size } ∷ split (value / 256 ^ p.size) ps

-- what is asked of the device in this slot at this offset
abbrev pub asked_at : AccessForm → ℕ × ℕ → ℕ → DeviceAsk
asked_at form place value = record { slot = place.0; offset = place.1; size = form.size; store = form.store; value = value }

-- a load of bytes of RAM, part after part, or of the value that a device gives
abbrev pub load_after : AccessForm → ℕ → ℕ → ℕ → Thread → List ℕ → ℕ → List Part → Option (ℕ × ℕ) → After
load_after form register base at t ram answer parts None = registers (updated form base at (with_gpr t register (loaded form (le_value (bytes_in ram parts)))))
load_after form register base at t ram answer parts (Some place) =
    record { thread = updated form base at (with_gpr t register (loaded form answer)); stored = []; asked = Some (asked_at form place 0) }

-- a store of a register's bytes into RAM, part after part, or to a device
abbrev pub store_after : AccessForm → ℕ → ℕ → ℕ → Thread → List Part → Option (ℕ × ℕ) → After
store_after form register base at t parts None = record { thread = updated form base at t; stored = split (sent form (gpr t register)) parts; asked = None }
store_after form register base at t parts (Some place) = record { thread = updated form base at t; stored = []; asked = Some (asked_at form place (sent form (gpr t register))) }

abbrev pub move_after : AccessForm → ℕ → ℕ → ℕ → Thread → List (Option Window) → List ℕ → ℕ → List Part → After
move_after form register base at t windows ram answer parts =
    if form.store then store_after form register base at t parts (device_of windows parts) else load_after form register base at t ram answer parts (device_of windows parts)

-- a load or store whose parts lie so in real storage
abbrev pub move_outcome : AccessForm → ℕ → ℕ → ℕ → Thread → List (Option Window) → List ℕ → ℕ → List Part → Outcome After
move_outcome form register base at t windows ram answer parts =
    unless_refused (first_refusal windows (is_whole parts) (length ram) parts) (Goes (move_after form register base at t windows ram answer parts))

-- so many doublewords of zeros, one behind another
abbrev pub zeros : ℕ → ℕ → List Stored
zeros zero at = []
zeros (suc count) at = record { at = at; size = 8; value = 0 } ∷ zeros count (at + 8)

-- a cache block that lies so in real storage; no device takes it
abbrev pub clear_after : Thread → List Part → After
clear_after t [] = registers t
clear_after t (p ∷ ps) = record { thread = t; stored = zeros 16 p.at; asked = None }

abbrev pub clear_outcome : Thread → List (Option Window) → List ℕ → List Part → Outcome After
clear_outcome t windows ram parts = unless_refused (first_refusal windows false (length ram) parts) (Goes (clear_after t parts))

-- the access, whose parts lie so in real storage
abbrev pub placed_outcome : Deed → Thread → Around → List Part → Outcome After
placed_outcome (Moves form register base at) t x parts = move_outcome form register base at t x.windows x.ram x.answer parts
placed_outcome (Clears at) t x parts = clear_outcome t x.windows x.ram parts
placed_outcome (Touches at) t x parts = Goes (registers t)
placed_outcome Nothing t x parts = Goes (registers t)

-- What a deed comes to: first the address is to be aligned, then all parts are translated, then they are checked, and only then
-- anything moves.
abbrev pub deed_outcome : Deed → Thread → Around → Outcome After
deed_outcome deed t x =
    if is_misaligned deed then Takes (Alignment (address_in deed)) else and_then (laid (parts_in deed) x.founds) (placed_outcome deed t x)

-- what a form of storage comes to; it does not go on to the next instruction, which is the step's
unfoldable pub storage_outcome : Insn → Thread → Around → Outcome After
storage_outcome i t x = deed_outcome (deed_of i t) t x

-- what stands behind a form that comes to this
abbrev pub behind : Outcome After → Thread → After
behind outcome t = after_of outcome (registers t)

-- the write rows of what is stored, each with the bytes that stood there before
abbrev pub writes_of : ℕ → ℕ → List ℕ → List Stored → List WriteRow
writes_of step thread ram [] = []
writes_of step thread ram (s ∷ ss) = write_row step thread ram s.at s.size s.value ∷ writes_of step thread (written ram (write_row step thread ram s.at s.size s.value)) ss

-- the device rows of what is asked: none, or one with the value of a load, or the signal of a store
abbrev pub AreAskedBy : Bool → ℕ → DeviceAsk → List DeviceRow → Type 0
AreAskedBy true step ask rows = (signal : Signal) × (rows ≡ store_row step ask.slot ask.offset ask.size ask.value signal ∷ [])
AreAskedBy false step ask rows = (value : ℕ) × (value < 2 ^ (8 * ask.size)) × (rows ≡ load_row step ask.slot ask.offset ask.size value ∷ [])

abbrev pub AreAsked : ℕ → Option DeviceAsk → List DeviceRow → Type 0
AreAsked step None rows = rows ≡ []
AreAsked step (Some ask) rows = AreAskedBy ask.store step ask rows

-- the value that a device gave
abbrev pub answer_in : List DeviceRow → ℕ
answer_in [] = 0
answer_in (row ∷ rows) = row.value

-- a device's signal to stop is how the step ends, which is then done whole
abbrev pub end_by : Signal → ℕ → StepEnd → StepEnd
end_by Stop slot end = Stopped DeviceStop slot
end_by Quiet slot end = end
end_by (Byte b) slot end = end
end_by (Eject n) slot end = end

abbrev pub end_with : List DeviceRow → StepEnd → StepEnd
end_with [] end = end
end_with (row ∷ rows) end = end_by row.signal row.slot end

-- a device's signal to eject takes out the device of the slot that it names
abbrev pub windows_by : Signal → List (Option Window) → List (Option Window)
windows_by (Eject n) windows = emptied windows n
windows_by Quiet windows = windows
windows_by (Byte b) windows = windows
windows_by Stop windows = windows

abbrev pub windows_after : List (Option Window) → List DeviceRow → List (Option Window)
windows_after windows [] = windows
windows_after windows (row ∷ rows) = windows_after (windows_by row.signal windows) rows
