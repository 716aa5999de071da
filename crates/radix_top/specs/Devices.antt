-- The devices that a call was handed.
use Rattle.std.specs.Prelude.{ℕ, List}
use Rattle.journal_core.specs.declared.rows.DeviceRow.{DeviceRow}
use Rattle.ppc_bus.specs.Devices.{Access, Reply}
use Rattle.ppc_bus.specs.Windows.{Window}
use Rattle.ppc_bus.specs.Slots.{slot_in}
use Rattle.ppc_bus.specs.SlotRows.{rows_of, SlotAnswersOf}
use Rattle.ppc_machine.specs.declared.plugging.PluggedOf.{PluggedOf}
use Rattle.ppc_machine.specs.Plugging.{windows_for, slots_for}

-- devices as they were handed in, and how they are seen: how many bytes the window of one has, the list that it means, and the
-- function by which it answers
pub record DevicesSeen (D : Type 0) : Type 0 where
  pub size : D → ℕ
  pub list : D → List ℕ
  pub answers : D → List ℕ → Access → Reply
  pub devices : List (PluggedOf D)

abbrev pub handed : {D : Type 0} → (D → ℕ) → (D → List ℕ) → (D → List ℕ → Access → Reply) → List (PluggedOf D) → DevicesSeen D
handed size list answers devices = record { size = size; list = list; answers = answers; devices = devices }

-- their windows, in order
abbrev pub windows_in : {D : Type 0} → DevicesSeen D → List Window
windows_in d = windows_for d.size d.devices

-- the rows of each slot say what the function of its device replies, row after row, from the list that the device meant when it
-- was handed in; a slot without a device has no row
abbrev pub DevicesAnswer : {D : Type 0} → DevicesSeen D → List DeviceRow → Type 0
DevicesAnswer d rows = (slot : ℕ) → SlotAnswersOf d.list d.answers (slot_in (slots_for d.size d.devices) slot) (rows_of slot rows)
