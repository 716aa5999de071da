-- The devices that a machine is opened with.
use Rattle.std.specs.Prelude.{ℕ, ◌+◌, ◌++◌, List, [], ◌∷◌, map, Option, Some, None}
use Rattle.ppc_bus.specs.declared.faults.PlugReason.{PlugReason}
use Rattle.ppc_bus.specs.declared.slots.Slot.{Slot}
use Rattle.ppc_bus.specs.Plugging.{refusal_of}
use Rattle.ppc_bus.specs.Windows.{Window}
use Rattle.ppc_machine.specs.declared.plugging.PluggedOf.{PluggedOf}

-- the window of a device that is to be plugged, and its slot once it is; `size` says how many bytes a device's window has
abbrev pub window_for : {D : Type 0} → (D → ℕ) → PluggedOf D → Window
window_for size p = record { place = p.at; size = size p.device }

abbrev pub slot_for : {D : Type 0} → (D → ℕ) → PluggedOf D → Option (Slot D)
slot_for size p = Some (record { at = p.at; size = size p.device; device = p.device })

-- the windows of some devices, and as they are plugged one after another
abbrev pub windows_for : {D : Type 0} → (D → ℕ) → List (PluggedOf D) → List Window
windows_for size devices = map (window_for size) devices

abbrev pub plugged_windows : List Window → List (Option Window)
plugged_windows windows = map Some windows

abbrev pub slots_for : {D : Type 0} → (D → ℕ) → List (PluggedOf D) → List (Option (Slot D))
slots_for size devices = map (slot_for size) devices

abbrev pub refused_by : ℕ → Option PlugReason → Option (ℕ × PlugReason) → Option (ℕ × PlugReason)
refused_by number (Some reason) next = Some (number, reason)
refused_by number None next = next

-- the first of some windows, numbered from a number on, that is not plugged behind others, and why
unfoldable pub first_refused : ℕ → List (Option Window) → List Window → Option (ℕ × PlugReason)
first_refused number before [] = None
first_refused number before (w ∷ ws) = refused_by number (refusal_of before w) (first_refused (number + 1) (before ++ Some w ∷ []) ws)
