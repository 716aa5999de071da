use Rattle.std.specs.Prelude.{ℕ, List, [], ◌∷◌, map, Option, Some, None}
use Rattle.ppc_bus.specs.declared.slots.Slot.{Slot}

-- a window of the address space: where it begins, and how many bytes it has
pub record Window : Type 0 where
  pub place : ℕ
  pub size : ℕ

-- the window of a slot, or None where no device is there
abbrev pub window_of : {D : Type 0} → Option (Slot D) → Option Window
window_of None = None
window_of (Some slot) = Some (record { place = slot.at; size = slot.size })

-- the windows of all slots, in the order of their numbers
abbrev pub windows_of : {D : Type 0} → List (Option (Slot D)) → List (Option Window)
windows_of slots = map window_of slots

-- the windows of a console, a control and a tape as the program plugs them: at 0x10000000, 0x10001000 and 0x10002000
abbrev pub standard_windows : List (Option Window)
standard_windows =
    Some (record { place = 268435456; size = 8 })
    ∷ Some (record { place = 268439552; size = 16 })
    ∷ Some (record { place = 268443648; size = 16 })
    ∷ []
