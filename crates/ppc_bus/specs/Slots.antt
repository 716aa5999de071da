use Rattle.std.specs.Prelude.{ℕ, zero, suc, List, [], ◌∷◌, slice_set, Option, Some, None}
use Rattle.ppc_bus.specs.declared.slots.Slot.{Slot}

-- what stands at a number, or None past the end
unfoldable pub slot_in : {A : Type 0} → List (Option A) → ℕ → Option A
slot_in [] n = None
slot_in (slot ∷ more) zero = slot
slot_in (slot ∷ more) (suc n) = slot_in more n

-- the list without what stands at a number
abbrev pub emptied : {A : Type 0} → List (Option A) → ℕ → List (Option A)
emptied slots n = slice_set slots n None

-- the device of a slot, or None
abbrev pub device_in : {D : Type 0} → Option (Slot D) → Option D
device_in None = None
device_in (Some slot) = Some slot.device
