use Rattle.std.specs.Prelude.{ℕ, ◌+◌, ◌-◌, ◌%◌, ◌≤◌, ◌==◌, ◌&&◌, ◌||◌, nat_le, nat_lt, Bool, false, List, [], ◌∷◌, if◌then◌else◌, Option, Some, None}
use Rattle.ppc_bus.specs.Windows.{Window}

-- a window holds an address
abbrev pub holds : Window → ℕ → Bool
holds window at = nat_le window.place at && nat_lt at (window.place + window.size)

-- the first slot from a number on whose window holds an address, and the offset in this window
unfoldable pub window_from : ℕ → List (Option Window) → ℕ → Option (ℕ × ℕ)
window_from slot [] at = None
window_from slot (None ∷ more) at = window_from (slot + 1) more at
window_from slot (Some window ∷ more) at = if holds window at then Some (slot, at - window.place) else window_from (slot + 1) more at

-- the slot whose window holds an address, and the offset in this window
abbrev pub window_at : List (Option Window) → ℕ → Option (ℕ × ℕ)
window_at windows at = window_from 0 windows at

-- whether the window of a slot holds an address
abbrev pub slot_holds : Option Window → ℕ → Bool
slot_holds None at = false
slot_holds (Some window) at = holds window at

-- the slot of a slot and an offset
abbrev pub slot_of : Option (ℕ × ℕ) → Option ℕ
slot_of None = None
slot_of (Some place) = Some place.0

-- an access has a size of 1, 2, 4 or 8 bytes that divides its address
abbrev pub is_size : ℕ → Bool
is_size size = (size == 1) || (size == 2) || (size == 4) || (size == 8)

abbrev pub is_access : ℕ → ℕ → Bool
is_access at size = is_size size && ((at % size) == 0)

-- an access of a size at an offset lies in the window of a slot whole
abbrev pub LiesIn : Option Window → ℕ → ℕ → Type 0
LiesIn None offset size = ⊥
LiesIn (Some window) offset size = offset + size ≤ window.size
