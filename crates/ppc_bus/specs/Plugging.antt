use Rattle.std.specs.Prelude.{ℕ, ◌≡◌, ◌%◌, ◌==◌, ◌&&◌, nat_le, nat_lt, Bool, true, false, List, [], ◌∷◌, length, Option, Some, None}
use Rattle.ppc_bus.specs.declared.faults.PlugReason.{PlugReason}
use Rattle.ppc_bus.specs.declared.faults.PlugReason.TheVariants.{SlotsFull, BadWindow, SlotUsed}
use Rattle.ppc_bus.specs.Windows.{Window}
use Rattle.ppc_bus.specs.Meeting.{met_from, AreApart}

-- where a window may begin: at a multiple of 4,096 from 0x10000000 to below 0x20000000
abbrev pub is_place : ℕ → Bool
is_place at = ((at % 4096) == 0) && nat_le 268435456 at && nat_lt at 536870912

-- how many bytes it may have: a multiple of 8, 65,536 at most and not 0
abbrev pub is_extent : ℕ → Bool
is_extent size = nat_lt 0 size && nat_le size 65536 && ((size % 8) == 0)

abbrev pub is_window : Window → Bool
is_window window = is_place window.place && is_extent window.size

-- why a device is not plugged, by whether a slot is left, whether its window may be, and the least slot that this meets
abbrev pub refusal_by : Bool → Bool → Option ℕ → Option PlugReason
refusal_by false may met = Some SlotsFull
refusal_by true false met = Some BadWindow
refusal_by true true None = None
refusal_by true true (Some slot) = Some (SlotUsed slot)

abbrev pub refusal_of : List (Option Window) → Window → Option PlugReason
refusal_of windows window = refusal_by (nat_lt (length windows) 8) (is_window window) (met_from 0 windows window)

-- every window is one that a device may have
unfoldable pub AreWindows : List (Option Window) → Type 0
AreWindows [] = Unit {0}
AreWindows (None ∷ more) = AreWindows more
AreWindows (Some window ∷ more) = (is_window window ≡ true) × AreWindows more

-- the windows of a bus
pub record ArePlugged (windows : List (Option Window)) : Type 0 where
  pub each : AreWindows windows
  pub apart : AreApart windows
