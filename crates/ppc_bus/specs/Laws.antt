use Rattle.std.specs.Prelude.{ℕ, ◌≡◌, true, List, Option, Some}
use Rattle.journal_core.specs.declared.rows.DeviceRow.{DeviceRow}
use Rattle.ppc_bus.specs.declared.slots.Slot.{Slot}
use Rattle.ppc_bus.specs.Devices.{Access, Reply}
use Rattle.ppc_bus.specs.Windows.{Window}
use Rattle.ppc_bus.specs.Holding.{window_at, is_access, LiesIn}
use Rattle.ppc_bus.specs.Plugging.{AreWindows}
use Rattle.ppc_bus.specs.Slots.{slot_in}
use Rattle.ppc_bus.specs.Chains.{Chain}
use Rattle.ppc_bus.specs.SlotRows.{rows_of, SlotAnswersOf}

-- an aligned access that begins in a window lies in it whole
abbrev pub AccessLiesInWindow : Type 0
AccessLiesInWindow =
    (windows : List (Option Window)) (at size slot offset : ℕ) →
    AreWindows windows → window_at windows at ≡ Some (slot, offset) → is_access at size ≡ true →
    LiesIn (slot_in windows slot) offset size

-- a chain of related rows answers, for each slot, as the device does that stood there at first
abbrev pub ChainAnswers : {D : Type 0} → (D → List ℕ) → (D → List ℕ → Access → Reply) → (List (Option (Slot D)) → DeviceRow → List (Option (Slot D)) → Type 0) → Type 0
ChainAnswers {D} list answers related =
    (before after : List (Option (Slot D))) (rows : List DeviceRow) (slot : ℕ) →
    Chain related before rows after →
    SlotAnswersOf list answers (slot_in before slot) (rows_of slot rows)
