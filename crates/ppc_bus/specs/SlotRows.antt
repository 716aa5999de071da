use Rattle.std.specs.Prelude.{ℕ, ◌≡◌, ◌==◌, List, [], ◌∷◌, filter, Option, Some, None}
use Rattle.journal_core.specs.declared.rows.DeviceRow.{DeviceRow}
use Rattle.ppc_bus.specs.declared.slots.Slot.{Slot}
use Rattle.ppc_bus.specs.Devices.{Access, Reply, access_of, Gives}

-- the rows of one slot
abbrev pub rows_of : ℕ → List DeviceRow → List DeviceRow
rows_of slot rows = filter (λ row. row.slot == slot) rows

-- the rows of a slot against its device's function and first list: each row says what the function replies to its access,
-- and the rows after it go on from the list of this reply
unfoldable pub AnswersOf : (List ℕ → Access → Reply) → List ℕ → List DeviceRow → Type 0
AnswersOf function list [] = Unit {0}
AnswersOf function list (row ∷ rows) = Gives (function list (access_of row)) row × AnswersOf function (function list (access_of row)).list rows

-- the same for what stood in a slot at first; a slot without a device has no row
abbrev pub SlotAnswersOf : {D : Type 0} → (D → List ℕ) → (D → List ℕ → Access → Reply) → Option (Slot D) → List DeviceRow → Type 0
SlotAnswersOf list answers None rows = rows ≡ []
SlotAnswersOf list answers (Some slot) rows = AnswersOf (answers slot.device) (list slot.device) rows
