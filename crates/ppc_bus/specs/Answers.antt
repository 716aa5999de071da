use Rattle.std.specs.Prelude.{ℕ, ◌≡◌, ◌==◌, List, Option, Some, None, if◌then◌else◌}
use Rattle.journal_core.specs.declared.rows.DeviceRow.{DeviceRow}
use Rattle.ppc_bus.specs.declared.slots.Slot.{Slot}
use Rattle.ppc_bus.specs.Devices.{Access, Reply, access_of, Gives}
use Rattle.ppc_bus.specs.Slots.{slot_in}

-- A device D means a list, and answers by a function of a list and an access. These two are the first arguments below.

-- the reply of a device to the access of a row, from the list that it means
abbrev pub reply_of : {D : Type 0} → (D → List ℕ) → (D → List ℕ → Access → Reply) → D → DeviceRow → Reply
reply_of list answers device row = answers device (list device) (access_of row)

-- a device answers as another one does, whatever list it means
abbrev pub HasFunction : {D : Type 0} → (D → List ℕ → Access → Reply) → D → D → Type 0
HasFunction answers old new = (l : List ℕ) (access : Access) → answers new l access ≡ answers old l access

-- the list that the device of a slot means after a row: that of its reply where it is the row's slot, else its list as before
abbrev pub list_after : {D : Type 0} → (D → List ℕ) → (D → List ℕ → Access → Reply) → DeviceRow → ℕ → D → List ℕ
list_after list answers row k device = if row.slot == k then (reply_of list answers device row).list else list device

-- the row says what the device of its slot replies
abbrev pub SlotGives : {D : Type 0} → (D → List ℕ) → (D → List ℕ → Access → Reply) → Option (Slot D) → DeviceRow → Type 0
SlotGives list answers None row = ⊥
SlotGives list answers (Some slot) row = Gives (reply_of list answers slot.device row) row

-- a slot before and after a row: no device; or one with the function as before, which means the list after the row
abbrev pub SlotKeeps : {D : Type 0} → (D → List ℕ) → (D → List ℕ → Access → Reply) → DeviceRow → ℕ → Option (Slot D) → Option (Slot D) → Type 0
SlotKeeps list answers row k before None = Unit {0}
SlotKeeps list answers row k None (Some new) = ⊥
SlotKeeps list answers row k (Some old) (Some new) = HasFunction answers old.device new.device × (list new.device ≡ list_after list answers row k old.device)

-- Device answers of one row: its value and signal are the reply of its slot's device. This device, where it is still there,
-- then means the list of the reply. Every other device that is there means its list as before, and every device that is
-- there has its function as before.
pub record DeviceAnswers {D : Type 0} (list : D → List ℕ) (answers : D → List ℕ → Access → Reply) (before : List (Option (Slot D))) (row : DeviceRow) (after : List (Option (Slot D))) : Type 0 where
  pub gives : SlotGives list answers (slot_in before row.slot) row
  pub left : (k : ℕ) → SlotKeeps list answers row k (slot_in before k) (slot_in after k)

-- a slot before and after an access that its device answered: place and size are the same, and the device is there
abbrev pub SlotAnswers : {D : Type 0} → (D → List ℕ) → (D → List ℕ → Access → Reply) → DeviceRow → Option (Slot D) → Option (Slot D) → Type 0
SlotAnswers list answers row None after = ⊥
SlotAnswers list answers row (Some old) None = ⊥
SlotAnswers list answers row (Some old) (Some new) =
    Gives (reply_of list answers old.device row) row
    × HasFunction answers old.device new.device
    × (list new.device ≡ (reply_of list answers old.device row).list)
    × (new.at ≡ old.at)
    × (new.size ≡ old.size)
