use Rattle.std.specs.Prelude.{ℕ, zero, suc, ◌≡◌, List, [], ◌∷◌, Option, Some, None}
use Rattle.journal_core.specs.declared.rows.DeviceRow.{DeviceRow}
use Rattle.ppc_bus.specs.declared.slots.Slot.{Slot}
use Rattle.ppc_bus.specs.Devices.{Access, Reply}
use Rattle.ppc_bus.specs.Slots.{slot_in, emptied}
use Rattle.ppc_bus.specs.Answers.{SlotKeeps, DeviceAnswers}

-- a list where one slot was emptied has at each number None, or what stood there
emptied-keeps : {A : Type 0} (slots : List (Option A)) (n k : ℕ) (P : Option A → Type 0) → P None → P (slot_in slots k) → P (slot_in (emptied slots n) k)
unfolding slot_in
emptied-keeps [] n k P none there = there
emptied-keeps (slot ∷ more) zero zero P none there = none
emptied-keeps (slot ∷ more) zero (suc k) P none there = there
emptied-keeps (slot ∷ more) (suc n) zero P none there = there
emptied-keeps (slot ∷ more) (suc n) (suc k) P none there = emptied-keeps more n k P none there

keeps-none : {D : Type 0} (list : D → List ℕ) (answers : D → List ℕ → Access → Reply) (row : DeviceRow) (k : ℕ) (before : Option (Slot D)) → SlotKeeps list answers row k before None
keeps-none list answers row k None = tt
keeps-none list answers row k (Some slot) = tt

-- the answers of a row stand where a device is taken out directly after it
pub answers_emptied : {D : Type 0} (list : D → List ℕ) (answers : D → List ℕ → Access → Reply) (first old new : List (Option (Slot D))) (row : DeviceRow) (slot : ℕ) →
    DeviceAnswers list answers first row old → new ≡ emptied old slot → DeviceAnswers list answers first row new
answers_emptied list answers first old new row slot related is =
    rw is (record { gives = related.gives; left = λ k. emptied-keeps old slot k (SlotKeeps list answers row k (slot_in first k)) (keeps-none list answers row k (slot_in first k)) (related.left k) })
