use Rattle.std.proofs.Common.{◌≡◌, ℕ, ◌<◌, ◌*◌, ◌^◌, ◌==◌, List, length, if◌then◌else◌, slice_index_or, slice_set, Option, Some, None, Result, Ok, Err, IfOk, IsSome, refl, sym, ap, ◌∙◌, rules}
use Rattle.std.proofs.lemmas.Nat.{mod_below, pow_pos}
use Rattle.std.proofs.lemmas.Bool.Decides.{nat_tests}
use Rattle.journal_core.specs.declared.rows.DeviceRow.{DeviceRow}
use Rattle.journal_core.specs.declared.rows.Signal.{Signal}
use Rattle.ppc_bus.specs.declared.slots.Slot.{Slot}
use Rattle.ppc_bus.specs.Devices.{Access, Reply, load_row, store_row}
use Rattle.ppc_bus.specs.Windows.{window_of, windows_of}
use Rattle.ppc_bus.specs.Plugging.{ArePlugged}
use Rattle.ppc_bus.specs.Slots.{slot_in}
use Rattle.ppc_bus.specs.Answers.{reply_of, SlotGives, SlotKeeps, DeviceAnswers, SlotAnswers}
use Rattle.ppc_bus.proofs.ListLemmas.{slot_in-at, slot_in-within, slot_in-set}
use Rattle.ppc_bus.proofs.WindowLemmas.{windows-set}

abbrev pub Lists : Type 0 → Type 0
Lists D = D → List ℕ

abbrev pub Functions : Type 0 → Type 0
Functions D = D → List ℕ → Access → Reply

choice_true : {A : Type 0} (m n : ℕ) (x y : A) → m ≡ n → (if m == n then x else y) ≡ x
choice_true m n x y same = search (rules, nat_tests)

choice_false : {A : Type 0} (m n : ℕ) (x y : A) → (m ≡ n → ⊥) → (if m == n then x else y) ≡ y
choice_false m n x y other = search (rules, nat_tests)

gives_of : {D : Type 0} (list : Lists D) (answers : Functions D) (row : DeviceRow) (old new : Option (Slot D)) → SlotAnswers list answers row old new → SlotGives list answers old row
gives_of list answers row None new is = absurd is
gives_of list answers row (Some old) None is = absurd is
gives_of list answers row (Some old) (Some new) is = is.0

keeps_here : {D : Type 0} (list : Lists D) (answers : Functions D) (row : DeviceRow) (k : ℕ) (old new : Option (Slot D)) → row.slot ≡ k → SlotAnswers list answers row old new → SlotKeeps list answers row k old new
keeps_here list answers row k None new at is = absurd is
keeps_here list answers row k (Some old) None at is = absurd is
keeps_here list answers row k (Some old) (Some new) at is = (is.1, is.2 ∙ sym (choice_true row.slot k (reply_of list answers old.device row).list (list old.device) at))

keeps_there : {D : Type 0} (list : Lists D) (answers : Functions D) (row : DeviceRow) (k : ℕ) (slot : Option (Slot D)) → (row.slot ≡ k → ⊥) → SlotKeeps list answers row k slot slot
keeps_there list answers row k None other = tt
keeps_there list answers row k (Some slot) other = (λ l access. refl, sym (choice_false row.slot k (reply_of list answers slot.device row).list (list slot.device) other))

window_same : {D : Type 0} (list : Lists D) (answers : Functions D) (row : DeviceRow) (old new : Option (Slot D)) → SlotAnswers list answers row old new → window_of new ≡ window_of old
window_same list answers row None new is = absurd is
window_same list answers row (Some old) None is = absurd is
window_same list answers row (Some old) (Some new) is = rw (is.3, is.4) refl

-- a row at the slot that a lookup of the list gave
pub answered : {D : Type 0} (list : Lists D) (answers : Functions D) (row : DeviceRow) (xs ys : List (Option (Slot D))) (old new : Option (Slot D)) →
    xs ≡ ys → IsSome (slot_in ys row.slot) → old ≡ slice_index_or xs row.slot old → SlotAnswers list answers row old new → DeviceAnswers list answers ys row (slice_set xs row.slot new)
answered list answers row xs ys old new same some is answer =
    let less : row.slot < length ys = slot_in-within ys row.slot some in
    let at : slot_in ys row.slot ≡ old = slot_in-at ys row.slot old less (is ∙ ap (λ l. slice_index_or l row.slot old) same) in
    rw same
    (record {
      gives = rw at (gives_of list answers row old new answer);
      left = λ k.
          slot_in-set ys row.slot k new (SlotKeeps list answers row k (slot_in ys k)) less
          (λ here. rw (here, at) (keeps_here list answers row row.slot old new refl answer))
          (λ other. keeps_there list answers row k (slot_in ys k) (λ here. other (sym here)));
    })

pub others : {D : Type 0} (xs ys : List (Option (Slot D))) (slot : ℕ) (new : Option (Slot D)) → xs ≡ ys → IsSome (slot_in ys slot) → (k : ℕ) → (k ≡ slot → ⊥) → slot_in (slice_set xs slot new) k ≡ slot_in ys k
others xs ys slot new same some k other = rw same (slot_in-set ys slot k new (λ s. s ≡ slot_in ys k) (slot_in-within ys slot some) (λ here. absurd (other here)) (λ there. refl))

pub windows : {D : Type 0} (list : Lists D) (answers : Functions D) (row : DeviceRow) (xs ys : List (Option (Slot D))) (old new : Option (Slot D)) →
    xs ≡ ys → IsSome (slot_in ys row.slot) → old ≡ slice_index_or xs row.slot old → SlotAnswers list answers row old new → windows_of (slice_set xs row.slot new) ≡ windows_of ys
windows list answers row xs ys old new same some is answer =
    let at : slot_in ys row.slot ≡ old = slot_in-at ys row.slot old (slot_in-within ys row.slot some) (is ∙ ap (λ l. slice_index_or l row.slot old) same) in
    rw same (windows-set ys row.slot new (window_same list answers row old new answer ∙ ap window_of (sym at)))

-- the row of an access at any step and slot
pub at_load : {D : Type 0} (list : Lists D) (answers : Functions D) (step k offset size value : ℕ) (old new : Option (Slot D)) → SlotAnswers list answers (load_row 0 0 offset size value) old new → SlotAnswers list answers (load_row step k offset size value) old new
at_load list answers step k offset size value None new is = is
at_load list answers step k offset size value (Some old) None is = is
at_load list answers step k offset size value (Some old) (Some new) is = is

pub at_store : {D : Type 0} (list : Lists D) (answers : Functions D) (step k offset size value : ℕ) (signal : Signal) (old new : Option (Slot D)) → SlotAnswers list answers (store_row 0 0 offset size value signal) old new → SlotAnswers list answers (store_row step k offset size value signal) old new
at_store list answers step k offset size value signal None new is = is
at_store list answers step k offset size value signal (Some old) None is = is
at_store list answers step k offset size value signal (Some old) (Some new) is = is

-- a loaded value is below 2^(8·size)
pub loaded_below : {D : Type 0} (list : Lists D) (answers : Functions D) (slot : Option (Slot D)) (step k offset size value : ℕ) → SlotGives list answers slot (load_row step k offset size value) → value < 2 ^ (8 * size)
loaded_below list answers None step k offset size value gives = absurd gives
loaded_below list answers (Some s) step k offset size value gives = rw gives.0 (mod_below _ (2 ^ (8 * size)) (pow_pos (8 * size)))

pub where_ok : {T E : Type 0} (r : Result T E) {P Q : T → Type 0} → ((x : T) → P x → Q x) → IfOk r P → IfOk r Q
where_ok (Ok x) more is = more x is
where_ok (Err e) more is = tt

pub plugged_same : {D : Type 0} (xs ys zs : List (Option (Slot D))) → xs ≡ ys → windows_of zs ≡ windows_of ys → ArePlugged (windows_of xs) → ArePlugged (windows_of zs)
plugged_same xs ys zs same windows plugged = rw (windows, sym (ap (λ l. windows_of l) same)) plugged
