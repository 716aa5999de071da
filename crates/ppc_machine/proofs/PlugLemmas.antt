-- Devices that are plugged one after another, none of which is refused.
use Rattle.std.proofs.Common.{◌≡◌, ℕ, ◌+◌, List, [], ◌∷◌, ◌++◌, Option, Some, None, refl, sym, ap, ◌∙◌, append_assoc}
use Rattle.std.proofs.lemmas.List.{append-nil, map-append}
use Rattle.std.proofs.lemmas.Option.{none-some}
use Rattle.ppc_bus.specs.declared.faults.PlugReason.{PlugReason}
use Rattle.ppc_bus.specs.declared.slots.Slot.{Slot}
use Rattle.ppc_bus.specs.Plugging.{refusal_of}
use Rattle.ppc_bus.specs.Windows.{Window, windows_of}
use Rattle.ppc_machine.specs.declared.plugging.PluggedOf.{PluggedOf}
use Rattle.ppc_machine.specs.Plugging.{window_for, windows_for, slot_for, slots_for, plugged_windows, refused_by, first_refused}

-- the windows of the slots are those of the devices
pub windows_of-slots_for : {D : Type 0} (size : D → ℕ) (ps : List (PluggedOf D)) → windows_of (slots_for size ps) ≡ plugged_windows (windows_for size ps)
windows_of-slots_for size [] = refl
windows_of-slots_for size (p ∷ ps) = ap (λ (ws : List (Option Window)). Some (window_for size p) ∷ ws) (windows_of-slots_for size ps)

pub refused_by-none : (number : ℕ) (o : Option PlugReason) (next : Option (ℕ × PlugReason)) → refused_by number o next ≡ None → (o ≡ None) × (next ≡ None)
refused_by-none number None next is = (refl, is)
refused_by-none number (Some reason) next is = absurd (none-some (number, reason) (sym is))

-- where none is refused, each is plugged behind those before it
pub none_refused : (number : ℕ) (before : List (Option Window)) (xs : List Window) (w : Window) (ys : List Window) → first_refused number before (xs ++ w ∷ ys) ≡ None → refusal_of (before ++ plugged_windows xs) w ≡ None
unfolding first_refused
none_refused number before [] w ys none =
    rw append-nil (refused_by-none number (refusal_of before w) (first_refused (number + 1) (before ++ Some w ∷ []) ys) none).0
none_refused number before (x ∷ xs) w ys none =
    rw append_assoc at (none_refused (number + 1) (before ++ Some x ∷ []) xs w ys (refused_by-none number (refusal_of before x) (first_refused (number + 1) (before ++ Some x ∷ []) (xs ++ w ∷ ys)) none).1)

-- a device in its turn is not refused
pub not_refused : {D : Type 0} (size : D → ℕ) (all xs ys : List (PluggedOf D)) (p : PluggedOf D) (bus : List (Option (Slot D))) → first_refused 0 [] (windows_for size all) ≡ None → xs ++ p ∷ ys ≡ all → bus ≡ slots_for size xs → refusal_of (windows_of bus) (window_for size p) ≡ None
not_refused size all xs ys p bus none split is =
    let split' : windows_for size xs ++ window_for size p ∷ windows_for size ys ≡ windows_for size all = sym (map-append (window_for size) xs (p ∷ ys)) ∙ ap (windows_for size) split in
    let windows : windows_of bus ≡ plugged_windows (windows_for size xs) = ap (λ (b : List (Option (Slot _))). windows_of b) is ∙ windows_of-slots_for size xs in
    rw windows (none_refused 0 [] (windows_for size xs) (window_for size p) (windows_for size ys) (rw split' none))

-- one device more
pub slots_for-push : {D : Type 0} (size : D → ℕ) (xs : List (PluggedOf D)) (p : PluggedOf D) (bus : List (Option (Slot D))) → bus ≡ slots_for size xs → bus ++ slot_for size p ∷ [] ≡ slots_for size (xs ++ p ∷ [])
slots_for-push size xs p bus is = ap (λ (b : List (Option (Slot _))). b ++ slot_for size p ∷ []) is ∙ sym (map-append (slot_for size) xs (p ∷ []))
