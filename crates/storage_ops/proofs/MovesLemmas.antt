-- What was carried out: nothing, write rows, or the row of a device.
use Rattle.std.proofs.Common.{◌≡◌, ℕ, arith, ◌+◌, ◌<◌, ◌*◌, ◌^◌, List, [], ◌∷◌, ◌++◌, length, Option, Some, None, Bool, true, false, if◌then◌else◌, ap, sym, ◌∙◌, refl, subst, append-nil}
use Rattle.journal_core.specs.declared.rows.WriteRow.{WriteRow}
use Rattle.journal_core.specs.declared.rows.DeviceRow.{DeviceRow}
use Rattle.journal_core.specs.declared.rows.Signal.{Signal}
use Rattle.journal_core.specs.declared.rows.StepEnd.{StepEnd}
use Rattle.journal_core.specs.declared.rows.StepEnd.TheVariants.{Ran, Stopped}
use Rattle.journal_core.specs.Past.{ram_after, AreWrites}
use Rattle.journal_core.specs.Rows.{JournalView}
use Rattle.journal_core.specs.Steps.{add_device}
use Rattle.form_outcomes.specs.Outcomes.{Outcome, Goes, Stops, end_of}
use Rattle.ppc_bus.specs.Windows.{Window}
use Rattle.ppc_bus.specs.Chains.{Chain}
use Rattle.ppc_bus.specs.Devices.{load_row, store_row}
use Rattle.thread_regs.specs.declared.registers.Thread.{Thread}
use Rattle.storage_ops.specs.declared.forms.AccessForm.{AccessForm}
use Rattle.storage_ops.specs.declared.parts.Part.{Part}
use Rattle.storage_ops.specs.declared.parts.Parts.{Parts}
use Rattle.storage_ops.specs.Parts.{listed, listed_second, bytes_of_second, AreParts}
use Rattle.journal_core.specs.declared.rows.StopName.{StopName}
use Rattle.storage_ops.specs.Checks.{device_of, unless_refused}
use Rattle.storage_ops.specs.Effects.{After, Stored, registers, behind, asked_at, writes_of, AreAsked, AreAskedBy, end_by, windows_by}
use Rattle.storage_ops.specs.Accesses.{Scene, scene_of, with_writes, IsCarried, Carries}

rows_more : JournalView → List WriteRow → List DeviceRow → JournalView
rows_more j writes devices = record j { rows = record j.rows { writes = writes; devices = devices } }

-- no row more
same_rows : (j : JournalView) → j ≡ record j { rows = record j.rows { writes = j.rows.writes ++ []; devices = j.rows.devices ++ [] } }
same_rows j = ap (λ (ws : List WriteRow). record j { rows = record j.rows { writes = ws; devices = j.rows.devices } }) (sym (append-nil j.rows.writes)) ∙ ap (λ (ds : List DeviceRow). record j { rows = record j.rows { writes = j.rows.writes ++ []; devices = ds } }) (sym (append-nil j.rows.devices))

write_rows : (j : JournalView) (ws : List WriteRow) → with_writes j ws ≡ record j { rows = record j.rows { writes = j.rows.writes ++ ws; devices = j.rows.devices ++ [] } }
write_rows j ws = ap (λ (ds : List DeviceRow). record j { rows = record j.rows { writes = j.rows.writes ++ ws; devices = ds } }) (sym (append-nil j.rows.devices))

device_rows : (j : JournalView) (row : DeviceRow) → record j { rows = add_device j.rows row } ≡ record j { rows = record j.rows { writes = j.rows.writes ++ []; devices = j.rows.devices ++ row ∷ [] } }
device_rows j row = ap (λ (ws : List WriteRow). record j { rows = record j.rows { writes = ws; devices = j.rows.devices ++ row ∷ [] } }) (sym (append-nil j.rows.writes))

unfoldable carried_plain : {P : Type 0} (related : P → DeviceRow → P → Type 0) (windows : P → List (Option Window)) (number : ℕ) (after : ℕ → After) (t t' : Thread) (ram : List ℕ) (port : P) (j : JournalView) →
    t' ≡ (after 0).thread → (after 0).stored ≡ [] → (after 0).asked ≡ None → IsCarried related windows number after (scene_of t ram port j) (scene_of t' ram port j)
unfolding ram_after AreWrites Chain
carried_plain related windows number after t t' ram port j thread stored asked = record {
  writes = [];
  devices = [];
  journal = same_rows j;
  thread = thread;
  write = rw stored refl;
  right = tt;
  device = rw asked refl;
  ram = refl;
  port = refl;
  windows_are = refl;
}

unfoldable carried_written : {P : Type 0} (related : P → DeviceRow → P → Type 0) (windows : P → List (Option Window)) (number moment : ℕ) (after : ℕ → After) (stored : List Stored) (t t' : Thread) (ram ram' : List ℕ) (port : P) (j j' : JournalView) → moment ≡ length j.rows.steps →
    t' ≡ (after 0).thread → (after 0).stored ≡ stored → (after 0).asked ≡ None → ram' ≡ ram_after ram (writes_of moment number ram stored) → j' ≡ with_writes j (writes_of moment number ram stored) → AreWrites ram (writes_of moment number ram stored) →
    IsCarried related windows number after (scene_of t ram port j) (scene_of t' ram' port j')
unfolding Chain
carried_written related windows number moment after stored t t' ram ram' port j j' is thread are asked ram_is rows_are right = record {
  writes = writes_of moment number ram stored;
  devices = [];
  journal = rows_are ∙ write_rows j (writes_of moment number ram stored);
  thread = thread;
  write = rw are (ap (λ n. writes_of n number ram stored) is);
  right = right;
  device = rw asked refl;
  ram = ram_is;
  port = refl;
  windows_are = refl;
}

-- one row of a device
unfoldable carried_asked : {P : Type 0} (related : P → DeviceRow → P → Type 0) (windows : P → List (Option Window)) (number moment : ℕ) (after : ℕ → After) (row : DeviceRow) (t t' : Thread) (ram : List ℕ) (port port' : P) (j j' : JournalView) → moment ≡ length j.rows.steps →
    t' ≡ (after row.value).thread → (after row.value).stored ≡ [] → AreAsked moment (after row.value).asked (row ∷ []) → j' ≡ record j { rows = add_device j.rows row } → related port row port' → windows port' ≡ windows_by row.signal (windows port) →
    IsCarried related windows number after (scene_of t ram port j) (scene_of t' ram port' j')
unfolding ram_after AreWrites Chain
carried_asked related windows number moment after row t t' ram port port' j j' is thread stored asked rows_are is_related windows_are = record {
  writes = [];
  devices = row ∷ [];
  journal = rows_are ∙ device_rows j row;
  thread = thread;
  write = rw stored refl;
  right = tt;
  device = subst (λ n. AreAsked n (after row.value).asked (row ∷ [])) is asked;
  ram = refl;
  port = (port', is_related, refl);
  windows_are = windows_are;
}

-- registers alone, from RAM
pub carries_plain : {P : Type 0} (related : P → DeviceRow → P → Type 0) (windows : P → List (Option Window)) (number : ℕ) (after : ℕ → After) (t t' : Thread) (ram : List ℕ) (port : P) (j : JournalView) →
    t' ≡ (after 0).thread → (after 0).stored ≡ [] → (after 0).asked ≡ None → Carries related windows number (λ answer. Goes (after answer)) (scene_of t ram port j) (scene_of t' ram port j) Ran
unfolding carried_plain
carries_plain related windows number after t t' ram port j thread stored asked = record { carried = carried_plain related windows number after t t' ram port j thread stored asked; ended = refl }

pub carries_written : {P : Type 0} (related : P → DeviceRow → P → Type 0) (windows : P → List (Option Window)) (number moment : ℕ) (after : ℕ → After) (stored : List Stored) (t t' : Thread) (ram ram' : List ℕ) (port : P) (j j' : JournalView) → moment ≡ length j.rows.steps →
    t' ≡ (after 0).thread → (after 0).stored ≡ stored → (after 0).asked ≡ None → ram' ≡ ram_after ram (writes_of moment number ram stored) → j' ≡ with_writes j (writes_of moment number ram stored) → AreWrites ram (writes_of moment number ram stored) →
    Carries related windows number (λ answer. Goes (after answer)) (scene_of t ram port j) (scene_of t' ram' port j') Ran
unfolding carried_written
carries_written related windows number moment after stored t t' ram ram' port j j' is thread are asked ram_is rows_are right =
    record { carried = carried_written related windows number moment after stored t t' ram ram' port j j' is thread are asked ram_is rows_are right; ended = refl }

pub carries_asked : {P : Type 0} (related : P → DeviceRow → P → Type 0) (windows : P → List (Option Window)) (number moment : ℕ) (after : ℕ → After) (row : DeviceRow) (t t' : Thread) (ram : List ℕ) (port port' : P) (j j' : JournalView) (end : StepEnd) → moment ≡ length j.rows.steps →
    t' ≡ (after row.value).thread → (after row.value).stored ≡ [] → AreAsked moment (after row.value).asked (row ∷ []) → j' ≡ record j { rows = add_device j.rows row } → related port row port' → windows port' ≡ windows_by row.signal (windows port) → end ≡ end_by row.signal row.slot Ran →
    Carries related windows number (λ answer. Goes (after answer)) (scene_of t ram port j) (scene_of t' ram port' j') end
unfolding carried_asked
carries_asked related windows number moment after row t t' ram port port' j j' end is thread stored asked rows_are is_related windows_are ended =
    record { carried = carried_asked related windows number moment after row t t' ram port port' j j' is thread stored asked rows_are is_related windows_are; ended = ended }

-- what does not go on changes nothing
pub carries_nothing : {P : Type 0} (related : P → DeviceRow → P → Type 0) (windows : P → List (Option Window)) (number : ℕ) (outcome : ℕ → Outcome After) (t : Thread) (ram : List ℕ) (port : P) (j : JournalView) (end : StepEnd) →
    end ≡ end_of (outcome 0) → behind (outcome 0) t ≡ registers t → Carries related windows number outcome (scene_of t ram port j) (scene_of t ram port j) end
unfolding ram_after AreWrites Chain
carries_nothing related windows number outcome t ram port j end ended nothing = record {
  carried = record {
    writes = [];
    devices = [];
    journal = same_rows j;
    thread = rw nothing refl;
    write = rw nothing refl;
    right = tt;
    device = rw nothing refl;
    ram = refl;
    port = refl;
    windows_are = refl;
  };
  ended = ended;
}

-- a part that a device takes is the whole access
single_by : (windows : List (Option Window)) (first : Part) (o : Option Part) (place : ℕ × ℕ) (size : ℕ) → device_of windows (first ∷ listed_second o) ≡ Some place → first.size + bytes_of_second o ≡ size → first.size ≡ size
single_by windows first None place size is whole = omega (arith, whole)
single_by windows first (Some second) place size is whole = absurd (none_some is)
  where
    none_some : {A : Type 0} {x : A} → None ≡ Some x → ⊥
    none_some e = cc

pub single_size : (windows : List (Option Window)) (parts : Parts) (place : ℕ × ℕ) (size : ℕ) → device_of windows (listed parts) ≡ Some place → AreParts size parts → parts.first.size ≡ size
single_size windows parts place size is sizes = single_by windows parts.first parts.second place size is sizes.whole

-- the row of a load, and that of a store, is what was asked
pub load_is_asked : (form : AccessForm) (place : ℕ × ℕ) (moment size value : ℕ) → form.store ≡ false → size ≡ form.size → value < 2 ^ (8 * size) → AreAsked moment (Some (asked_at form place 0)) (load_row moment place.0 place.1 size value ∷ [])
load_is_asked form place moment size value load same below =
    subst (λ b. AreAskedBy b moment (asked_at form place 0) (load_row moment place.0 place.1 size value ∷ [])) (sym load)
    (value, subst (λ s. value < 2 ^ (8 * s)) same below, ap (λ s. load_row moment place.0 place.1 s value ∷ []) same)

pub store_is_asked : (form : AccessForm) (place : ℕ × ℕ) (moment size value : ℕ) (signal : Signal) → form.store ≡ true → size ≡ form.size → AreAsked moment (Some (asked_at form place value)) (store_row moment place.0 place.1 size value signal ∷ [])
store_is_asked form place moment size value signal stores same =
    subst (λ b. AreAskedBy b moment (asked_at form place value) (store_row moment place.0 place.1 size value signal ∷ [])) (sym stores)
    (signal, ap (λ s. store_row moment place.0 place.1 s value signal ∷ []) same)

-- a refusal stops the access, which else goes on
pub carries_refused : {P : Type 0} (related : P → DeviceRow → P → Type 0) (windows : P → List (Option Window)) (number : ℕ) (refusal : Option (StopName × ℕ)) (name : StopName) (value : ℕ) (outcome : ℕ → Outcome After) (t : Thread) (ram : List ℕ) (port : P) (j : JournalView) →
    refusal ≡ Some (name, value) → Carries related windows number (λ answer. unless_refused refusal (outcome answer)) (scene_of t ram port j) (scene_of t ram port j) (Stopped name value)
carries_refused related windows number refusal name value outcome t ram port j is =
    subst (λ r. Carries related windows number (λ answer. unless_refused r (outcome answer)) (scene_of t ram port j) (scene_of t ram port j) (Stopped name value)) (sym is)
    (carries_nothing related windows number (λ answer. Stops name value) t ram port j (Stopped name value) refl refl)

pub carries_taken : {P : Type 0} (related : P → DeviceRow → P → Type 0) (windows : P → List (Option Window)) (number : ℕ) (refusal : Option (StopName × ℕ)) (outcome : ℕ → Outcome After) (old new : Scene P) (end : StepEnd) →
    refusal ≡ None → Carries related windows number outcome old new end → Carries related windows number (λ answer. unless_refused refusal (outcome answer)) old new end
carries_taken related windows number refusal outcome old new end is carries =
    subst (λ r. Carries related windows number (λ answer. unless_refused r (outcome answer)) old new end) (sym is) carries

-- of a load and a store it is the one that the form is
pub carries_by : {P : Type 0} (related : P → DeviceRow → P → Type 0) (windows : P → List (Option Window)) (number : ℕ) (b c : Bool) (stores loads : ℕ → After) (old new : Scene P) (end : StepEnd) →
    b ≡ c → Carries related windows number (λ answer. Goes (if c then stores answer else loads answer)) old new end → Carries related windows number (λ answer. Goes (if b then stores answer else loads answer)) old new end
carries_by related windows number b c stores loads old new end is carries =
    subst (λ x. Carries related windows number (λ answer. Goes (if x then stores answer else loads answer)) old new end) (sym is) carries
