-- A machine that was just opened.
use Rattle.std.proofs.Common.{◌≡◌, ℕ, ◌≤◌, ◌==◌, nat_le, ◌&&◌, Bool, true, false, List, [], length, Option, Some, None, Result, Ok, Err, refl, sym, arith}
use Rattle.std.specs.Prelude.{IsErr, OnOk}
use Rattle.std.proofs.lemmas.Bool.Decides.{nat_tests}
use Rattle.std.proofs.lemmas.Option.{none-some}
use Rattle.journal_core.specs.Bytes.{IsBytes}
use Rattle.journal_core.specs.Past.{ram_before}
use Rattle.journal_core.specs.Rows.{JournalView, no_rows}
use Rattle.journal_core.proofs.RunsLemmas.{IsRun-none}
use Rattle.real_store.proofs.FitsLemmas.{fits_no_rows}
use Rattle.thread_regs.specs.declared.registers.Thread.{Thread}
use Rattle.thread_regs.specs.Registers.{all_reset}
use Rattle.elf_image.specs.declared.image.Image.{Image}
use Rattle.elf_image.specs.declared.guests.Guest.{Guest}
use Rattle.elf_image.specs.declared.span.Span.{Span}
use Rattle.elf_image.specs.Places.{bad_place_of}
use Rattle.elf_image.specs.Start.{start_ram}
use Rattle.ppc_bus.specs.declared.faults.PlugReason.{PlugReason}
use Rattle.ppc_bus.specs.declared.slots.Slot.{Slot}
use Rattle.ppc_bus.specs.Windows.{Window, windows_of}
use Rattle.ppc_step.specs.Chosen.{KeepsChosen}
use Rattle.ppc_step.specs.Rule.{KeepsRule, next_state}
use Rattle.ppc_machine.specs.declared.opening.OpenReason.{OpenReason}
use Rattle.ppc_machine.specs.declared.opening.OpenReason.TheVariants.{BadThreads, BadRam, BadSteps, BadPlace, Device, Memory}
use Rattle.ppc_machine.specs.declared.plugging.PluggedOf.{PluggedOf}
use Rattle.ppc_machine.specs.Plugging.{windows_for, slots_for, plugged_windows, first_refused}
use Rattle.ppc_machine.specs.MachineView.{MachineView, MachineChoice, start_of, now_of, IsKept}
use Rattle.ppc_machine.specs.Opening.{unless, device_refusal, place_refusal, refusal_for, IsReason, opened}

-- what holds of an Ok, where an error cannot be
pub from_ok : {A E : Type 0} (r : Result A E) (Q : Type 0) → (IsErr r → ⊥) → OnOk r Q → Q
from_ok (Ok x) Q fine on = on
from_ok (Err e) Q fine on = absurd (fine refl)

-- ---- what holds where nothing is refused

unless-none : (good : Bool) (reason : OpenReason) (next : Option OpenReason) → unless good reason next ≡ None → (good ≡ true) × (next ≡ None)
unless-none true reason next is = (refl, is)
unless-none false reason next is = absurd (none-some reason (sym is))

place_refusal-none : (pair : Option (Span × Span)) (next : Option OpenReason) → place_refusal pair next ≡ None → (pair ≡ None) × (next ≡ None)
place_refusal-none None next is = (refl, is)
place_refusal-none (Some pair) next is = absurd (none-some (BadPlace pair.0 pair.1) (sym is))

device_refusal-none : (refused : Option (ℕ × PlugReason)) → device_refusal refused ≡ None → refused ≡ None
device_refusal-none None is = refl
device_refusal-none (Some refused) is = absurd (none-some (Device refused.0 refused.1) (sym is))

pub record IsAllowed (image : Image) (guests : List Guest) (ram_mib threads : ℕ) (windows : List Window) (steps : ℕ) : Type 0 where
  pub threads_one : threads ≡ 1
  pub ram_most : ram_mib ≤ 256
  pub steps_most : steps ≤ 1048576
  pub no_place : bad_place_of image guests ram_mib ≡ None
  pub none_refused : first_refused 0 [] windows ≡ None

one_thread : (threads : ℕ) → (threads == 1) ≡ true → threads ≡ 1
one_thread threads is = grind (arith, nat_tests)

few_mib : (ram_mib : ℕ) → (nat_le 1 ram_mib && nat_le ram_mib 256) ≡ true → ram_mib ≤ 256
few_mib ram_mib is = grind (arith, nat_tests)

few_steps : (steps : ℕ) → nat_le steps 1048576 ≡ true → steps ≤ 1048576
few_steps steps is = grind (arith, nat_tests)

pub allowed : (image : Image) (guests : List Guest) (ram_mib threads : ℕ) (windows : List Window) (steps : ℕ) → refusal_for image guests ram_mib threads windows steps ≡ None → IsAllowed image guests ram_mib threads windows steps
allowed image guests ram_mib threads windows steps none =
    let by_device = device_refusal (first_refused 0 [] windows) in
    let by_place = place_refusal (bad_place_of image guests ram_mib) by_device in
    let by_steps = unless (nat_le steps 1048576) BadSteps by_place in
    let by_ram = unless (nat_le 1 ram_mib && nat_le ram_mib 256) BadRam by_steps in
    let a = unless-none (threads == 1) BadThreads by_ram none in
    let b = unless-none (nat_le 1 ram_mib && nat_le ram_mib 256) BadRam by_steps a.1 in
    let c = unless-none (nat_le steps 1048576) BadSteps by_place b.1 in
    let d = place_refusal-none (bad_place_of image guests ram_mib) by_device c.1 in
    record {
      threads_one = one_thread threads a.0;
      ram_most = few_mib ram_mib b.0;
      steps_most = few_steps steps c.0;
      no_place = d.0;
      none_refused = device_refusal-none (first_refused 0 [] windows) d.1;
    }

-- ---- why something is refused

pub is_reason : (refusal : Option OpenReason) (reason : OpenReason) → refusal ≡ Some reason → IsReason refusal reason
is_reason refusal BadThreads is = is
is_reason refusal BadRam is = is
is_reason refusal BadSteps is = is
is_reason refusal (BadPlace a b) is = is
is_reason refusal (Device number why) is = is
is_reason refusal Memory is = tt

-- ---- the machine

-- an empty journal is lawful where the threads are reset
pub IsKept-opened : {D : Type 0} (entry count steps : ℕ) (threads : List Thread) (ram : List ℕ) (plugged : List (Option Window)) (slots : List (Option (Slot D))) (journal : JournalView) →
    journal ≡ record { reserved = steps; floor = 0; rows = no_rows } → threads ≡ all_reset count entry → length threads ≡ count → windows_of slots ≡ plugged → IsBytes ram → steps ≤ 1048576 →
    IsKept (record { entry = entry; plugged = plugged; threads = threads; ram = ram; slots = slots; journal = journal })
unfolding start_of ram_before
IsKept-opened entry count steps threads ram plugged slots journal empty reset counted windows bytes few =
    let m : MachineView _ = record { entry = entry; plugged = plugged; threads = threads; ram = ram; slots = slots; journal = journal } in
    let begin : start_of m ≡ now_of m = rw (empty, counted, ← reset, windows) refl in
    record {
      most = rw empty few;
      fits = rw empty (fits_no_rows ram bytes);
      floor = rw empty refl;
      lawful = record { made = []; run = rw (begin, empty) (IsRun-none (KeepsRule (now_of m)) next_state (now_of m)) };
      chosen = record { made = []; run = rw (begin, empty) (IsRun-none (KeepsChosen MachineChoice (now_of m)) next_state (now_of m)) };
      readings = rw empty tt;
    }

pub is_opened : {D : Type 0} (size : D → ℕ) (image : Image) (guests : List Guest) (ram_mib count : ℕ) (devices : List (PluggedOf D)) (steps : ℕ) (threads : List Thread) (ram : List ℕ) (plugged : List (Option Window)) (slots : List (Option (Slot D))) (journal : JournalView) →
    plugged ≡ plugged_windows (windows_for size devices) → threads ≡ all_reset count image.entry → ram ≡ start_ram image guests ram_mib → slots ≡ slots_for size devices → journal ≡ record { reserved = steps; floor = 0; rows = no_rows } →
    record { entry = image.entry; plugged = plugged; threads = threads; ram = ram; slots = slots; journal = journal } ≡ opened size image guests ram_mib count devices steps
is_opened size image guests ram_mib count devices steps threads ram plugged slots journal a b c d e = rw (a, b, c, d, e) refl
