-- Opening a machine: what it then is, and what is refused.
use Rattle.std.specs.Prelude.{◌≡◌, ℕ, ◌==◌, ◌&&◌, nat_le, if◌then◌else◌, Bool, List, [], Option, Some, None}
use Rattle.journal_core.specs.Rows.{no_rows}
use Rattle.ppc_bus.specs.declared.faults.PlugReason.{PlugReason}
use Rattle.ppc_bus.specs.Windows.{Window}
use Rattle.elf_image.specs.declared.image.Image.{Image}
use Rattle.elf_image.specs.declared.guests.Guest.{Guest}
use Rattle.elf_image.specs.declared.span.Span.{Span}
use Rattle.elf_image.specs.Places.{bad_place_of}
use Rattle.elf_image.specs.Start.{start_ram}
use Rattle.thread_regs.specs.Registers.{all_reset}
use Rattle.ppc_step.specs.States.{State, state_of}
use Rattle.ppc_machine.specs.declared.opening.OpenReason.{OpenReason}
use Rattle.ppc_machine.specs.declared.opening.OpenReason.TheVariants.{BadThreads, BadRam, BadSteps, BadPlace, Device, Memory}
use Rattle.ppc_machine.specs.declared.plugging.PluggedOf.{PluggedOf}
use Rattle.ppc_machine.specs.MachineView.{MachineView}
use Rattle.ppc_machine.specs.Plugging.{windows_for, slots_for, plugged_windows, first_refused}

-- the state in which a machine starts: the image's segments and then guests placed in zeros, all threads reset at the image's
-- entry, and the devices' windows as they are plugged
abbrev pub start : Image → List Guest → ℕ → ℕ → List Window → State
start image guests ram_mib threads windows = state_of (all_reset threads image.entry) (start_ram image guests ram_mib) (plugged_windows windows)

-- a machine that was opened for an image, guests, so many MiB of RAM, threads and steps, and these devices
abbrev pub opened : {D : Type 0} → (D → ℕ) → Image → List Guest → ℕ → ℕ → List (PluggedOf D) → ℕ → MachineView D
opened size image guests ram_mib threads devices steps = record {
  entry = image.entry;
  plugged = plugged_windows (windows_for size devices);
  threads = all_reset threads image.entry;
  ram = start_ram image guests ram_mib;
  slots = slots_for size devices;
  journal = record { reserved = steps; floor = 0; rows = no_rows };
}

-- ---- what is refused

abbrev pub unless : {A : Type 0} → Bool → A → Option A → Option A
unless good reason next = if good then next else Some reason

abbrev pub device_refusal : Option (ℕ × PlugReason) → Option OpenReason
device_refusal None = None
device_refusal (Some refused) = Some (Device refused.0 refused.1)

abbrev pub place_refusal : Option (Span × Span) → Option OpenReason → Option OpenReason
place_refusal None next = next
place_refusal (Some pair) next = Some (BadPlace pair.0 pair.1)

-- Why a machine is not opened, in this order: it has one thread; RAM of 1 to 256 MiB; at most 1,048,576 steps; each range that is
-- loaded lies in RAM, and meets none before it; each device is plugged.
abbrev pub refusal_for : Image → List Guest → ℕ → ℕ → List Window → ℕ → Option OpenReason
refusal_for image guests ram_mib threads windows steps =
    unless (threads == 1) BadThreads
    (unless (nat_le 1 ram_mib && nat_le ram_mib 256) BadRam
    (unless (nat_le steps 1048576) BadSteps
    (place_refusal (bad_place_of image guests ram_mib)
    (device_refusal (first_refused 0 [] windows)))))

-- want of memory comes at any place, and any other reason is the refusal
abbrev pub IsReason : Option OpenReason → OpenReason → Type 0
IsReason refusal Memory = Unit {0}
IsReason refusal BadThreads = refusal ≡ Some BadThreads
IsReason refusal BadRam = refusal ≡ Some BadRam
IsReason refusal BadSteps = refusal ≡ Some BadSteps
IsReason refusal (BadPlace a b) = refusal ≡ Some (BadPlace a b)
IsReason refusal (Device number reason) = refusal ≡ Some (Device number reason)
