-- What the parts of a call say of the machine, of the text and of the status.
use Rattle.std.specs.Prelude.{◌≡◌, ℕ, List, [], Option, Some, None}
use Rattle.outer_io.specs.Outside.{CountRose, added, AddsFront}
use Rattle.journal_core.specs.declared.rows.Ended.{Ended}
use Rattle.elf_image.specs.declared.image.Image.{Image}
use Rattle.elf_image.specs.declared.guests.Guest.{Guest}
use Rattle.elf_image.specs.Places.{bad_place_of}
use Rattle.ppc_bus.specs.Windows.{Window}
use Rattle.ppc_bus.specs.Devices.{Access, Reply}
use Rattle.ppc_bus.specs.Answers.{DeviceAnswers}
use Rattle.ppc_machine.specs.declared.opening.OpenReason.{OpenReason}
use Rattle.ppc_machine.specs.declared.opening.OpenReason.TheVariants as reasons
use Rattle.ppc_machine.specs.MachineView.{MachineView}
use Rattle.ppc_machine.specs.Plugging.{first_refused}
use Rattle.ppc_machine.specs.Machines.{RunsTo}
use Rattle.radix_top.specs.declared.status.Refusal.{Refusal}
use Rattle.radix_top.specs.declared.status.Refusal.TheVariants as refusals
use Rattle.radix_top.specs.declared.status.Status.{Status}
use Rattle.radix_top.specs.declared.status.Status.TheVariants as statuses
use Rattle.radix_top.specs.declared.inputs.RunInputs.{RunInputs}
use Rattle.radix_top.specs.Statuses.{ended_status}
use Rattle.radix_top.specs.Causes.{ram_mib}
use Rattle.radix_top.specs.Calls.{report_of}

-- the reasons for which a machine of one thread and 16 MiB, for steps that a command can ask for, is not opened
abbrev pub CanCome : OpenReason → Type 0
CanCome reasons.BadThreads = ⊥
CanCome reasons.BadRam = ⊥
CanCome reasons.BadSteps = ⊥
CanCome (reasons.BadPlace range other) = Unit {0}
CanCome (reasons.Device number reason) = Unit {0}
CanCome reasons.Memory = Unit {0}

-- a call is refused as its machine is
abbrev pub RefusesAs : OpenReason → Refusal → Type 0
RefusesAs reasons.BadThreads r = ⊥
RefusesAs reasons.BadRam r = ⊥
RefusesAs reasons.BadSteps r = ⊥
RefusesAs (reasons.BadPlace range other) r = r ≡ refusals.BadPlace range other
RefusesAs (reasons.Device number reason) r = r ≡ refusals.BadDevice number reason
RefusesAs reasons.Memory r = r ≡ refusals.Memory

-- why no machine is opened with an image, guests and devices of these windows
abbrev pub FailsToOpen : Image → List Guest → List Window → Refusal → Type 0
FailsToOpen image guests windows (refusals.BadPlace range other) = bad_place_of image guests ram_mib ≡ Some (range, other)
FailsToOpen image guests windows (refusals.BadDevice number reason) = (bad_place_of image guests ram_mib ≡ None) × (first_refused 0 [] windows ≡ Some (number, reason))
FailsToOpen image guests windows refusals.Memory = Unit {0}
FailsToOpen image guests windows (refusals.Usage place) = ⊥
FailsToOpen image guests windows (refusals.ReadFault place) = ⊥
FailsToOpen image guests windows (refusals.TooLong place) = ⊥
FailsToOpen image guests windows (refusals.BadImage fault) = ⊥
FailsToOpen image guests windows (refusals.BadSchedule place) = ⊥
FailsToOpen image guests windows (refusals.BadAsm line kind) = ⊥

-- a text was printed whole, with this status, or it was cut short
abbrev pub PrintsAs : Status → List ℕ → ℕ → ℕ → Option (List ℕ) → Option (List ℕ) → Status → Type 0
PrintsAs want text f f' old new statuses.WriteFault = CountRose f f' × AddsFront old new text
PrintsAs want text f f' old new s = (s ≡ want) × (new ≡ added old text)

-- a machine was run as a prepared command asks, over devices of these lists and functions, and its report printed
pub record RunsReady {D : Type 0} (list : D → List ℕ) (answers : D → List ℕ → Access → Reply) (ready : RunInputs) (old_machine new_machine : MachineView D) (f f' : ℕ) (old new : Option (List ℕ)) (s : Status) : Type 0 where
  pub end : Ended
  pub run : RunsTo (DeviceAnswers list answers) ready.schedule ready.count old_machine new_machine end
  pub prints : PrintsAs (ended_status end) (report_of new_machine end ready.options) f f' old new s
