-- What a call answers, what it prints, and what it leaves in the bench.
use Rattle.std.specs.Prelude.{◌≡◌, ◌⊎◌, ◌<◌, ℕ, List, [], length, Option, Some, None, Ok}
use Rattle.outer_io.specs.Outside.{CountRose, added, AddsFront}
use Rattle.journal_core.specs.Steps.{first_steps}
use Rattle.journal_core.specs.Ends.{ended_of, thread_of_row}
use Rattle.journal_core.specs.declared.rows.Ended.{Ended}
use Rattle.journal_core.specs.declared.rows.Ended.TheVariants as ends
use Rattle.elf_image.specs.declared.image.Image.{Image}
use Rattle.elf_image.specs.IsImage.{IsImage}
use Rattle.elf_image.specs.Written.{written}
use Rattle.ppc_asm.specs.Images.{IsSource}
use Rattle.sched_text.specs.Plan.{Plan, turn}
use Rattle.report_text.specs.Listing.{listing}
use Rattle.report_text.specs.Report.{report}
use Rattle.ppc_machine.specs.Rule.{IsLawfulRun}
use Rattle.ppc_machine.specs.Chosen.{IsChosenRun}
use Rattle.ppc_machine.specs.declared.plugging.PluggedOf.{PluggedOf}
use Rattle.ppc_machine.specs.MachineView.{MachineView, MachineChoice, now_of, start_of}
use Rattle.ppc_machine.specs.Opening.{start}
use Rattle.radix_top.specs.declared.command.Command.{Command}
use Rattle.radix_top.specs.declared.command.Command.TheVariants.{Run, Asm, Dis}
use Rattle.radix_top.specs.declared.command.Options.{Options}
use Rattle.radix_top.specs.declared.status.Refusal.{Refusal}
use Rattle.radix_top.specs.declared.status.Refusal.TheVariants as refusals
use Rattle.radix_top.specs.declared.status.Status.{Status}
use Rattle.radix_top.specs.declared.status.Status.TheVariants as statuses
use Rattle.radix_top.specs.Words.{Text, word_at, command_of}
use Rattle.radix_top.specs.Inputs.{FilesSeen, WasReadAs, AsksFor}
use Rattle.radix_top.specs.Devices.{DevicesSeen, windows_in, DevicesAnswer}
use Rattle.radix_top.specs.Causes.{ram_mib, HasCause, fault_line}

-- what a call leaves in the bench: the machine that it opened, and the devices that it handed to no machine
pub record BenchSeen (D : Type 0) : Type 0 where
  pub machine : Option (MachineView D)
  pub devices : List (PluggedOf D)

abbrev pub leaves : {D : Type 0} → Option (MachineView D) → List (PluggedOf D) → BenchSeen D
leaves machine devices = record { machine = machine; devices = devices }

-- A machine began with the image and the guests in its RAM, these devices in its slots and a journal for so many steps; each step
-- keeps the rule (`lawful`), each answer of a translation is that of the fresh walk, and what it lets a guest reach is what the
-- guest's partition gives (`chosen`); and the device rows are what the devices answered.
pub record IsLawfulFrom {D : Type 0} (m : FilesSeen) (words : List Text) (asks : AsksFor m words) (d : DevicesSeen D) (machine : MachineView D) : Type 0 where
  pub places : machine.journal.reserved ≡ asks.count
  pub floor : machine.journal.floor ≡ 0
  pub begins : start_of machine ≡ start asks.image asks.guests ram_mib 1 (windows_in d)
  pub lawful : IsLawfulRun (start asks.image asks.guests ram_mib 1 (windows_in d)) machine.journal.rows (now_of machine)
  pub chosen : IsChosenRun MachineChoice (start asks.image asks.guests ram_mib 1 (windows_in d)) machine.journal.rows (now_of machine)
  pub answers : DevicesAnswer d machine.journal.rows.devices

-- each step of a machine is that of the thread whose turn it was, and a run of so many steps had this end, and none before
pub record EndsSo {D : Type 0} (count : ℕ) (plan : Plan) (machine : MachineView D) (end : Ended) : Type 0 where
  pub turns : (k : ℕ) → k < length machine.journal.rows.steps → thread_of_row machine.journal.rows.steps k ≡ turn plan k
  pub ended : ended_of count (turn plan (length machine.journal.rows.steps)) count machine.journal.rows ≡ Some end
  pub exact : (k : ℕ) → k < length machine.journal.rows.steps → ended_of count (turn plan k) count (first_steps k machine.journal.rows) ≡ None

-- the machine is that of the files and the devices, and its journal is the lawful one of the run that the words ask for
pub record IsRunOf {D : Type 0} (m : FilesSeen) (words : List Text) (d : DevicesSeen D) (machine : MachineView D) (end : Ended) : Type 0 where
  pub asks : AsksFor m words
  pub lawful : IsLawfulFrom m words asks d machine
  pub ends : EndsSo asks.count asks.plan machine end

-- the report of a machine whose run had this end, as the options ask for it
abbrev pub report_of : {D : Type 0} → MachineView D → Ended → Options → List ℕ
report_of machine end options = report end machine.threads machine.journal.rows (record { trace = options.trace; walks = options.walks })

-- the run that the words ask for had this end, and its machine is in the bench, with all devices
pub record WasRun {D : Type 0} (m : FilesSeen) (words : List Text) (d : DevicesSeen D) (left : BenchSeen D) (end : Ended) : Type 0 where
  pub machine : MachineView D
  pub there : left.machine ≡ Some machine
  pub handed_over : left.devices ≡ []
  pub run : IsRunOf m words d machine end

-- the file of the image that the source is
pub record IsAssembled (m : FilesSeen) (words : List Text) (text : List ℕ) : Type 0 where
  pub image : Image
  pub source_file : WasReadAs m (word_at words 1) (λ bytes. IsSource bytes image)
  pub file : text ≡ written image

-- the listing of the image that the file means
pub record IsListed (m : FilesSeen) (words : List Text) (text : List ℕ) : Type 0 where
  pub image : Image
  pub image_file : WasReadAs m (word_at words 1) (λ bytes. IsImage bytes image)
  pub lines : text ≡ listing image

-- the report of the run that the words ask for, which had this end
pub record IsReport {D : Type 0} (m : FilesSeen) (words : List Text) (d : DevicesSeen D) (left : BenchSeen D) (end : Ended) (text : List ℕ) : Type 0 where
  pub was_run : WasRun m words d left end
  pub report : text ≡ report_of was_run.machine end was_run.run.asks.options

-- a command that runs nothing: the bench is as it was
abbrev pub RunsNothing : {D : Type 0} → DevicesSeen D → BenchSeen D → Ended → Type 0
RunsNothing d left end = (left ≡ leaves None d.devices) × (end ≡ ends.AllRun)

-- what a command makes, to this end: the text that it prints, and what it leaves in the bench
abbrev pub Makes : {D : Type 0} → FilesSeen → List Text → DevicesSeen D → BenchSeen D → Ended → List ℕ → Command → Type 0
Makes m words d left end text (Run count options) = IsReport m words d left end text
Makes m words d left end text Asm = RunsNothing d left end × IsAssembled m words text
Makes m words d left end text Dis = RunsNothing d left end × IsListed m words text

-- the words are a command, which made this text, to this end
pub record Made {D : Type 0} (m : FilesSeen) (words : List Text) (d : DevicesSeen D) (left : BenchSeen D) (end : Ended) (text : List ℕ) : Type 0 where
  pub command : Command
  pub is_command : command_of words ≡ Ok command
  pub makes : Makes m words d left end text command

-- no machine was opened, for this reason, and all devices are in the bench, in their order and as they were
pub record WasNotRun {D : Type 0} (m : FilesSeen) (words : List Text) (d : DevicesSeen D) (left : BenchSeen D) (r : Refusal) : Type 0 where
  pub none : left.machine ≡ None
  pub back : left.devices ≡ d.devices
  pub cause : HasCause m words (windows_in d) r

-- the command was done to this end, and its text was printed whole
pub record WasDone {D : Type 0} (m : FilesSeen) (words : List Text) (d : DevicesSeen D) (left : BenchSeen D) (old new : Option (List ℕ)) (end : Ended) : Type 0 where
  pub text : List ℕ
  pub made : Made m words d left end text
  pub printed : new ≡ added old text

-- the command was refused before any machine was opened, and the line of the refusal was printed whole
pub record WasRefused {D : Type 0} (m : FilesSeen) (words : List Text) (d : DevicesSeen D) (left : BenchSeen D) (old new : Option (List ℕ)) (r : Refusal) : Type 0 where
  pub not_run : WasNotRun m words d left r
  pub printed : new ≡ added old (fault_line r)

-- the line of a refusal was cut short
pub record CutLine {D : Type 0} (m : FilesSeen) (words : List Text) (d : DevicesSeen D) (left : BenchSeen D) (old new : Option (List ℕ)) : Type 0 where
  pub refusal : Refusal
  pub not_run : WasNotRun m words d left refusal
  pub front : AddsFront old new (fault_line refusal)

-- the text of a command that was done whole was cut short
pub record CutText {D : Type 0} (m : FilesSeen) (words : List Text) (d : DevicesSeen D) (left : BenchSeen D) (old new : Option (List ℕ)) : Type 0 where
  pub end : Ended
  pub text : List ℕ
  pub made : Made m words d left end text
  pub front : AddsFront old new text

-- What a call says, status by status: the files that it met, the words, the devices that it was handed, what it leaves in the
-- bench, the sink's count of faults before and after, and the sink's bytes before and after.
abbrev pub Says : {D : Type 0} → FilesSeen → List Text → DevicesSeen D → BenchSeen D → ℕ → ℕ → Option (List ℕ) → Option (List ℕ) → Status → Type 0
Says m words d left f f' old new (statuses.Done ends.AllRun) = WasDone m words d left old new ends.AllRun
Says m words d left f f' old new (statuses.Done ends.ScheduleEnd) = WasDone m words d left old new ends.ScheduleEnd
Says m words d left f f' old new (statuses.Done (ends.Stopped name value)) = ⊥
Says m words d left f f' old new (statuses.Done (ends.JournalFull kind count)) = ⊥
Says m words d left f f' old new (statuses.Stopped name value) = WasDone m words d left old new (ends.Stopped name value)
Says m words d left f f' old new (statuses.JournalFull kind count) = WasDone m words d left old new (ends.JournalFull kind count)
Says m words d left f f' old new statuses.WriteFault = CountRose f f' × (CutLine m words d left old new ⊎ CutText m words d left old new)
Says m words d left f f' old new (statuses.Usage place) = WasRefused m words d left old new (refusals.Usage place)
Says m words d left f f' old new (statuses.ReadFault place) = WasRefused m words d left old new (refusals.ReadFault place)
Says m words d left f f' old new (statuses.TooLong place) = WasRefused m words d left old new (refusals.TooLong place)
Says m words d left f f' old new (statuses.BadImage fault) = WasRefused m words d left old new (refusals.BadImage fault)
Says m words d left f f' old new (statuses.BadSchedule place) = WasRefused m words d left old new (refusals.BadSchedule place)
Says m words d left f f' old new (statuses.BadAsm line kind) = WasRefused m words d left old new (refusals.BadAsm line kind)
Says m words d left f f' old new (statuses.BadPlace range other) = WasRefused m words d left old new (refusals.BadPlace range other)
Says m words d left f f' old new (statuses.BadDevice number reason) = WasRefused m words d left old new (refusals.BadDevice number reason)
Says m words d left f f' old new statuses.Memory = WasRefused m words d left old new refusals.Memory
