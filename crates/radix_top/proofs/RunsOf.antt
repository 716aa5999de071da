-- A run that was asked for.
use Rattle.std.proofs.Common.{◌≡◌, ℕ, List, [], Option, Some, refl, ap, ◌∙◌, subst, arith}
use Rattle.journal_core.specs.Rows.{JournalView}
use Rattle.journal_core.specs.Past.{ram_before}
use Rattle.journal_core.specs.declared.rows.Ended.{Ended}
use Rattle.ppc_bus.specs.Answers.{DeviceAnswers}
use Rattle.ppc_bus.proofs.ChainLemmas.{chain_answers}
use Rattle.thread_regs.proofs.ResetLemmas.{length-reset_from}
use Rattle.elf_image.specs.declared.image.Image.{Image}
use Rattle.elf_image.specs.declared.guests.Guest.{Guest}
use Rattle.ppc_machine.specs.States.{State}
use Rattle.ppc_machine.specs.Rule.{IsLawfulRun}
use Rattle.ppc_machine.specs.Chosen.{IsChosenRun}
use Rattle.ppc_machine.specs.declared.plugging.PluggedOf.{PluggedOf}
use Rattle.ppc_machine.specs.MachineView.{MachineView, MachineChoice, now_of, start_of}
use Rattle.ppc_machine.specs.Plugging.{windows_for, slots_for}
use Rattle.ppc_machine.specs.Opening.{start, opened}
use Rattle.ppc_machine.specs.Machines.{RunsTo}
use Rattle.radix_top.specs.declared.command.Command.TheVariants.{Run}
use Rattle.radix_top.specs.declared.inputs.RunInputs.{RunInputs}
use Rattle.radix_top.specs.declared.status.Status.{Status}
use Rattle.radix_top.specs.Words.{Text}
use Rattle.radix_top.specs.Inputs.{FilesSeen, AsksFor}
use Rattle.radix_top.specs.Devices.{DevicesSeen, windows_in, DevicesAnswer}
use Rattle.radix_top.specs.Causes.{ram_mib}
use Rattle.radix_top.specs.Calls.{BenchSeen, leaves, IsLawfulFrom, EndsSo, IsRunOf, WasRun, report_of, Says}
use Rattle.radix_top.specs.Printed.{RunsReady}
use Rattle.radix_top.specs.Prepared.{IsReady}
use Rattle.radix_top.proofs.Done.{says_made}

abbrev pub asks_for : (m : FilesSeen) (words : List Text) (ready : RunInputs) → IsReady m words ready → AsksFor m words
asks_for m words ready is = record {
  count = ready.count;
  options = ready.options;
  image = ready.image;
  plan = ready.schedule;
  guests = ready.guests;
  is_command = is.command;
  image_file = is.image;
  schedule_file = is.schedule;
  guest_files = is.guests;
  last_read = is.last_read;
}

-- the machine that a prepared command opens with some devices
abbrev pub opened_for : {D : Type 0} → RunInputs → DevicesSeen D → MachineView D
opened_for ready d = opened d.size ready.image ready.guests ram_mib 1 d.devices ready.count

-- a machine that was just opened began as it is
start_of-opened : {D : Type 0} (size : D → ℕ) (image : Image) (guests : List Guest) (mib threads : ℕ) (devices : List (PluggedOf D)) (steps : ℕ) →
    start_of (opened size image guests mib threads devices steps) ≡ start image guests mib threads (windows_for size devices)
unfolding start_of ram_before
start_of-opened size image guests mib threads devices steps = rw (length-reset_from 0 threads image.entry) refl

-- the new device rows are all rows where there were none
answered : {D : Type 0} (d : DevicesSeen D) (ready : RunInputs) (machine : MachineView D) (end : Ended) → RunsTo (DeviceAnswers d.list d.answers) ready.schedule ready.count (opened_for ready d) machine end → DevicesAnswer d machine.journal.rows.devices
answered d ready machine end run = λ slot.
    rw run.devices.added (chain_answers d.list d.answers (slots_for d.size d.devices) machine.slots run.devices.rows slot run.devices.chain)

abbrev is_run_of : {D : Type 0} (m : FilesSeen) (words : List Text) (d : DevicesSeen D) (ready : RunInputs) (machine : MachineView D) (end : Ended) (prepared : IsReady m words ready) →
    RunsTo (DeviceAnswers d.list d.answers) ready.schedule ready.count (opened_for ready d) machine end → IsRunOf m words d machine end
is_run_of m words d ready machine end prepared run =
    let begins : start_of machine ≡ start ready.image ready.guests ram_mib 1 (windows_in d) = run.start ∙ start_of-opened d.size ready.image ready.guests ram_mib 1 d.devices ready.count in
    let places : machine.journal.reserved ≡ ready.count = ap (λ (j : JournalView). j.reserved) run.grows.rows in
    let lawful : IsLawfulFrom m words (asks_for m words ready prepared) d machine = record {
      places = places;
      floor = ap (λ (j : JournalView). j.floor) run.grows.rows;
      begins = begins;
      lawful = subst (λ (s : State). IsLawfulRun s machine.journal.rows (now_of machine)) begins run.lawful;
      chosen = subst (λ (s : State). IsChosenRun MachineChoice s machine.journal.rows (now_of machine)) begins run.chosen;
      answers = answered d ready machine end run;
    } in
    let ends_so : EndsSo ready.count ready.schedule machine end = record {
      turns = λ k below. run.turns k (omega arith) below;
      ended = rw places at run.ended;
      exact = λ k below. run.exact k (omega arith) below;
    } in
    record { asks = asks_for m words ready prepared; lawful = lawful; ends = ends_so }

abbrev was_run : {D : Type 0} (m : FilesSeen) (words : List Text) (d : DevicesSeen D) (ready : RunInputs) (left : BenchSeen D) (machine : MachineView D) (f f' : ℕ) (old new : Option (List ℕ)) (s : Status) → IsReady m words ready → left ≡ leaves (Some machine) [] →
    (runs : RunsReady d.list d.answers ready (opened_for ready d) machine f f' old new s) → WasRun m words d left runs.end
was_run m words d ready left machine f f' old new s prepared is runs =
    record { machine = machine; there = ap (λ (b : BenchSeen _). b.machine) is; handed_over = ap (λ (b : BenchSeen _). b.devices) is; run = is_run_of m words d ready machine runs.end prepared runs.run }

-- a run whose report was printed, or cut short
pub says_ran : {D : Type 0} (m : FilesSeen) (words : List Text) (d : DevicesSeen D) (ready : RunInputs) (left : BenchSeen D) (machine : MachineView D) (f f' : ℕ) (old new : Option (List ℕ)) (s : Status) → IsReady m words ready → left ≡ leaves (Some machine) [] →
    RunsReady d.list d.answers ready (opened_for ready d) machine f f' old new s → Says m words d left f f' old new s
says_ran m words d ready left machine f f' old new s prepared is runs =
    says_made m words d left f f' old new runs.end (report_of machine runs.end ready.options) s
    (record { command = Run ready.count ready.options; is_command = prepared.command; makes = record { was_run = was_run m words d ready left machine f f' old new s prepared is runs; report = refl } })
    runs.prints
