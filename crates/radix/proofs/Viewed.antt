-- What a call says of its devices, said of what contracts see of them.
use Rattle.std.proofs.Common.{◌≡◌, ◌⊎◌, inl, inr, ℕ, zero, suc, List, [], ◌∷◌, map, Option, Some, None, refl, sym, ap, subst, ◌∙◌}
use Rattle.outer_io.specs.Outside.{Asked}
use Rattle.journal_core.specs.declared.rows.DeviceRow.{DeviceRow}
use Rattle.journal_core.specs.declared.rows.Ended.{Ended}
use Rattle.journal_core.specs.declared.rows.Ended.TheVariants as ends
use Rattle.ppc_bus.specs.declared.slots.Slot.{Slot}
use Rattle.ppc_bus.specs.Devices.{Access}
use Rattle.ppc_bus.specs.Windows.{Window, windows_of}
use Rattle.ppc_bus.specs.Slots.{slot_in}
use Rattle.ppc_bus.specs.SlotRows.{rows_of, SlotAnswersOf}
use Rattle.ppc_machine.specs.declared.plugging.PluggedOf.{PluggedOf}
use Rattle.ppc_machine.specs.Plugging.{windows_for, slots_for}
use Rattle.ppc_machine.specs.MachineView.{MachineView, start_of}
use Rattle.radix_top.specs.declared.command.Command.{Command}
use Rattle.radix_top.specs.declared.command.Command.TheVariants.{Run, Asm, Dis}
use Rattle.radix_top.specs.declared.status.Refusal.{Refusal}
use Rattle.radix_top.specs.declared.status.Refusal.TheVariants as refusals
use Rattle.radix_top.specs.declared.status.Status.{Status}
use Rattle.radix_top.specs.declared.status.Status.TheVariants as statuses
use Rattle.radix_top.specs.Words.{Text}
use Rattle.radix_top.specs.Inputs.{FilesSeen, met}
use Rattle.radix_top.specs.Devices.{DevicesSeen}
use Rattle.radix_top.specs.Causes.{HasCause}
use Rattle.radix_top.specs.Calls.{BenchSeen, leaves, IsLawfulFrom, IsRunOf, WasRun, WasNotRun, RunsNothing, Makes, Made, Says, WasDone, WasRefused, CutLine, CutText}
use Rattle.radix.specs.Answering.{Answers, WereHanded}
use Rattle.bench_devices.specs.Benches.{console_list, console_answers, control_answers, tape_answers}
use Rattle.radix.specs.Standard.{AreStandard}
use Rattle.radix.specs.Views.{DeviceView, seen}

-- what is seen of a device
abbrev view_of : {D : Type 0} → DevicesSeen D → D → DeviceView
view_of d device = record { size = d.size device; list = d.list device; answers = d.answers device }

abbrev plugged_view : {D : Type 0} → DevicesSeen D → PluggedOf D → PluggedOf DeviceView
plugged_view d p = record { at = p.at; device = view_of d p.device }

abbrev pub views : {D : Type 0} → DevicesSeen D → List (PluggedOf D) → List (PluggedOf DeviceView)
views d devices = map (plugged_view d) devices

abbrev slot_view : {D : Type 0} → DevicesSeen D → Option (Slot D) → Option (Slot DeviceView)
slot_view d None = None
slot_view d (Some s) = Some (record { at = s.at; size = s.size; device = view_of d s.device })

abbrev machine_view : {D : Type 0} → DevicesSeen D → MachineView D → MachineView DeviceView
machine_view d m = record { entry = m.entry; plugged = m.plugged; threads = m.threads; ram = m.ram; slots = map (slot_view d) m.slots; journal = m.journal }

abbrev there_view : {D : Type 0} → DevicesSeen D → Option (MachineView D) → Option (MachineView DeviceView)
there_view d None = None
there_view d (Some m) = Some (machine_view d m)

abbrev pub bench_view : {D : Type 0} → DevicesSeen D → BenchSeen D → BenchSeen DeviceView
bench_view d left = leaves (there_view d left.machine) (views d left.devices)

same_windows : {D : Type 0} (d : DevicesSeen D) (devices : List (PluggedOf D)) → windows_for (λ (v : DeviceView). v.size) (views d devices) ≡ windows_for d.size devices
same_windows d [] = refl
same_windows d (p ∷ ps) = ap (λ (ws : List Window). record { place = p.at; size = d.size p.device } ∷ ws) (same_windows d ps)

same_now : {D : Type 0} (d : DevicesSeen D) (slots : List (Option (Slot D))) → windows_of (map (slot_view d) slots) ≡ windows_of slots
same_now d [] = refl
same_now d (None ∷ ss) = ap (λ (ws : List (Option Window)). None ∷ ws) (same_now d ss)
same_now d (Some s ∷ ss) = ap (λ (ws : List (Option Window)). Some (record { place = s.at; size = s.size }) ∷ ws) (same_now d ss)

same_answers : {D : Type 0} (d : DevicesSeen D) (devices : List (PluggedOf D)) (slot : ℕ) (rows : List DeviceRow) →
    SlotAnswersOf d.list d.answers (slot_in (slots_for d.size devices) slot) rows →
    SlotAnswersOf (λ (v : DeviceView). v.list) (λ (v : DeviceView). v.answers) (slot_in (slots_for (λ (v : DeviceView). v.size) (views d devices)) slot) rows
unfolding slot_in
same_answers d [] slot rows is = is
same_answers d (p ∷ ps) zero rows is = is
same_answers d (p ∷ ps) (suc n) rows is = same_answers d ps n rows is

same_start : {D : Type 0} (d : DevicesSeen D) (m : MachineView D) → start_of (machine_view d m) ≡ start_of m
unfolding start_of
same_start d m = refl

abbrev run_view : {D : Type 0} (m : FilesSeen) (words : List Text) (d : DevicesSeen D) (machine : MachineView D) (end : Ended) → IsRunOf m words d machine end → IsRunOf m words (seen (views d d.devices)) (machine_view d machine) end
run_view m words d machine end run =
    let lawful : IsLawfulFrom m words run.asks (seen (views d d.devices)) (machine_view d machine) = record {
      places = run.lawful.places;
      floor = run.lawful.floor;
      begins = rw (same_windows d d.devices) (same_start d machine ∙ run.lawful.begins);
      lawful = rw (same_windows d d.devices, same_now d machine.slots) run.lawful.lawful;
      chosen = rw (same_windows d d.devices, same_now d machine.slots) run.lawful.chosen;
      answers = λ slot. same_answers d d.devices slot (rows_of slot machine.journal.rows.devices) (run.lawful.answers slot);
    } in
    record { asks = run.asks; lawful = lawful; ends = record { turns = run.ends.turns; ended = run.ends.ended; exact = run.ends.exact } }

abbrev was_run_view : {D : Type 0} (m : FilesSeen) (words : List Text) (d : DevicesSeen D) (left : BenchSeen D) (end : Ended) → WasRun m words d left end → WasRun m words (seen (views d d.devices)) (bench_view d left) end
was_run_view m words d left end was = record {
  machine = machine_view d was.machine;
  there = ap (there_view d) was.there;
  handed_over = ap (views d) was.handed_over;
  run = run_view m words d was.machine end was.run;
}

not_run_view : {D : Type 0} (m : FilesSeen) (words : List Text) (d : DevicesSeen D) (left : BenchSeen D) (r : Refusal) → WasNotRun m words d left r → WasNotRun m words (seen (views d d.devices)) (bench_view d left) r
not_run_view m words d left r was = record {
  none = ap (there_view d) was.none;
  back = ap (views d) was.back;
  cause = subst (λ (ws : List Window). HasCause m words ws r) (sym (same_windows d d.devices)) was.cause;
}

nothing_view : {D : Type 0} (d : DevicesSeen D) (left : BenchSeen D) (end : Ended) → RunsNothing d left end → RunsNothing (seen (views d d.devices)) (bench_view d left) end
nothing_view d left end nothing = (ap (bench_view d) nothing.0, nothing.1)

makes_view : {D : Type 0} (m : FilesSeen) (words : List Text) (d : DevicesSeen D) (left : BenchSeen D) (end : Ended) (text : List ℕ) (command : Command) → Makes m words d left end text command → Makes m words (seen (views d d.devices)) (bench_view d left) end text command
makes_view m words d left end text (Run count options) makes = record { was_run = was_run_view m words d left end makes.was_run; report = makes.report }
makes_view m words d left end text Asm makes = (nothing_view d left end makes.0, makes.1)
makes_view m words d left end text Dis makes = (nothing_view d left end makes.0, makes.1)

abbrev made_view : {D : Type 0} (m : FilesSeen) (words : List Text) (d : DevicesSeen D) (left : BenchSeen D) (end : Ended) (text : List ℕ) → Made m words d left end text → Made m words (seen (views d d.devices)) (bench_view d left) end text
made_view m words d left end text made = record { command = made.command; is_command = made.is_command; makes = makes_view m words d left end text made.command made.makes }

done_view : {D : Type 0} (m : FilesSeen) (words : List Text) (d : DevicesSeen D) (left : BenchSeen D) (old new : Option (List ℕ)) (end : Ended) → WasDone m words d left old new end → WasDone m words (seen (views d d.devices)) (bench_view d left) old new end
done_view m words d left old new end done = record { text = done.text; made = made_view m words d left end done.text done.made; printed = done.printed }

refused_view : {D : Type 0} (m : FilesSeen) (words : List Text) (d : DevicesSeen D) (left : BenchSeen D) (old new : Option (List ℕ)) (r : Refusal) → WasRefused m words d left old new r → WasRefused m words (seen (views d d.devices)) (bench_view d left) old new r
refused_view m words d left old new r was = record { not_run = not_run_view m words d left r was.not_run; printed = was.printed }

cut_view : {D : Type 0} (m : FilesSeen) (words : List Text) (d : DevicesSeen D) (left : BenchSeen D) (old new : Option (List ℕ)) → CutLine m words d left old new ⊎ CutText m words d left old new →
    CutLine m words (seen (views d d.devices)) (bench_view d left) old new ⊎ CutText m words (seen (views d d.devices)) (bench_view d left) old new
cut_view m words d left old new (inl cut) = inl (record { refusal = cut.refusal; not_run = not_run_view m words d left cut.refusal cut.not_run; front = cut.front })
cut_view m words d left old new (inr cut) = inr (record { end = cut.end; text = cut.text; made = made_view m words d left cut.end cut.text cut.made; front = cut.front })

-- what is said of a call is said of the views of its devices
says_view : {D : Type 0} (m : FilesSeen) (words : List Text) (d : DevicesSeen D) (left : BenchSeen D) (f f' : ℕ) (old new : Option (List ℕ)) (s : Status) → Says m words d left f f' old new s → Says m words (seen (views d d.devices)) (bench_view d left) f f' old new s
says_view m words d left f f' old new (statuses.Done ends.AllRun) says = done_view m words d left old new _ says
says_view m words d left f f' old new (statuses.Done ends.ScheduleEnd) says = done_view m words d left old new _ says
says_view m words d left f f' old new (statuses.Done (ends.Stopped name value)) says = absurd says
says_view m words d left f f' old new (statuses.Done (ends.JournalFull kind count)) says = absurd says
says_view m words d left f f' old new (statuses.Stopped name value) says = done_view m words d left old new _ says
says_view m words d left f f' old new (statuses.JournalFull kind count) says = done_view m words d left old new _ says
says_view m words d left f f' old new statuses.WriteFault says = (says.0, cut_view m words d left old new says.1)
says_view m words d left f f' old new (statuses.Usage place) says = refused_view m words d left old new (refusals.Usage place) says
says_view m words d left f f' old new (statuses.ReadFault place) says = refused_view m words d left old new (refusals.ReadFault place) says
says_view m words d left f f' old new (statuses.TooLong place) says = refused_view m words d left old new (refusals.TooLong place) says
says_view m words d left f f' old new (statuses.BadImage fault) says = refused_view m words d left old new (refusals.BadImage fault) says
says_view m words d left f f' old new (statuses.BadSchedule place) says = refused_view m words d left old new (refusals.BadSchedule place) says
says_view m words d left f f' old new (statuses.BadAsm line kind) says = refused_view m words d left old new (refusals.BadAsm line kind) says
says_view m words d left f f' old new (statuses.BadPlace range other) says = refused_view m words d left old new (refusals.BadPlace range other) says
says_view m words d left f f' old new (statuses.BadDevice number reason) says = refused_view m words d left old new (refusals.BadDevice number reason) says
says_view m words d left f f' old new statuses.Memory says = refused_view m words d left old new refusals.Memory says

-- a call at files that had no fault before it
pub answers_after : {D : Type 0} (words : List Text) (s : Status) (before after : ℕ) (last : Option Asked) (d : DevicesSeen D) (left : BenchSeen D) (f f' : ℕ) → before ≡ 0 → WereHanded (seen (views d d.devices)) s →
    Says (met (λ _. None) before after last) words d left f f' None None s → Answers words s
answers_after words s before after last d left f f' none were_handed says = record {
  devices = views d d.devices;
  were_handed = were_handed;
  file_faults = after;
  last = last;
  left = bench_view d left;
  faults_before = f;
  faults_after = f';
  says = subst (λ n. Says (met (λ _. None) n after last) words (seen (views d d.devices)) (bench_view d left) f f' None None s) none (says_view (met (λ _. None) before after last) words d left f f' None None s says);
}

-- three devices at their places that are what they are called
pub standard_of : {D : Type 0} (d : DevicesSeen D) (a b c : D) → d.devices ≡ record { at = 268435456; device = a } ∷ record { at = 268439552; device = b } ∷ record { at = 268443648; device = c } ∷ [] →
    d.size a ≡ 8 → d.list a ≡ console_list 0 → ((l : List ℕ) (access : Access) → d.answers a l access ≡ console_answers l access) →
    d.size b ≡ 16 → d.list b ≡ [] → ((l : List ℕ) (access : Access) → d.answers b l access ≡ control_answers l access) →
    d.size c ≡ 16 → d.list c ≡ [] → ((l : List ℕ) (access : Access) → d.answers c l access ≡ tape_answers l access) → AreStandard (seen (views d d.devices))
standard_of d a b c are size_a list_a answers_a size_b list_b answers_b size_c list_c answers_c = record {
  console = record { at = 268435456; device = view_of d a };
  control = record { at = 268439552; device = view_of d b };
  tape = record { at = 268443648; device = view_of d c };
  are = ap (views d) are;
  is_console = record { at = refl; size = size_a; list = list_a; answers = answers_a };
  is_control = record { at = refl; size = size_b; list = list_b; answers = answers_b };
  is_tape = record { at = refl; size = size_c; list = list_c; answers = answers_c };
}
