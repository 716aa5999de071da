-- What follows from what a call says.
use Rattle.std.proofs.Common.{◌≡◌, ℕ, ◌<◌, ◌≤◌, nat_lt, nat_le, Bool, true, false, List, [], ◌∷◌, length, map, Option, Some, None, Ok, Err, refl, sym, ap, ◌∙◌, arith, inl, inr, subst}
use Rattle.std.specs.Prelude.{IfSome, ◌⊎◌}
use Rattle.std.proofs.lemmas.Bool.Decides.{nat_tests}
use Rattle.outer_io.specs.Outside.{Asked, CountRose}
use Rattle.journal_core.specs.Room.{room_of}
use Rattle.journal_core.specs.Ends.{stop_of, end_by, ended_of}
use Rattle.journal_core.specs.declared.rows.RowKind.{RowKind}
use Rattle.journal_core.specs.declared.rows.StopName.{StopName}
use Rattle.journal_core.specs.declared.rows.Ended.{Ended}
use Rattle.journal_core.specs.declared.rows.Ended.TheVariants as ends
use Rattle.ppc_bus.specs.Windows.{Window}
use Rattle.ppc_bus.specs.declared.faults.PlugReason.{PlugReason}
use Rattle.elf_image.specs.declared.span.Span.{Span}
use Rattle.elf_image.specs.declared.fault.ElfFault.{ElfFault}
use Rattle.elf_image.specs.declared.image.Image.{Image}
use Rattle.elf_image.specs.declared.guests.Guest.{Guest}
use Rattle.asm_places.specs.declared.fault.AsmKind.{AsmKind}
use Rattle.asm_places.specs.declared.fault.AsmFault.TheVariants as asm_faults
use Rattle.ppc_asm.specs.Images.{IsSource, assembled}
use Rattle.elf_image.specs.IsImage.{IsImage, IsImageFault}
use Rattle.elf_image.proofs.OneImage.{one_image, image_or_fault}
use Rattle.sched_text.specs.Plan.{Plan, turn}
use Rattle.sched_text.specs.Reading.{plan_of, one_thread}
use Rattle.sched_text.proofs.OneThread.{turn-one_thread, plan_of-one_thread}
use Rattle.ppc_machine.specs.MachineView.{MachineView, now_of}
use Rattle.ppc_machine.specs.Opening.{start}
use Rattle.step_laws.specs.Rows.{surely}
use Rattle.step_laws.proofs.RowsLemmas.{short_runs}
use Rattle.radix_top.specs.declared.command.Command.{Command}
use Rattle.radix_top.specs.declared.command.Command.TheVariants.{Run, Asm, Dis}
use Rattle.radix_top.specs.declared.command.Options.{Options}
use Rattle.radix_top.specs.declared.guest_words.GuestWord.{GuestWord}
use Rattle.radix_top.specs.declared.status.Refusal.{Refusal}
use Rattle.radix_top.specs.declared.status.Refusal.TheVariants as refusals
use Rattle.radix_top.specs.declared.status.Status.{Status}
use Rattle.radix_top.specs.declared.status.Status.TheVariants as statuses
use Rattle.radix_top.specs.Words.{Text, word_at, guest_name, command_of}
use Rattle.radix_top.specs.Inputs.{FilesSeen, met, most, FileKind, ImageFile, ScheduleFile, SourceFile, FileWord, guest_file, files_of, IsGood, ReachesIn, FileFails, AreGuests, AsksFor}
use Rattle.radix_top.specs.Devices.{DevicesSeen, windows_in}
use Rattle.radix_top.specs.Causes.{ram_mib, FailsAtFile, FailsAtPlace, FailsAtDevice}
use Rattle.radix_top.specs.Calls.{BenchSeen, IsRunOf, Makes, Made, Says}
use Rattle.radix_top.specs.Laws.{IsTold, AreTold, AcceptsRun, EndsWell, AcceptsSource, AcceptsImage, EndsDone, NoReadFault, NoWriteFault}

not_ended : (stop : Option (StopName × ℕ)) (all : Bool) (next : Option ℕ) (full : Option (RowKind × ℕ)) (t : ℕ) → next ≡ Some t → end_by stop all next full ≡ Some ends.ScheduleEnd → ⊥
not_ended (Some stop) all next full t some is = cc
not_ended None true next full t some is = cc
not_ended None false None full t some is = cc
not_ended None false (Some x) (Some full) t some is = cc
not_ended None false (Some x) None t some is = cc

at_told : (told : Option (List ℕ)) (bytes : List ℕ) (P : List ℕ → Type 0) → told ≡ Some bytes → IfSome told P → P bytes
at_told told bytes P e h = rw e at h

-- the bytes of a file are known, within the bound and good
abbrev GoodTold : FilesSeen → FileWord → Type 0
GoodTold m f = (bytes : List ℕ) × IsTold m.told f.name bytes × IsGood f.kind bytes

abbrev AllGoodTold : FilesSeen → List FileWord → Type 0
AllGoodTold m [] = Unit {0}
AllGoodTold m (f ∷ fs) = GoodTold m f × AllGoodTold m fs

-- a refusal that is not the fault of a file
abbrev IsOutside : Refusal → Type 0
IsOutside r = (r ≡ refusals.Memory) ⊎ ((p : ℕ) × (r ≡ refusals.ReadFault p))

good_image : (bytes : List ℕ) (kind : FileKind) → kind ≡ ImageFile → IsGood kind bytes → (image : Image) × IsImage bytes image
good_image bytes kind is good = subst (λ k. IsGood k bytes) is good

good_schedule : (bytes : List ℕ) (kind : FileKind) → kind ≡ ScheduleFile → IsGood kind bytes → (plan : Plan) × (plan_of bytes ≡ Ok plan)
good_schedule bytes kind is good = subst (λ k. IsGood k bytes) is good

good_source : (bytes : List ℕ) (kind : FileKind) → kind ≡ SourceFile → IsGood kind bytes → (image : Image) × IsSource bytes image
good_source bytes kind is good = subst (λ k. IsGood k bytes) is good

-- a told and good file does not fail but by the outside
sound_file : (m : FilesSeen) (f : FileWord) (r : Refusal) → GoodTold m f → FileFails m f r → IsOutside r
sound_file m f (refusals.Usage p) good fails = absurd fails
sound_file m f (refusals.ReadFault p) good fails = inr (p, refl)
sound_file m f (refusals.TooLong p) good fails =
    let long : most < length good.0 = at_told (m.told f.name) good.0 (λ b. most < length b) good.1.0 fails.1.1 in
    absurd (omega (arith, long, good.1.1))
sound_file m f (refusals.BadImage fault) good fails =
    let wrong = at_told (m.told f.name) good.0 (λ b. (length b ≤ most) × IsImageFault b fault) good.1.0 fails.2.1 in
    let image = good_image good.0 f.kind fails.0 good.2 in
    absurd (image_or_fault good.0 image.0 fault fails.1 image.1 wrong.1)
sound_file m f (refusals.BadSchedule p) good fails =
    let broken = at_told (m.told f.name) good.0 (λ b. (length b ≤ most) × (plan_of b ≡ Err p)) good.1.0 fails.1.1 in
    let plan = good_schedule good.0 f.kind fails.0 good.2 in
    let one = plan.1 in
    let other = broken.1 in
    absurd cc
sound_file m f (refusals.BadAsm line kind) good fails =
    let broken = at_told (m.told f.name) good.0 (λ b. (length b ≤ most) × (assembled b ≡ Err (asm_faults.At line kind))) good.1.0 fails.1.1 in
    let image = good_source good.0 f.kind fails.0 good.2 in
    let one = image.1 in
    let other = broken.1 in
    absurd cc
sound_file m f (refusals.BadPlace range other) good fails = absurd fails
sound_file m f (refusals.BadDevice number reason) good fails = absurd fails
sound_file m f refusals.Memory good fails = inl refl

reached : (m : FilesSeen) (files : List FileWord) (f : FileWord) → AllGoodTold m files → ReachesIn m files f → GoodTold m f
reached m [] f good reaches = absurd reaches
reached m (g ∷ gs) f good (inl is) = subst (GoodTold m) (sym is) good.0
reached m (g ∷ gs) f good (inr later) = reached m gs f good.1 later.1

same_command : (words : List Text) (a b : Command) → command_of words ≡ Ok a → command_of words ≡ Ok b → a ≡ b
same_command words a b e f = cc

-- where all files of a command are told and good, none of them is the cause of a refusal
sound : (m : FilesSeen) (words : List Text) (command : Command) (r : Refusal) → command_of words ≡ Ok command → AllGoodTold m (files_of words command) → FailsAtFile m words r → IsOutside r
sound m words command r is good fails =
    let same = same_command words fails.reaches.command command fails.reaches.is_command is in
    sound_file m fails.file r (reached m (files_of words command) fails.file good (subst (λ (c : Command). ReachesIn m (files_of words c) fails.file) same fails.reaches.reaches)) fails.fails

no_long : (p : ℕ) → IsOutside (refusals.TooLong p) → ⊥
no_long p (inl is) = cc
no_long p (inr is) = let same = is.1 in cc

no_image : (fault : ElfFault) → IsOutside (refusals.BadImage fault) → ⊥
no_image fault (inl is) = cc
no_image fault (inr is) = let same = is.1 in cc

no_schedule : (p : ℕ) → IsOutside (refusals.BadSchedule p) → ⊥
no_schedule p (inl is) = cc
no_schedule p (inr is) = let same = is.1 in cc

no_source : (line : ℕ) (kind : AsmKind) → IsOutside (refusals.BadAsm line kind) → ⊥
no_source line kind (inl is) = cc
no_source line kind (inr is) = let same = is.1 in cc

-- the files of commands that are accepted
guests_good : (m : FilesSeen) (words : List Text) (gs : List GuestWord) (hs : List Guest) → AreTold m.told words gs hs → AllGoodTold m (map (guest_file words) gs)
guests_good m words [] [] told = tt
guests_good m words [] (h ∷ hs) told = absurd told
guests_good m words (g ∷ gs) [] told = absurd told
guests_good m words (g ∷ gs) (h ∷ hs) told = ((h.bytes, told.1, tt), guests_good m words gs hs told.2)

run_good : (m : FilesSeen) (words : List Text) (windows : List Window) (a : AcceptsRun m.told words windows) → AllGoodTold m (files_of words (Run a.count a.options))
run_good m words windows a =
    ((a.image_bytes, a.image_told, (a.image, a.is_image)), ((a.schedule_bytes, a.schedule_told, (a.plan, a.is_schedule)), guests_good m words a.options.guests a.guests a.guests_told))

source_good : (m : FilesSeen) (words : List Text) (a : AcceptsSource m.told words) → AllGoodTold m (files_of words Asm)
source_good m words a = ((a.bytes, a.source_told, (a.image, a.is_source)), tt)

image_good : (m : FilesSeen) (words : List Text) (a : AcceptsImage m.told words) → AllGoodTold m (files_of words Dis)
image_good m words a = ((a.bytes, a.image_told, (a.image, a.is_image)), tt)

-- what is asked for is what is accepted
same_image : (m : FilesSeen) (words : List Text) (windows : List Window) (asks : AsksFor m words) (a : AcceptsRun m.told words windows) → asks.image ≡ a.image
same_image m words windows asks a =
    let is = at_told (m.told (word_at words 1)) a.image_bytes (λ b. (length b ≤ most) × IsImage b asks.image) a.image_told.0 asks.image_file in
    one_image a.image_bytes asks.image a.image is.1 a.is_image

guest_with : ℕ → List ℕ → Guest
guest_with at bytes = record { at = at; bytes = bytes }

same_guest : (h k : Guest) → h.at ≡ k.at → h.bytes ≡ k.bytes → h ≡ k
unfolding guest_with
same_guest h k at bytes = ap (λ a. guest_with a h.bytes) at ∙ ap (guest_with k.at) bytes

same_guests : (m : FilesSeen) (words : List Text) (gs : List GuestWord) (hs ks : List Guest) → AreGuests m words gs hs → AreTold m.told words gs ks → hs ≡ ks
same_guests m words [] [] [] are told = refl
same_guests m words [] (h ∷ hs) ks are told = absurd are
same_guests m words [] [] (k ∷ ks) are told = absurd told
same_guests m words (g ∷ gs) [] ks are told = absurd are
same_guests m words (g ∷ gs) (h ∷ hs) [] are told = absurd told
same_guests m words (g ∷ gs) (h ∷ hs) (k ∷ ks) are told =
    let bytes = at_told (m.told (guest_name words g)) k.bytes (λ b. (length b ≤ most) × (h.bytes ≡ b)) told.1.0 are.0.1 in
    let first : h ≡ k = same_guest h k (are.0.0 ∙ sym told.0) bytes.1 in
    rw (first, same_guests m words gs hs ks are.1 told.2) refl

same_options : (m : FilesSeen) (words : List Text) (windows : List Window) (asks : AsksFor m words) (a : AcceptsRun m.told words windows) → asks.options ≡ a.options
same_options m words windows asks a = let one = a.is_command in let other = asks.is_command in cc

all_guests : (m : FilesSeen) (words : List Text) (windows : List Window) (asks : AsksFor m words) (a : AcceptsRun m.told words windows) → asks.guests ≡ a.guests
all_guests m words windows asks a =
    same_guests m words a.options.guests asks.guests a.guests (subst (λ (o : Options). AreGuests m words o.guests asks.guests) (same_options m words windows asks a) asks.guest_files) a.guests_told

has_place : (m : FilesSeen) (words : List Text) (windows : List Window) (a : AcceptsRun m.told words windows) (range other : Span) → FailsAtPlace m words range other → ⊥
has_place m words windows a range other fails =
    let place = rw (same_image m words windows fails.asks a, all_guests m words windows fails.asks a) at fails.place in
    let none = a.has_place in
    cc

is_plugged : (m : FilesSeen) (words : List Text) (windows : List Window) (a : AcceptsRun m.told words windows) (number : ℕ) (reason : PlugReason) → FailsAtDevice m words windows number reason → ⊥
is_plugged m words windows a number reason fails =
    let device = fails.device in
    let none = a.plugged in
    cc

-- a run by a told schedule never runs out of turns
never_ended : {D : Type 0} (m : FilesSeen) (words : List Text) (d : DevicesSeen D) (machine : MachineView D) (bytes : List ℕ) → m.told (word_at words 2) ≡ Some bytes → IsRunOf m words d machine ends.ScheduleEnd → ⊥
unfolding ended_of
never_ended m words d machine bytes told run =
    let steps = machine.journal.rows.steps in
    let read = at_told (m.told (word_at words 2)) bytes (λ b. (length b ≤ most) × (plan_of b ≡ Ok run.asks.plan)) told run.asks.schedule_file in
    let one : run.asks.plan ≡ one_thread = plan_of-one_thread bytes run.asks.plan read.1 in
    let next : turn run.asks.plan (length steps) ≡ Some 0 = rw one (turn-one_thread (length steps)) in
    not_ended (stop_of steps) (nat_le run.asks.count (length steps)) (turn run.asks.plan (length steps)) (room_of run.asks.count machine.journal.rows) 0 next run.ends.ended

-- where a run fills its journal, its last step is no stop, it lacks steps, and a list is short
full_by : (stop : Option (StopName × ℕ)) (all : Bool) (next : Option ℕ) (full : Option (RowKind × ℕ)) (k : RowKind) (c : ℕ) → end_by stop all next full ≡ Some (ends.JournalFull k c) → (all ≡ false) × (full ≡ None → ⊥)
full_by (Some stop) all next full k c is = cc
full_by None true next full k c is = cc
full_by None false None full k c is = cc
full_by None false (Some t) None k c is = cc
full_by None false (Some t) (Some full) k c is = (refl, λ none. cc)

same_count : (m : FilesSeen) (words : List Text) (windows : List Window) (asks : AsksFor m words) (a : AcceptsRun m.told words windows) → asks.count ≡ a.count
same_count m words windows asks a = let one = a.is_command in let other = asks.is_command in cc

above : (a b : ℕ) → nat_lt a b ≡ true → a < b
above a b is = grind (arith, nat_tests)

not_above : (a b : ℕ) → nat_lt a b ≡ false → b ≤ a
not_above a b is = grind (arith, nat_tests)

below : (a b : ℕ) → nat_le a b ≡ false → b < a
below a b is = grind (arith, nat_tests)

-- a run fills its journal with more steps alone than surely have room
ever_full : {D : Type 0} (m : FilesSeen) (words : List Text) (d : DevicesSeen D) (machine : MachineView D) (k : RowKind) (c : ℕ) (a : AcceptsRun m.told words (windows_in d)) → IsRunOf m words d machine (ends.JournalFull k c) → surely < a.count
unfolding ended_of
ever_full m words d machine k c a run = by (nat_lt surely a.count) refl
  where
    by : (b : Bool) → nat_lt surely a.count ≡ b → surely < a.count
    by true is = above surely a.count is
    by false is =
        let full = full_by (stop_of machine.journal.rows.steps) (nat_le run.asks.count (length machine.journal.rows.steps)) (turn run.asks.plan (length machine.journal.rows.steps)) (room_of run.asks.count machine.journal.rows) k c run.ends.ended in
        let short : run.asks.count ≤ surely = omega (arith, not_above surely a.count is, same_count m words (windows_in d) run.asks a) in
        absurd (full.1 (short_runs (start run.asks.image run.asks.guests ram_mib 1 (windows_in d)) machine.journal.rows (now_of machine) run.asks.count run.lawful.lawful short (below run.asks.count (length machine.journal.rows.steps) full.0)))

-- what a command made that the words are
makes_as : {D : Type 0} (m : FilesSeen) (words : List Text) (d : DevicesSeen D) (left : BenchSeen D) (end : Ended) (text : List ℕ) (command : Command) → command_of words ≡ Ok command → (made : Made m words d left end text) → Makes m words d left end text command
makes_as m words d left end text command is made = subst (Makes m words d left end text) (same_command words made.command command made.is_command is) made.makes

-- an accepted run is done, or stops, or fills its journal, or memory or the outside fails
pub accepted : {D : Type 0} (told : List ℕ → Option (List ℕ)) (b e : ℕ) (last : Option Asked) (words : List Text) (d : DevicesSeen D) (left : BenchSeen D) (f f' : ℕ) (old new : Option (List ℕ)) (s : Status) → (a : AcceptsRun told words (windows_in d)) → Says (met told b e last) words d left f f' old new s → EndsWell a.count s
accepted told b e last words d left f f' old new (statuses.Done ends.AllRun) a says = tt
accepted told b e last words d left f f' old new (statuses.Done ends.ScheduleEnd) a says =
    let report = makes_as (met told b e last) words d left ends.ScheduleEnd says.text (Run a.count a.options) a.is_command says.made in
    never_ended (met told b e last) words d report.was_run.machine a.schedule_bytes a.schedule_told.0 report.was_run.run
accepted told b e last words d left f f' old new (statuses.Done (ends.Stopped n v)) a says = says
accepted told b e last words d left f f' old new (statuses.Done (ends.JournalFull k c)) a says = says
accepted told b e last words d left f f' old new (statuses.Stopped n v) a says = tt
accepted told b e last words d left f f' old new (statuses.JournalFull k c) a says =
    let report = makes_as (met told b e last) words d left (ends.JournalFull k c) says.text (Run a.count a.options) a.is_command says.made in
    ever_full (met told b e last) words d report.was_run.machine k c a report.was_run.run
accepted told b e last words d left f f' old new statuses.Memory a says = tt
accepted told b e last words d left f f' old new (statuses.ReadFault p) a says = tt
accepted told b e last words d left f f' old new statuses.WriteFault a says = tt
accepted told b e last words d left f f' old new (statuses.Usage p) a says = let one = a.is_command in let other = says.not_run.cause in cc
accepted told b e last words d left f f' old new (statuses.BadPlace range other) a says = absurd (has_place (met told b e last) words (windows_in d) a range other says.not_run.cause)
accepted told b e last words d left f f' old new (statuses.BadDevice number reason) a says = absurd (is_plugged (met told b e last) words (windows_in d) a number reason says.not_run.cause)
accepted told b e last words d left f f' old new (statuses.TooLong p) a says = no_long p (sound (met told b e last) words _ _ a.is_command (run_good (met told b e last) words (windows_in d) a) says.not_run.cause)
accepted told b e last words d left f f' old new (statuses.BadImage x) a says = no_image x (sound (met told b e last) words _ _ a.is_command (run_good (met told b e last) words (windows_in d) a) says.not_run.cause)
accepted told b e last words d left f f' old new (statuses.BadSchedule p) a says = no_schedule p (sound (met told b e last) words _ _ a.is_command (run_good (met told b e last) words (windows_in d) a) says.not_run.cause)
accepted told b e last words d left f f' old new (statuses.BadAsm line kind) a says = no_source line kind (sound (met told b e last) words _ _ a.is_command (run_good (met told b e last) words (windows_in d) a) says.not_run.cause)

no_run : (m : FilesSeen) (words : List Text) (command : Command) (asks : AsksFor m words) → command_of words ≡ Ok command → (command ≡ Run asks.count asks.options)
no_run m words command asks is = same_command words command (Run asks.count asks.options) is asks.is_command

-- a command of one file, told and good, that runs nothing
done_by : {D : Type 0} (told : List ℕ → Option (List ℕ)) (b e : ℕ) (last : Option Asked) (words : List Text) (d : DevicesSeen D) (left : BenchSeen D) (f f' : ℕ) (old new : Option (List ℕ)) (s : Status) (command : Command) →
    command_of words ≡ Ok command → ((count : ℕ) (options : Options) → command ≡ Run count options → ⊥) → AllGoodTold (met told b e last) (files_of words command) →
    ((end : Ended) (text : List ℕ) → Made (met told b e last) words d left end text → end ≡ ends.AllRun) → Says (met told b e last) words d left f f' old new s → EndsDone s
done_by told b e last words d left f f' old new (statuses.Done ends.AllRun) command is other good all says = tt
done_by told b e last words d left f f' old new (statuses.Done ends.ScheduleEnd) command is other good all says = let same = all ends.ScheduleEnd says.text says.made in cc
done_by told b e last words d left f f' old new (statuses.Done (ends.Stopped n v)) command is other good all says = says
done_by told b e last words d left f f' old new (statuses.Done (ends.JournalFull k c)) command is other good all says = says
done_by told b e last words d left f f' old new (statuses.Stopped n v) command is other good all says = let same = all (ends.Stopped n v) says.text says.made in cc
done_by told b e last words d left f f' old new (statuses.JournalFull k c) command is other good all says = let same = all (ends.JournalFull k c) says.text says.made in cc
done_by told b e last words d left f f' old new statuses.Memory command is other good all says = tt
done_by told b e last words d left f f' old new (statuses.ReadFault p) command is other good all says = tt
done_by told b e last words d left f f' old new statuses.WriteFault command is other good all says = tt
done_by told b e last words d left f f' old new (statuses.Usage p) command is other good all says = let usage = says.not_run.cause in cc
done_by told b e last words d left f f' old new (statuses.BadPlace range place) command is other good all says =
    let asks = says.not_run.cause.asks in absurd (other asks.count asks.options (no_run (met told b e last) words command asks is))
done_by told b e last words d left f f' old new (statuses.BadDevice number reason) command is other good all says =
    let asks = says.not_run.cause.asks in absurd (other asks.count asks.options (no_run (met told b e last) words command asks is))
done_by told b e last words d left f f' old new (statuses.TooLong p) command is other good all says = no_long p (sound (met told b e last) words _ _ is good says.not_run.cause)
done_by told b e last words d left f f' old new (statuses.BadImage x) command is other good all says = no_image x (sound (met told b e last) words _ _ is good says.not_run.cause)
done_by told b e last words d left f f' old new (statuses.BadSchedule p) command is other good all says = no_schedule p (sound (met told b e last) words _ _ is good says.not_run.cause)
done_by told b e last words d left f f' old new (statuses.BadAsm line kind) command is other good all says = no_source line kind (sound (met told b e last) words _ _ is good says.not_run.cause)

-- an accepted source is assembled, or memory or the outside fails
pub accepted_source : {D : Type 0} (told : List ℕ → Option (List ℕ)) (b e : ℕ) (last : Option Asked) (words : List Text) (d : DevicesSeen D) (left : BenchSeen D) (f f' : ℕ) (old new : Option (List ℕ)) (s : Status) → (a : AcceptsSource told words) → Says (met told b e last) words d left f f' old new s → EndsDone s
accepted_source told b e last words d left f f' old new s a says =
    done_by told b e last words d left f f' old new s Asm a.is_command (λ count options is. cc) (source_good (met told b e last) words a)
    (λ end text made. (makes_as (met told b e last) words d left end text Asm a.is_command made).0.1) says

-- an accepted image is listed, or memory or the outside fails
pub accepted_image : {D : Type 0} (told : List ℕ → Option (List ℕ)) (b e : ℕ) (last : Option Asked) (words : List Text) (d : DevicesSeen D) (left : BenchSeen D) (f f' : ℕ) (old new : Option (List ℕ)) (s : Status) → (a : AcceptsImage told words) → Says (met told b e last) words d left f f' old new s → EndsDone s
accepted_image told b e last words d left f f' old new s a says =
    done_by told b e last words d left f f' old new s Dis a.is_command (λ count options is. cc) (image_good (met told b e last) words a)
    (λ end text made. (makes_as (met told b e last) words d left end text Dis a.is_command made).0.1) says

risen : (before : ℕ) → CountRose before 0 → ⊥
risen before (inl lt) = omega (arith, lt)
risen before (inr le) = omega (arith, le)

-- where the files' count stays 0, no reading failed
pub sure_files : {D : Type 0} (told : List ℕ → Option (List ℕ)) (b e : ℕ) (last : Option Asked) (words : List Text) (d : DevicesSeen D) (left : BenchSeen D) (f f' : ℕ) (old new : Option (List ℕ)) (s : Status) → e ≡ 0 → Says (met told b e last) words d left f f' old new s → NoReadFault s
sure_files told b e last words d left f f' old new (statuses.ReadFault p) zero says = risen b (rw zero at says.not_run.cause.fails.1.0)
sure_files told b e last words d left f f' old new (statuses.Done x) zero says = tt
sure_files told b e last words d left f f' old new (statuses.Stopped n v) zero says = tt
sure_files told b e last words d left f f' old new (statuses.JournalFull k c) zero says = tt
sure_files told b e last words d left f f' old new statuses.Memory zero says = tt
sure_files told b e last words d left f f' old new (statuses.Usage p) zero says = tt
sure_files told b e last words d left f f' old new (statuses.TooLong p) zero says = tt
sure_files told b e last words d left f f' old new (statuses.BadImage x) zero says = tt
sure_files told b e last words d left f f' old new (statuses.BadSchedule p) zero says = tt
sure_files told b e last words d left f f' old new (statuses.BadAsm line kind) zero says = tt
sure_files told b e last words d left f f' old new (statuses.BadPlace range other) zero says = tt
sure_files told b e last words d left f f' old new (statuses.BadDevice number reason) zero says = tt
sure_files told b e last words d left f f' old new statuses.WriteFault zero says = tt

-- where the sink's count stays 0, no text was cut short
pub sure_sink : {D : Type 0} (told : List ℕ → Option (List ℕ)) (b e : ℕ) (last : Option Asked) (words : List Text) (d : DevicesSeen D) (left : BenchSeen D) (f f' : ℕ) (old new : Option (List ℕ)) (s : Status) → f' ≡ 0 → Says (met told b e last) words d left f f' old new s → NoWriteFault s
sure_sink told b e last words d left f f' old new statuses.WriteFault zero says = risen f (rw zero at says.0)
sure_sink told b e last words d left f f' old new (statuses.Done x) zero says = tt
sure_sink told b e last words d left f f' old new (statuses.Stopped n v) zero says = tt
sure_sink told b e last words d left f f' old new (statuses.JournalFull k c) zero says = tt
sure_sink told b e last words d left f f' old new statuses.Memory zero says = tt
sure_sink told b e last words d left f f' old new (statuses.Usage p) zero says = tt
sure_sink told b e last words d left f f' old new (statuses.TooLong p) zero says = tt
sure_sink told b e last words d left f f' old new (statuses.BadImage x) zero says = tt
sure_sink told b e last words d left f f' old new (statuses.BadSchedule p) zero says = tt
sure_sink told b e last words d left f f' old new (statuses.BadAsm line kind) zero says = tt
sure_sink told b e last words d left f f' old new (statuses.BadPlace range other) zero says = tt
sure_sink told b e last words d left f f' old new (statuses.BadDevice number reason) zero says = tt
sure_sink told b e last words d left f f' old new (statuses.ReadFault p) zero says = tt
