-- Refusals and their causes.
use Rattle.std.proofs.Common.{◌≡◌, ℕ, ◌<◌, ◌≤◌, ◌-◌, List, [], ◌∷◌, ◌++◌, length, map, take, drop, get_or, Option, Ok, Err, refl, sym, ap, ◌∙◌, inl, inr, subst, arith, append_assoc}
use Rattle.std.specs.Prelude.{IfSome, IfErr, OnOk, Result}
use Rattle.std.proofs.lemmas.List.{take_rest}
use Rattle.outer_io.specs.Outside.{Asked, added}
use Rattle.outer_io.proofs.Printing.{rose_then}
use Rattle.elf_image.specs.declared.image.Image.{Image}
use Rattle.elf_image.specs.declared.guests.Guest.{Guest}
use Rattle.elf_image.specs.IsImage.{IsImage, IsImageFault}
use Rattle.ppc_asm.specs.Images.{assembled}
use Rattle.sched_text.specs.Plan.{Plan}
use Rattle.sched_text.specs.Reading.{plan_of}
use Rattle.ppc_bus.specs.Windows.{Window}
use Rattle.radix_top.specs.declared.command.Command.{Command}
use Rattle.radix_top.specs.declared.command.Command.TheVariants.{Run}
use Rattle.radix_top.specs.declared.command.Options.{Options}
use Rattle.radix_top.specs.declared.guest_words.GuestWord.{GuestWord}
use Rattle.radix_top.specs.declared.status.Refusal.{Refusal}
use Rattle.radix_top.specs.declared.status.Refusal.TheVariants as refusals
use Rattle.radix_top.specs.declared.status.Status.{Status}
use Rattle.radix_top.specs.declared.status.Status.TheVariants as statuses
use Rattle.radix_top.specs.Statuses.{refused_status}
use Rattle.radix_top.specs.Words.{Text, word_at, guest_name, command_of}
use Rattle.radix_top.specs.Inputs.{FilesSeen, met, most, FileWord, image_word, schedule_word, guest_file, files_of, IsGood, IsGoodFile, ReachesIn, Reaches, FileFails, FailsAmong, WasRead, last_name, IsGuest, AreGuests, AsksFor}
use Rattle.radix_top.specs.Devices.{DevicesSeen}
use Rattle.radix_top.specs.Causes.{HasCause, fault_line}
use Rattle.radix_top.specs.Calls.{BenchSeen, Says, WasNotRun, WasRefused}
use Rattle.radix_top.specs.Printed.{PrintsAs, FailsToOpen}
use Rattle.radix_top.specs.Prepared.{IsReady}
use Rattle.radix_top.proofs.Files.{weaker}

-- a file that a command comes to read and that fails is the cause
at_file : (m : FilesSeen) (words : List Text) (windows : List Window) (f : FileWord) (r : Refusal) → Reaches m words f → FileFails m f r → HasCause m words windows r
at_file m words windows f (refusals.Usage place) reaches fails = absurd fails
at_file m words windows f (refusals.ReadFault place) reaches fails = record { file = f; reaches = reaches; fails = fails }
at_file m words windows f (refusals.TooLong place) reaches fails = record { file = f; reaches = reaches; fails = fails }
at_file m words windows f (refusals.BadImage fault) reaches fails = record { file = f; reaches = reaches; fails = fails }
at_file m words windows f (refusals.BadSchedule place) reaches fails = record { file = f; reaches = reaches; fails = fails }
at_file m words windows f (refusals.BadAsm line kind) reaches fails = record { file = f; reaches = reaches; fails = fails }
at_file m words windows f (refusals.BadPlace range other) reaches fails = absurd fails
at_file m words windows f (refusals.BadDevice number reason) reaches fails = absurd fails
at_file m words windows f refusals.Memory reaches fails = tt

-- one of a command's files is the cause, or memory ran out
pub fails_cause : (m : FilesSeen) (words : List Text) (windows : List Window) (command : Command) (r : Refusal) → command_of words ≡ Ok command → FailsAmong m (files_of words command) r → HasCause m words windows r
fails_cause m words windows command r is (inl memory) = subst (HasCause m words windows) (sym memory) tt
fails_cause m words windows command r is (inr fails) = at_file m words windows fails.0 r (record { command = command; is_command = is; reaches = fails.1 }) fails.2

-- the first of some files fails
pub first_fails : (m : FilesSeen) (f : FileWord) (files : List FileWord) (r : Refusal) → FileFails m f r → FailsAmong m (f ∷ files) r
first_fails m f files r fails = inr (f, inl refl, fails)

-- one behind a good one fails
pub later_fails : (m : FilesSeen) (f : FileWord) (files : List FileWord) (r : Refusal) → IsGoodFile m f → FailsAmong m files r → FailsAmong m (f ∷ files) r
later_fails m f files r good (inl memory) = inl memory
later_fails m f files r good (inr fails) = inr (fails.0, inr (good, fails.1), fails.2)

-- a file that was read as an image, a schedule or a guest is good
pub good_image : (m : FilesSeen) (words : List Text) (image : Image) → IfSome (m.told (word_at words 1)) (λ bytes. (length bytes ≤ most) × IsImage bytes image) → IsGoodFile m (image_word words)
good_image m words image good = weaker (m.told (word_at words 1)) (λ bytes. (length bytes ≤ most) × IsImage bytes image) _ (λ bytes here. (here.0, (image, here.1))) good

pub good_schedule : (m : FilesSeen) (words : List Text) (plan : Plan) → IfSome (m.told (word_at words 2)) (λ bytes. (length bytes ≤ most) × (plan_of bytes ≡ Ok plan)) → IsGoodFile m (schedule_word words)
good_schedule m words plan good = weaker (m.told (word_at words 2)) (λ bytes. (length bytes ≤ most) × (plan_of bytes ≡ Ok plan)) _ (λ bytes here. (here.0, (plan, here.1))) good

pub good_guest : (m : FilesSeen) (words : List Text) (g : GuestWord) (h : Guest) → IsGuest m words g h → IsGoodFile m (guest_file words g)
good_guest m words g h guest = weaker (m.told (guest_name words g)) (λ bytes. (length bytes ≤ most) × (h.bytes ≡ bytes)) _ (λ bytes here. (here.0, tt)) guest.1

pub told_first : (told told' : List ℕ → Option (List ℕ)) (name : List ℕ) (P : List ℕ → Type 0) → told' name ≡ told name → IfSome (told' name) P → IfSome (told name) P
told_first told told' name P same h = rw same at h

-- what a later call of the files says, said of them all
pub fails_later : (told told' : List ℕ → Option (List ℕ)) (first mid last : ℕ) (asked : Option Asked) (f : FileWord) (r : Refusal) → ((n : List ℕ) → told' n ≡ told n) → first ≤ mid →
    FileFails (met told' mid last asked) f r → FileFails (met told first last asked) f r
fails_later told told' first mid last asked f (refusals.Usage place) same le fails = fails
fails_later told told' first mid last asked f (refusals.ReadFault place) same le fails = (fails.0, (rose_then first mid last le fails.1.0, fails.1.1))
fails_later told told' first mid last asked f (refusals.TooLong place) same le fails =
    (fails.0, (fails.1.0, told_first told told' f.name (λ bytes. most < length bytes) (same f.name) fails.1.1))
fails_later told told' first mid last asked f (refusals.BadImage fault) same le fails =
    (fails.0, fails.1, (fails.2.0, told_first told told' f.name (λ bytes. (length bytes ≤ most) × IsImageFault bytes fault) (same f.name) fails.2.1))
fails_later told told' first mid last asked f (refusals.BadSchedule place) same le fails =
    (fails.0, (fails.1.0, told_first told told' f.name (λ bytes. (length bytes ≤ most) × (plan_of bytes ≡ _)) (same f.name) fails.1.1))
fails_later told told' first mid last asked f (refusals.BadAsm line kind) same le fails =
    (fails.0, (fails.1.0, told_first told told' f.name (λ bytes. (length bytes ≤ most) × (assembled bytes ≡ _)) (same f.name) fails.1.1))
fails_later told told' first mid last asked f (refusals.BadPlace range other) same le fails = fails
fails_later told told' first mid last asked f (refusals.BadDevice number reason) same le fails = fails
fails_later told told' first mid last asked f refusals.Memory same le fails = tt

reaches_later : (told told' : List ℕ → Option (List ℕ)) (first mid last : ℕ) (asked : Option Asked) (files : List FileWord) (f : FileWord) → ((n : List ℕ) → told' n ≡ told n) →
    ReachesIn (met told' mid last asked) files f → ReachesIn (met told first last asked) files f
reaches_later told told' first mid last asked [] f same reaches = reaches
reaches_later told told' first mid last asked (g ∷ gs) f same (inl is) = inl is
reaches_later told told' first mid last asked (g ∷ gs) f same (inr later) =
    inr (told_first told told' g.name (λ bytes. (length bytes ≤ most) × IsGood g.kind bytes) (same g.name) later.0, reaches_later told told' first mid last asked gs f same later.1)

-- the same of several files
pub among_later : (told told' : List ℕ → Option (List ℕ)) (first mid last : ℕ) (asked : Option Asked) (files : List FileWord) (r : Refusal) → ((n : List ℕ) → told' n ≡ told n) → first ≤ mid →
    FailsAmong (met told' mid last asked) files r → FailsAmong (met told first last asked) files r
among_later told told' first mid last asked files r same le (inl memory) = inl memory
among_later told told' first mid last asked files r same le (inr fails) =
    inr (fails.0, reaches_later told told' first mid last asked files fails.0 same fails.1, fails_later told told' first mid last asked fails.0 r same le fails.2)

-- guests that a later call read
pub guests_later : (told told' : List ℕ → Option (List ℕ)) (first mid last : ℕ) (asked : Option Asked) (words : List Text) (gs : List GuestWord) (hs : List Guest) → ((n : List ℕ) → told' n ≡ told n) →
    AreGuests (met told' mid last asked) words gs hs → AreGuests (met told first last asked) words gs hs
guests_later told told' first mid last asked words [] [] same are = tt
guests_later told told' first mid last asked words [] (h ∷ hs) same are = are
guests_later told told' first mid last asked words (g ∷ gs) [] same are = are
guests_later told told' first mid last asked words (g ∷ gs) (h ∷ hs) same are =
    ((are.0.0, told_first told told' (guest_name words g) (λ bytes. (length bytes ≤ most) × (h.bytes ≡ bytes)) (same (guest_name words g)) are.0.1), guests_later told told' first mid last asked words gs hs same are.1)

-- a guest and those behind it
pub guests_ok : {X : Type 0} (r : Result X Refusal) (told told' : List ℕ → Option (List ℕ)) (first mid last : ℕ) (asked asked' : Option Asked) (words : List Text) (gws : List GuestWord) (d : GuestWord) (h : Guest) (old between new : List Guest) →
    0 < length gws → ((n : List ℕ) → told' n ≡ told n) → IsGuest (met told first mid asked') words (get_or gws 0 d) h → between ≡ old ++ h ∷ [] →
    OnOk r ((more : List Guest) × (new ≡ between ++ more) × AreGuests (met told' mid last asked) words (take (length gws - 1) (drop 1 gws)) more) →
    OnOk r ((more : List Guest) × (new ≡ old ++ more) × AreGuests (met told first last asked) words gws more)
guests_ok r told told' first mid last asked asked' words [] d h old between new some same guest pushed rest = absurd (omega arith)
guests_ok (Err e) told told' first mid last asked asked' words (g ∷ gs) d h old between new some same guest pushed rest = rest
guests_ok (Ok x) told told' first mid last asked asked' words (g ∷ gs) d h old between new some same guest pushed rest =
    let behind : AreGuests (met told' mid last asked) words gs rest.0 = subst (λ (l : List GuestWord). AreGuests (met told' mid last asked) words l rest.0) (take_rest (g ∷ gs) 1) rest.2 in
    let whole : new ≡ old ++ h ∷ rest.0 = rest.1 ∙ ap (λ (l : List Guest). l ++ rest.0) pushed ∙ append_assoc old (h ∷ []) rest.0 in
    (h ∷ rest.0, whole, (guest, guests_later told told' first mid last asked words gs rest.0 same behind))

-- one of the guests behind a good one fails
pub guests_err : {X : Type 0} (r : Result X Refusal) (told told' : List ℕ → Option (List ℕ)) (first mid last : ℕ) (asked asked' : Option Asked) (words : List Text) (gws : List GuestWord) (d : GuestWord) (h : Guest) →
    0 < length gws → ((n : List ℕ) → told' n ≡ told n) → first ≤ mid → IsGuest (met told first mid asked') words (get_or gws 0 d) h →
    IfErr r (FailsAmong (met told' mid last asked) (map (guest_file words) (take (length gws - 1) (drop 1 gws)))) →
    IfErr r (FailsAmong (met told first last asked) (map (guest_file words) gws))
guests_err r told told' first mid last asked asked' words [] d h some same le guest fails = absurd (omega arith)
guests_err (Ok x) told told' first mid last asked asked' words (g ∷ gs) d h some same le guest fails = fails
guests_err (Err r) told told' first mid last asked asked' words (g ∷ gs) d h some same le guest fails =
    let behind : FailsAmong (met told' mid last asked) (map (guest_file words) gs) r = subst (λ (l : List GuestWord). FailsAmong (met told' mid last asked) (map (guest_file words) l) r) (take_rest (g ∷ gs) 1) fails in
    let good : IsGoodFile (met told first last asked) (guest_file words g) = good_guest (met told first last asked) words g h guest in
    later_fails (met told first last asked) (guest_file words g) (map (guest_file words) gs) r good (among_later told told' first mid last asked (map (guest_file words) gs) r same le behind)

-- the schedule of a run fails, or one of its guests
pub schedule_fails : (told told' : List ℕ → Option (List ℕ)) (first mid last : ℕ) (asked : Option Asked) (words : List Text) (count : ℕ) (options : Options) (image : Image) (r : Refusal) → ((n : List ℕ) → told' n ≡ told n) → first ≤ mid →
    IfSome (told (word_at words 1)) (λ bytes. (length bytes ≤ most) × IsImage bytes image) → FileFails (met told' mid last asked) (schedule_word words) r → FailsAmong (met told first last asked) (files_of words (Run count options)) r
schedule_fails told told' first mid last asked words count options image r same le good fails =
    later_fails (met told first last asked) (image_word words) (schedule_word words ∷ map (guest_file words) options.guests) r (good_image (met told first last asked) words image good)
    (first_fails (met told first last asked) (schedule_word words) (map (guest_file words) options.guests) r (fails_later told told' first mid last asked (schedule_word words) r same le fails))

pub guests_fail : (told told' told'' : List ℕ → Option (List ℕ)) (first mid later last : ℕ) (asked : Option Asked) (words : List Text) (count : ℕ) (options : Options) (gws : List GuestWord) (image : Image) (plan : Plan) (r : Refusal) → gws ≡ options.guests →
    ((n : List ℕ) → told' n ≡ told n) → ((n : List ℕ) → told'' n ≡ told' n) → first ≤ mid → mid ≤ later →
    IfSome (told (word_at words 1)) (λ bytes. (length bytes ≤ most) × IsImage bytes image) → IfSome (told' (word_at words 2)) (λ bytes. (length bytes ≤ most) × (plan_of bytes ≡ Ok plan)) →
    FailsAmong (met told'' later last asked) (map (guest_file words) gws) r → FailsAmong (met told first last asked) (files_of words (Run count options)) r
guests_fail told told' told'' first mid later last asked words count options gws image plan r are same same' le le' good good' fails =
    let m = met told first last asked in
    let schedule = told_first told told' (word_at words 2) (λ bytes. (length bytes ≤ most) × (plan_of bytes ≡ Ok plan)) (same (word_at words 2)) good' in
    later_fails m (image_word words) (schedule_word words ∷ map (guest_file words) options.guests) r (good_image m words image good)
    (later_fails m (schedule_word words) (map (guest_file words) options.guests) r (good_schedule m words plan schedule)
    (among_later told told'' first later last asked (map (guest_file words) options.guests) r (λ n. same' n ∙ same n) (omega (arith, le, le')) (subst (λ (l : List GuestWord). FailsAmong (met told'' later last asked) (map (guest_file words) l) r) are fails)))

-- a run whose files were read
pub ready_run : (told told' told'' : List ℕ → Option (List ℕ)) (first later last : ℕ) (asked : Option Asked) (words : List Text) (count : ℕ) (options : Options) (gws : List GuestWord) (image : Image) (plan : Plan) (none guests : List Guest) → gws ≡ options.guests →
    ((n : List ℕ) → told' n ≡ told n) → ((n : List ℕ) → told'' n ≡ told' n) → command_of words ≡ Ok (Run count options) → count ≤ 1048576 →
    IfSome (told (word_at words 1)) (λ bytes. (length bytes ≤ most) × IsImage bytes image) → IfSome (told' (word_at words 2)) (λ bytes. (length bytes ≤ most) × (plan_of bytes ≡ Ok plan)) → plan.threads ≡ 1 →
    none ≡ [] → ((more : List Guest) × (guests ≡ none ++ more) × AreGuests (met told'' later last asked) words gws more) → WasRead (met told first last asked) (last_name (word_at words 2) words gws) →
    IsReady (met told first last asked) words (record { count = count; options = options; image = image; schedule = plan; guests = guests })
ready_run told told' told'' first later last asked words count options gws image plan none guests are same same' command few good good' one empty read last_read =
    let all : guests ≡ read.0 = read.1 ∙ ap (λ (l : List Guest). l ++ read.0) empty in
    record {
      command = command;
      few = few;
      image = good;
      schedule = told_first told told' (word_at words 2) (λ bytes. (length bytes ≤ most) × (plan_of bytes ≡ Ok plan)) (same (word_at words 2)) good';
      one = one;
      guests = subst (λ (l : List GuestWord). AreGuests (met told first last asked) words l guests) are (subst (AreGuests (met told first last asked) words gws) (sym all) (guests_later told told'' first later last asked words gws read.0 (λ n. same' n ∙ same n) read.2));
      last_read = subst (λ (l : List GuestWord). WasRead (met told first last asked) (last_name (word_at words 2) words l)) are last_read;
    }

-- an image that is not opened with devices of these windows is the cause, where it is what the words ask for
pub opening_cause : (m : FilesSeen) (words : List Text) (windows : List Window) (asks : AsksFor m words) (r : Refusal) → FailsToOpen asks.image asks.guests windows r → HasCause m words windows r
opening_cause m words windows asks (refusals.BadPlace range other) fails = record { asks = asks; place = fails }
opening_cause m words windows asks (refusals.BadDevice number reason) fails = record { asks = asks; place = fails.0; device = fails.1 }
opening_cause m words windows asks refusals.Memory fails = tt
opening_cause m words windows asks (refusals.Usage place) fails = absurd fails
opening_cause m words windows asks (refusals.ReadFault place) fails = absurd fails
opening_cause m words windows asks (refusals.TooLong place) fails = absurd fails
opening_cause m words windows asks (refusals.BadImage fault) fails = absurd fails
opening_cause m words windows asks (refusals.BadSchedule place) fails = absurd fails
opening_cause m words windows asks (refusals.BadAsm line kind) fails = absurd fails

says_line : {D : Type 0} (m : FilesSeen) (words : List Text) (d : DevicesSeen D) (left : BenchSeen D) (f f' : ℕ) (old new : Option (List ℕ)) (r : Refusal) → WasRefused m words d left old new r → Says m words d left f f' old new (refused_status r)
says_line m words d left f f' old new (refusals.Usage place) is = is
says_line m words d left f f' old new (refusals.ReadFault place) is = is
says_line m words d left f f' old new (refusals.TooLong place) is = is
says_line m words d left f f' old new (refusals.BadImage fault) is = is
says_line m words d left f f' old new (refusals.BadSchedule place) is = is
says_line m words d left f f' old new (refusals.BadAsm line kind) is = is
says_line m words d left f f' old new (refusals.BadPlace range other) is = is
says_line m words d left f f' old new (refusals.BadDevice number reason) is = is
says_line m words d left f f' old new refusals.Memory is = is

says_whole : {D : Type 0} (m : FilesSeen) (words : List Text) (d : DevicesSeen D) (left : BenchSeen D) (f f' : ℕ) (old new : Option (List ℕ)) (r : Refusal) (s : Status) → WasNotRun m words d left r →
    (s ≡ refused_status r) × (new ≡ added old (fault_line r)) → Says m words d left f f' old new s
says_whole m words d left f f' old new r s not_run prints =
    subst (Says m words d left f f' old new) (sym prints.0) (says_line m words d left f f' old new r (record { not_run = not_run; printed = prints.1 }))

-- a refusal whose line was printed, or cut short
pub says_refused : {D : Type 0} (m : FilesSeen) (words : List Text) (d : DevicesSeen D) (left : BenchSeen D) (f f' : ℕ) (old new : Option (List ℕ)) (r : Refusal) (s : Status) → WasNotRun m words d left r →
    PrintsAs (refused_status r) (fault_line r) f f' old new s → Says m words d left f f' old new s
says_refused m words d left f f' old new r statuses.WriteFault not_run prints =
    (prints.0, inl (record { refusal = r; not_run = not_run; front = prints.1 }))
says_refused m words d left f f' old new r (statuses.Done e) not_run prints = says_whole m words d left f f' old new r _ not_run prints
says_refused m words d left f f' old new r (statuses.Usage p) not_run prints = says_whole m words d left f f' old new r _ not_run prints
says_refused m words d left f f' old new r (statuses.ReadFault p) not_run prints = says_whole m words d left f f' old new r _ not_run prints
says_refused m words d left f f' old new r (statuses.TooLong p) not_run prints = says_whole m words d left f f' old new r _ not_run prints
says_refused m words d left f f' old new r (statuses.BadImage x) not_run prints = says_whole m words d left f f' old new r _ not_run prints
says_refused m words d left f f' old new r (statuses.BadSchedule p) not_run prints = says_whole m words d left f f' old new r _ not_run prints
says_refused m words d left f f' old new r (statuses.BadAsm line kind) not_run prints = says_whole m words d left f f' old new r _ not_run prints
says_refused m words d left f f' old new r (statuses.BadPlace a b) not_run prints = says_whole m words d left f f' old new r _ not_run prints
says_refused m words d left f f' old new r (statuses.BadDevice i x) not_run prints = says_whole m words d left f f' old new r _ not_run prints
says_refused m words d left f f' old new r statuses.Memory not_run prints = says_whole m words d left f f' old new r _ not_run prints
says_refused m words d left f f' old new r (statuses.Stopped n v) not_run prints = says_whole m words d left f f' old new r _ not_run prints
says_refused m words d left f f' old new r (statuses.JournalFull k c) not_run prints = says_whole m words d left f f' old new r _ not_run prints
