-- Commands that were done.
use Rattle.std.proofs.Common.{◌≡◌, ℕ, List, Option, None, Ok, refl, sym, inr, subst}
use Rattle.outer_io.specs.Outside.{added}
use Rattle.journal_core.specs.declared.rows.Ended.{Ended}
use Rattle.journal_core.specs.declared.rows.Ended.TheVariants as ends
use Rattle.elf_image.specs.declared.image.Image.{Image}
use Rattle.elf_image.specs.IsImage.{IsImage}
use Rattle.report_text.specs.Listing.{listing}
use Rattle.radix_top.specs.declared.command.Command.TheVariants.{Asm, Dis}
use Rattle.radix_top.specs.declared.status.Status.{Status}
use Rattle.radix_top.specs.declared.status.Status.TheVariants as statuses
use Rattle.radix_top.specs.Statuses.{ended_status}
use Rattle.radix_top.specs.Words.{Text, word_at, command_of}
use Rattle.radix_top.specs.Inputs.{FilesSeen, WasReadAs}
use Rattle.radix_top.specs.Devices.{DevicesSeen}
use Rattle.radix_top.specs.Calls.{BenchSeen, leaves, IsAssembled, Made, WasDone, Says}
use Rattle.radix_top.specs.Printed.{PrintsAs}

says_end : {D : Type 0} (m : FilesSeen) (words : List Text) (d : DevicesSeen D) (left : BenchSeen D) (f f' : ℕ) (old new : Option (List ℕ)) (end : Ended) → WasDone m words d left old new end → Says m words d left f f' old new (ended_status end)
says_end m words d left f f' old new ends.AllRun done = done
says_end m words d left f f' old new ends.ScheduleEnd done = done
says_end m words d left f f' old new (ends.Stopped name value) done = done
says_end m words d left f f' old new (ends.JournalFull kind count) done = done

says_whole : {D : Type 0} (m : FilesSeen) (words : List Text) (d : DevicesSeen D) (left : BenchSeen D) (f f' : ℕ) (old new : Option (List ℕ)) (end : Ended) (text : List ℕ) (s : Status) → Made m words d left end text →
    (s ≡ ended_status end) × (new ≡ added old text) → Says m words d left f f' old new s
says_whole m words d left f f' old new end text s made prints =
    subst (Says m words d left f f' old new) (sym prints.0) (says_end m words d left f f' old new end (record { text = text; made = made; printed = prints.1 }))

-- a command whose text was printed, or cut short
pub says_made : {D : Type 0} (m : FilesSeen) (words : List Text) (d : DevicesSeen D) (left : BenchSeen D) (f f' : ℕ) (old new : Option (List ℕ)) (end : Ended) (text : List ℕ) (s : Status) → Made m words d left end text →
    PrintsAs (ended_status end) text f f' old new s → Says m words d left f f' old new s
says_made m words d left f f' old new end text statuses.WriteFault made prints = (prints.0, inr (record { end = end; text = text; made = made; front = prints.1 }))
says_made m words d left f f' old new end text (statuses.Done e) made prints = says_whole m words d left f f' old new end text _ made prints
says_made m words d left f f' old new end text (statuses.Usage p) made prints = says_whole m words d left f f' old new end text _ made prints
says_made m words d left f f' old new end text (statuses.ReadFault p) made prints = says_whole m words d left f f' old new end text _ made prints
says_made m words d left f f' old new end text (statuses.TooLong p) made prints = says_whole m words d left f f' old new end text _ made prints
says_made m words d left f f' old new end text (statuses.BadImage x) made prints = says_whole m words d left f f' old new end text _ made prints
says_made m words d left f f' old new end text (statuses.BadSchedule p) made prints = says_whole m words d left f f' old new end text _ made prints
says_made m words d left f f' old new end text (statuses.BadAsm line kind) made prints = says_whole m words d left f f' old new end text _ made prints
says_made m words d left f f' old new end text (statuses.BadPlace a b) made prints = says_whole m words d left f f' old new end text _ made prints
says_made m words d left f f' old new end text (statuses.BadDevice i x) made prints = says_whole m words d left f f' old new end text _ made prints
says_made m words d left f f' old new end text statuses.Memory made prints = says_whole m words d left f f' old new end text _ made prints
says_made m words d left f f' old new end text (statuses.Stopped n v) made prints = says_whole m words d left f f' old new end text _ made prints
says_made m words d left f f' old new end text (statuses.JournalFull k c) made prints = says_whole m words d left f f' old new end text _ made prints

-- a source whose file was put, or cut short
pub says_assembled : {D : Type 0} (m : FilesSeen) (words : List Text) (d : DevicesSeen D) (left : BenchSeen D) (f f' : ℕ) (old new : Option (List ℕ)) (text : List ℕ) (s : Status) → left ≡ leaves None d.devices → command_of words ≡ Ok Asm →
    IsAssembled m words text → PrintsAs (ended_status ends.AllRun) text f f' old new s → Says m words d left f f' old new s
says_assembled m words d left f f' old new text s same is assembled prints =
    says_made m words d left f f' old new ends.AllRun text s (record { command = Asm; is_command = is; makes = ((same, refl), assembled) }) prints

-- an image whose listing was put, or cut short
pub says_listed : {D : Type 0} (m : FilesSeen) (words : List Text) (d : DevicesSeen D) (left : BenchSeen D) (f f' : ℕ) (old new : Option (List ℕ)) (image : Image) (s : Status) → left ≡ leaves None d.devices → command_of words ≡ Ok Dis →
    WasReadAs m (word_at words 1) (λ bytes. IsImage bytes image) → PrintsAs (ended_status ends.AllRun) (listing image) f f' old new s → Says m words d left f f' old new s
says_listed m words d left f f' old new image s same is read prints =
    says_made m words d left f f' old new ends.AllRun (listing image) s (record { command = Dis; is_command = is; makes = ((same, refl), record { image = image; image_file = read; lines = refl }) }) prints
