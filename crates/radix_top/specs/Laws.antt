-- What follows of calls whose files are good, and of an outside that never fails.
use Rattle.std.specs.Prelude.{◌≡◌, ◌<◌, ◌≤◌, ℕ, List, [], ◌∷◌, length, Option, Some, None, Ok}
use Rattle.journal_core.specs.declared.rows.Ended.TheVariants as ends
use Rattle.ppc_bus.specs.Windows.{Window}
use Rattle.elf_image.specs.declared.image.Image.{Image}
use Rattle.elf_image.specs.IsImage.{IsImage}
use Rattle.elf_image.specs.declared.guests.Guest.{Guest}
use Rattle.elf_image.specs.Places.{bad_place_of}
use Rattle.ppc_asm.specs.Images.{IsSource}
use Rattle.sched_text.specs.Plan.{Plan}
use Rattle.sched_text.specs.Reading.{plan_of}
use Rattle.step_laws.specs.Rows.{surely}
use Rattle.ppc_machine.specs.Plugging.{first_refused}
use Rattle.radix_top.specs.declared.command.Command.TheVariants.{Run, Asm, Dis}
use Rattle.radix_top.specs.declared.guest_words.GuestWord.{GuestWord}
use Rattle.radix_top.specs.declared.command.Options.{Options}
use Rattle.radix_top.specs.declared.status.Status.{Status}
use Rattle.radix_top.specs.declared.status.Status.TheVariants as statuses
use Rattle.radix_top.specs.Words.{Text, word_at, guest_name, command_of}
use Rattle.radix_top.specs.Inputs.{most}
use Rattle.radix_top.specs.Causes.{ram_mib}

-- the bytes of a file are known, and within the bound
abbrev pub IsTold : (List ℕ → Option (List ℕ)) → List ℕ → List ℕ → Type 0
IsTold told name bytes = (told name ≡ Some bytes) × (length bytes ≤ most)

-- the files of guests are known and within the bound, and these are the guests that their words ask for
abbrev pub AreTold : (List ℕ → Option (List ℕ)) → List Text → List GuestWord → List Guest → Type 0
AreTold told words [] [] = Unit {0}
AreTold told words [] (h ∷ hs) = ⊥
AreTold told words (g ∷ gs) [] = ⊥
AreTold told words (g ∷ gs) (h ∷ hs) = (h.at ≡ g.at) × IsTold told (guest_name words g) h.bytes × AreTold told words gs hs

-- the words are a run, the bytes of its files are known, within the bound and good, the image and the guests have their places in
-- RAM, and devices with these windows can be plugged
pub record AcceptsRun (told : List ℕ → Option (List ℕ)) (words : List Text) (windows : List Window) : Type 0 where
  pub count : ℕ
  pub options : Options
  pub is_command : command_of words ≡ Ok (Run count options)
  pub image_bytes : List ℕ
  pub image_told : IsTold told (word_at words 1) image_bytes
  pub image : Image
  pub is_image : IsImage image_bytes image
  pub schedule_bytes : List ℕ
  pub schedule_told : IsTold told (word_at words 2) schedule_bytes
  pub plan : Plan
  pub is_schedule : plan_of schedule_bytes ≡ Ok plan
  pub guests : List Guest
  pub guests_told : AreTold told words options.guests guests
  pub has_place : bad_place_of image guests ram_mib ≡ None
  pub plugged : first_refused 0 [] windows ≡ None

-- a run of so many steps made all of them, or the machine stopped, or its journal had no room for a step, which needs more steps
-- than those that surely have room; or memory or the outside failed
abbrev pub EndsWell : ℕ → Status → Type 0
EndsWell count (statuses.Done ends.AllRun) = Unit {0}
EndsWell count (statuses.Done ends.ScheduleEnd) = ⊥
EndsWell count (statuses.Done (ends.Stopped name value)) = ⊥
EndsWell count (statuses.Done (ends.JournalFull kind rows)) = ⊥
EndsWell count (statuses.Stopped name value) = Unit {0}
EndsWell count (statuses.JournalFull kind rows) = surely < count
EndsWell count statuses.Memory = Unit {0}
EndsWell count (statuses.ReadFault place) = Unit {0}
EndsWell count statuses.WriteFault = Unit {0}
EndsWell count (statuses.Usage place) = ⊥
EndsWell count (statuses.TooLong place) = ⊥
EndsWell count (statuses.BadImage fault) = ⊥
EndsWell count (statuses.BadSchedule place) = ⊥
EndsWell count (statuses.BadAsm line kind) = ⊥
EndsWell count (statuses.BadPlace range other) = ⊥
EndsWell count (statuses.BadDevice number reason) = ⊥

-- the words are asm, and the bytes of the source are known, within the bound and good
pub record AcceptsSource (told : List ℕ → Option (List ℕ)) (words : List Text) : Type 0 where
  pub is_command : command_of words ≡ Ok Asm
  pub bytes : List ℕ
  pub source_told : IsTold told (word_at words 1) bytes
  pub image : Image
  pub is_source : IsSource bytes image

-- the words are dis, and the bytes of the image are known, within the bound and good
pub record AcceptsImage (told : List ℕ → Option (List ℕ)) (words : List Text) : Type 0 where
  pub is_command : command_of words ≡ Ok Dis
  pub bytes : List ℕ
  pub image_told : IsTold told (word_at words 1) bytes
  pub image : Image
  pub is_image : IsImage bytes image

-- the command was done, or memory or the outside failed
abbrev pub EndsDone : Status → Type 0
EndsDone (statuses.Done ends.AllRun) = Unit {0}
EndsDone (statuses.Done ends.ScheduleEnd) = ⊥
EndsDone (statuses.Done (ends.Stopped name value)) = ⊥
EndsDone (statuses.Done (ends.JournalFull kind rows)) = ⊥
EndsDone statuses.Memory = Unit {0}
EndsDone (statuses.ReadFault place) = Unit {0}
EndsDone statuses.WriteFault = Unit {0}
EndsDone (statuses.Stopped name value) = ⊥
EndsDone (statuses.JournalFull kind rows) = ⊥
EndsDone (statuses.Usage place) = ⊥
EndsDone (statuses.TooLong place) = ⊥
EndsDone (statuses.BadImage fault) = ⊥
EndsDone (statuses.BadSchedule place) = ⊥
EndsDone (statuses.BadAsm line kind) = ⊥
EndsDone (statuses.BadPlace range other) = ⊥
EndsDone (statuses.BadDevice number reason) = ⊥

-- no file was not read
abbrev pub NoReadFault : Status → Type 0
NoReadFault (statuses.ReadFault place) = ⊥
NoReadFault _ = Unit {0}

-- no text was cut short
abbrev pub NoWriteFault : Status → Type 0
NoWriteFault statuses.WriteFault = ⊥
NoWriteFault _ = Unit {0}
