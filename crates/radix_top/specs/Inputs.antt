-- The files that a command reads, in the order in which it reads them.
use Rattle.std.specs.Prelude.{◌≡◌, ◌≢◌, ◌⊎◌, ◌<◌, ◌≤◌, ℕ, List, [], ◌∷◌, length, map, Option, Some, IfSome, Ok, Err}
use Rattle.outer_io.specs.Outside.{Asked, CountRose}
use Rattle.outer_io.specs.declared.files.Answer.{Answer}
use Rattle.outer_io.specs.declared.files.Answer.TheVariants as answers
use Rattle.elf_image.specs.declared.fault.ElfFault.TheVariants as elf_faults
use Rattle.elf_image.specs.declared.image.Image.{Image}
use Rattle.elf_image.specs.declared.guests.Guest.{Guest}
use Rattle.elf_image.specs.IsImage.{IsImage, IsImageFault}
use Rattle.asm_places.specs.declared.fault.AsmFault.TheVariants as asm_faults
use Rattle.ppc_asm.specs.Images.{IsSource, assembled}
use Rattle.sched_text.specs.Plan.{Plan}
use Rattle.sched_text.specs.Reading.{plan_of}
use Rattle.radix_top.specs.declared.command.Command.{Command}
use Rattle.radix_top.specs.declared.command.Command.TheVariants.{Run, Asm, Dis}
use Rattle.radix_top.specs.declared.guest_words.GuestWord.{GuestWord}
use Rattle.radix_top.specs.declared.command.Options.{Options}
use Rattle.radix_top.specs.declared.status.Refusal.{Refusal}
use Rattle.radix_top.specs.declared.status.Refusal.TheVariants as refusals
use Rattle.radix_top.specs.Words.{Text, word_at, guest_name, command_of}

-- the most bytes of a file: 64 MiB
abbrev pub most : ℕ
most = 67108864

-- what a file is read as
pub data FileKind : Type 0 where
  ImageFile : FileKind
  ScheduleFile : FileKind
  SourceFile : FileKind
  GuestFile : FileKind

-- a file that a word names: the word's number, the name, and what it is read as
pub record FileWord : Type 0 where
  pub place : ℕ
  pub name : List ℕ
  pub kind : FileKind

abbrev pub image_word : List Text → FileWord
image_word words = record { place = 1; name = word_at words 1; kind = ImageFile }

abbrev pub schedule_word : List Text → FileWord
schedule_word words = record { place = 2; name = word_at words 2; kind = ScheduleFile }

abbrev pub source_word : List Text → FileWord
source_word words = record { place = 1; name = word_at words 1; kind = SourceFile }

abbrev pub guest_file : List Text → GuestWord → FileWord
guest_file words g = record { place = g.place; name = guest_name words g; kind = GuestFile }

-- the files of a command, in order
abbrev pub files_of : List Text → Command → List FileWord
files_of words (Run count options) = image_word words ∷ schedule_word words ∷ map (guest_file words) options.guests
files_of words Asm = source_word words ∷ []
files_of words Dis = image_word words ∷ []

-- the bytes are good for what they are read as; those of a guest always are
abbrev pub IsGood : FileKind → List ℕ → Type 0
IsGood ImageFile bytes = (image : Image) × IsImage bytes image
IsGood ScheduleFile bytes = (plan : Plan) × (plan_of bytes ≡ Ok plan)
IsGood SourceFile bytes = (image : Image) × IsSource bytes image
IsGood GuestFile bytes = Unit {0}

-- what a call met of the files: the bytes by name, the count of faults before and after, and the last call
pub record FilesSeen : Type 0 where
  pub told : List ℕ → Option (List ℕ)
  pub before : ℕ
  pub after : ℕ
  pub last : Option Asked

abbrev pub met : (List ℕ → Option (List ℕ)) → ℕ → ℕ → Option Asked → FilesSeen
met told before after last = record { told = told; before = before; after = after; last = last }

-- the file is within the bound and good, as far as its bytes are known
abbrev pub IsGoodFile : FilesSeen → FileWord → Type 0
IsGoodFile m f = IfSome (m.told f.name) (λ bytes. (length bytes ≤ most) × IsGood f.kind bytes)

-- the file stands in the list, and each one before it is good
abbrev pub ReachesIn : FilesSeen → List FileWord → FileWord → Type 0
ReachesIn m [] f = ⊥
ReachesIn m (g ∷ gs) f = (f ≡ g) ⊎ (IsGoodFile m g × ReachesIn m gs f)

-- the words are a command, and it comes to read the file
pub record Reaches (m : FilesSeen) (words : List Text) (f : FileWord) : Type 0 where
  pub command : Command
  pub is_command : command_of words ≡ Ok command
  pub reaches : ReachesIn m (files_of words command) f

-- the last call was for this name, within the bound, and was answered so
abbrev pub asked : List ℕ → Answer → Asked
asked name answer = record { name = name; max = most; answer = answer }

-- the file was the last that was read
abbrev pub WasRead : FilesSeen → List ℕ → Type 0
WasRead m name = m.last ≡ Some (asked name answers.Read)

-- the outside failed in this call, at this file
abbrev pub FailedToRead : FilesSeen → List ℕ → Type 0
FailedToRead m name = CountRose m.before m.after × (m.last ≡ Some (asked name answers.Failed))

-- the file is longer than the bound
abbrev pub WasTooLong : FilesSeen → List ℕ → Type 0
WasTooLong m name = (m.last ≡ Some (asked name answers.TooLong)) × IfSome (m.told name) (λ bytes. most < length bytes)

-- the file was read, and its bytes, as far as they are known, are within the bound and as P says
abbrev pub WasReadAs : FilesSeen → List ℕ → (List ℕ → Type 0) → Type 0
WasReadAs m name P = WasRead m name × IfSome (m.told name) (λ bytes. (length bytes ≤ most) × P bytes)

-- the file is what a guest's word asks for: its bytes, as far as they are known, at the word's address
abbrev pub IsGuest : FilesSeen → List Text → GuestWord → Guest → Type 0
IsGuest m words g h = (h.at ≡ g.at) × IfSome (m.told (guest_name words g)) (λ bytes. (length bytes ≤ most) × (h.bytes ≡ bytes))

-- the same of all guests, in order
abbrev pub AreGuests : FilesSeen → List Text → List GuestWord → List Guest → Type 0
AreGuests m words [] [] = Unit {0}
AreGuests m words [] (h ∷ hs) = ⊥
AreGuests m words (g ∷ gs) [] = ⊥
AreGuests m words (g ∷ gs) (h ∷ hs) = IsGuest m words g h × AreGuests m words gs hs

-- the name of the last of some guests, or another where there are none
abbrev pub last_name : List ℕ → List Text → List GuestWord → List ℕ
last_name name words [] = name
last_name name words (g ∷ gs) = last_name (guest_name words g) words gs

-- What the words of a run ask for: the count and the options, and the image, the schedule and the guests that its files are, as far
-- as their bytes are known. The last of them was read.
pub record AsksFor (m : FilesSeen) (words : List Text) : Type 0 where
  pub count : ℕ
  pub options : Options
  pub image : Image
  pub plan : Plan
  pub guests : List Guest
  pub is_command : command_of words ≡ Ok (Run count options)
  pub image_file : IfSome (m.told (word_at words 1)) (λ bytes. (length bytes ≤ most) × IsImage bytes image)
  pub schedule_file : IfSome (m.told (word_at words 2)) (λ bytes. (length bytes ≤ most) × (plan_of bytes ≡ Ok plan))
  pub guest_files : AreGuests m words options.guests guests
  pub last_read : WasRead m (last_name (word_at words 2) words options.guests)

-- what a refusal says of the file that it is about
abbrev pub FileFails : FilesSeen → FileWord → Refusal → Type 0
FileFails m f (refusals.ReadFault place) = (place ≡ f.place) × FailedToRead m f.name
FileFails m f (refusals.TooLong place) = (place ≡ f.place) × WasTooLong m f.name
FileFails m f (refusals.BadImage fault) = (f.kind ≡ ImageFile) × (fault ≢ elf_faults.Memory) × WasReadAs m f.name (λ bytes. IsImageFault bytes fault)
FileFails m f (refusals.BadSchedule place) = (f.kind ≡ ScheduleFile) × WasReadAs m f.name (λ bytes. plan_of bytes ≡ Err place)
FileFails m f (refusals.BadAsm line kind) = (f.kind ≡ SourceFile) × WasReadAs m f.name (λ bytes. assembled bytes ≡ Err (asm_faults.At line kind))
FileFails m f refusals.Memory = Unit {0}
FileFails m f (refusals.Usage place) = ⊥
FileFails m f (refusals.BadPlace range other) = ⊥
FileFails m f (refusals.BadDevice number reason) = ⊥

-- one of these files fails, and those before it are good; that memory ran out says nothing of a file
abbrev pub FailsAmong : FilesSeen → List FileWord → Refusal → Type 0
FailsAmong m files r = (r ≡ refusals.Memory) ⊎ ((f : FileWord) × ReachesIn m files f × FileFails m f r)
