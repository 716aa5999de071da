-- What a command has that read its files.
use Rattle.std.specs.Prelude.{◌≡◌, ◌≤◌, List, length, IfSome, Ok}
use Rattle.elf_image.specs.IsImage.{IsImage}
use Rattle.sched_text.specs.Reading.{plan_of}
use Rattle.radix_top.specs.declared.command.Command.TheVariants.{Run, Asm, Dis}
use Rattle.radix_top.specs.declared.inputs.RunInputs.{RunInputs}
use Rattle.radix_top.specs.declared.inputs.Prepared.{Prepared}
use Rattle.radix_top.specs.declared.inputs.Prepared.TheVariants as prepared
use Rattle.radix_top.specs.Words.{Text, word_at, command_of}
use Rattle.radix_top.specs.Inputs.{FilesSeen, most, WasRead, WasReadAs, AreGuests, last_name}
use Rattle.radix_top.specs.Calls.{IsAssembled}

-- what a run has is what the words ask for
pub record IsReady (m : FilesSeen) (words : List Text) (ready : RunInputs) : Type 0 where
  pub command : command_of words ≡ Ok (Run ready.count ready.options)
  pub few : ready.count ≤ 1048576
  pub image : IfSome (m.told (word_at words 1)) (λ bytes. (length bytes ≤ most) × IsImage bytes ready.image)
  pub schedule : IfSome (m.told (word_at words 2)) (λ bytes. (length bytes ≤ most) × (plan_of bytes ≡ Ok ready.schedule))
  pub one : ready.schedule.threads ≡ 1
  pub guests : AreGuests m words ready.options.guests ready.guests
  pub last_read : WasRead m (last_name (word_at words 2) words ready.options.guests)

-- the same of each command
abbrev pub IsPrepared : FilesSeen → List Text → Prepared → Type 0
IsPrepared m words (prepared.Run ready) = IsReady m words ready
IsPrepared m words (prepared.File bytes) = (command_of words ≡ Ok Asm) × IsAssembled m words bytes
IsPrepared m words (prepared.Listing image) = (command_of words ≡ Ok Dis) × WasReadAs m (word_at words 1) (λ bytes. IsImage bytes image)
