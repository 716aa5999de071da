-- What the program answers. No contract knows the bytes of its files and its output, so this speaks of the words, the
-- faults, the devices, the machine and its run.
use Rattle.std.specs.Prelude.{◌≡◌, ◌⊎◌, ℕ, List, [], length, Option, None, Some, Result, Ok, Err}
use Rattle.outer_io.specs.Outside.{Asked}
use Rattle.radix_top.specs.declared.status.Status.{Status}
use Rattle.radix_top.specs.declared.status.Status.TheVariants.{WriteFault, Memory}
use Rattle.radix_top.specs.declared.command.Command.{Command}
use Rattle.radix_top.specs.Words.{Text, command_of}
use Rattle.radix_top.specs.Inputs.{met}
use Rattle.ppc_machine.specs.declared.plugging.PluggedOf.{PluggedOf}
use Rattle.radix_top.specs.Devices.{DevicesSeen}
use Rattle.radix_top.specs.Calls.{BenchSeen, Says}
use Rattle.radix.specs.declared.information.Information.{Information}
use Rattle.radix.specs.Exits.{exit_of}
use Rattle.radix.specs.Standard.{AreStandard}
use Rattle.radix.specs.Views.{DeviceView, seen}

-- the devices are the standard ones, or none, where there was no memory for them
abbrev pub WereHanded : {D : Type 0} → DevicesSeen D → Status → Type 0
WereHanded d status = AreStandard d ⊎ ((d.devices ≡ []) × ((status ≡ Memory) ⊎ (status ≡ WriteFault)))

-- the status is the one that the words ask for, at some files, with the devices that were handed in, what was left in the bench
-- and the faults of the output
pub record Answers (words : List Text) (status : Status) : Type 0 where
  pub devices : List (PluggedOf DeviceView)
  pub were_handed : WereHanded (seen devices) status
  pub file_faults : ℕ
  pub last : Option Asked
  pub left : BenchSeen DeviceView
  pub faults_before : ℕ
  pub faults_after : ℕ
  pub says : Says (met (λ _. None) 0 file_faults last) words (seen devices) left faults_before faults_after None None status

-- the exit status of the words: that of an answer, or for words about the program itself 0, or 11 where the output failed
abbrev pub Exits : Option Information → List Text → ℕ → Type 0
Exits None words code = (status : Status) × Answers words status × (code ≡ exit_of status)
Exits (Some _) words code = (code ≡ 0) ⊎ (code ≡ exit_of WriteFault)

-- where a line of this many words goes wrong whose next word is not UTF-8 text: at an earlier word, or at that one
abbrev pub wrong_by : ℕ → Result Command ℕ → ℕ
wrong_by count (Ok command) = count
wrong_by count (Err place) = place

-- the first wrong word of a line whose words up to one that is not UTF-8 text are these
abbrev pub first_wrong : List Text → ℕ
first_wrong words = wrong_by (length words) (command_of words)
