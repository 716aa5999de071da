-- The exit status of the program.
use Rattle.std.specs.Prelude.{ℕ}
use Rattle.radix_top.specs.declared.status.Status.{Status}
use Rattle.radix_top.specs.declared.status.Status.TheVariants.{Done, Usage, ReadFault, TooLong, BadImage, BadSchedule, BadAsm, BadPlace, BadDevice, WriteFault, Memory, Stopped, JournalFull}

-- by how the call ended
abbrev pub exit_of : Status → ℕ
exit_of (Done _) = 0
exit_of (Usage _) = 2
exit_of (ReadFault _) = 3
exit_of (TooLong _) = 4
exit_of (BadImage _) = 5
exit_of (BadSchedule _) = 6
exit_of (BadAsm _ _) = 7
exit_of (BadPlace _ _) = 10
exit_of WriteFault = 11
exit_of Memory = 12
exit_of (Stopped _ _) = 13
exit_of (JournalFull _ _) = 14
exit_of (BadDevice _ _) = 16
