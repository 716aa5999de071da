use Rattle.std.proofs.Common.{◌≡◌, take, None}
use Rattle.std.specs.List.{position_from}
use Rattle.elf_image.specs.Grammar.{meets_load}
use Rattle.elf_image.proofs.table.first_meeting.Given as goal

abbrev pub invariant-loop-number : goal.invariant-loop-number
invariant-loop-number l = position_from (meets_load l.one) 0 (take l.number l.loads) ≡ None
