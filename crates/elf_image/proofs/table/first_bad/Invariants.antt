use Rattle.std.proofs.Common.{◌≡◌, take, None}
use Rattle.std.specs.List.{position_from}
use Rattle.elf_image.specs.Grammar.{is_bad}
use Rattle.elf_image.proofs.table.first_bad.Given as goal

abbrev pub invariant-loop-number : goal.invariant-loop-number
invariant-loop-number l = position_from (is_bad l.len) 0 (take l.number l.loads) ≡ None
