use Rattle.std.proofs.Common.{◌≡◌, length, take}
use Rattle.elf_image.specs.Grammar.{loads_from}
use Rattle.elf_image.proofs.table.read_loads.Given as goal

abbrev pub invariant-loop-number : goal.invariant-loop-number
invariant-loop-number l = record {
  long : length l.loads ≡ 64;
  same : take l.number l.loads ≡ loads_from l.bytes l.table l.number;
}
