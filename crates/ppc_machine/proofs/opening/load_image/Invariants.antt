use Rattle.std.proofs.Common.{◌≡◌, ◌*◌, length, take}
use Rattle.elf_image.specs.Start as starts
use Rattle.ppc_machine.proofs.opening.load_image.Given as goal

-- the first segments lie in RAM as it was
abbrev pub invariant-loop-segment : goal.invariant-loop-segment
invariant-loop-segment l = record {
  ram : l.store.ram ≡ starts.loaded l.fn.store.ram (take l.segment-index l.segment-items);
  size : length l.store.ram ≡ l.ram_mib * 1048576;
}
