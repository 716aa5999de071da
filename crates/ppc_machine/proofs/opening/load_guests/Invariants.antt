use Rattle.std.proofs.Common.{◌≡◌, ◌*◌, length, take}
use Rattle.elf_image.specs.Start as starts
use Rattle.ppc_machine.proofs.opening.load_guests.Given as goal

-- the first guests lie in RAM as it was
abbrev pub invariant-loop-guest : goal.invariant-loop-guest
invariant-loop-guest l = record {
  ram : l.store.ram ≡ starts.with_guests l.fn.store.ram (take l.guest-index l.guest-items);
  size : length l.store.ram ≡ l.ram_mib * 1048576;
}
