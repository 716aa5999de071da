use Rattle.std.proofs.Common.{◌≡◌, length}
use Rattle.thread_regs.specs.Registers.{reset_from}
use Rattle.thread_regs.proofs.threads.Threads.reset.Given as goal

abbrev pub invariant-loop-number : goal.invariant-loop-number
invariant-loop-number l = record {
  reset : l.items.items ≡ reset_from 0 l.number l.entry;
  count : length l.items.items ≡ l.number;
}
