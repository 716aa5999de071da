use Rattle.std.proofs.Common.{◌≡◌, ◌++◌, length, take, drop}
use Rattle.interrupts.specs.Clock.{all_ticked}
use Rattle.interrupts.proofs.clock.tick.Given as goal

-- the first threads have ticked, the others have not
abbrev pub invariant-loop-number : goal.invariant-loop-number
invariant-loop-number l = record {
  threads : l.threads ≡ all_ticked (take l.number l.fn.threads) ++ drop l.number l.fn.threads;
  count : length l.threads ≡ length l.fn.threads;
}
