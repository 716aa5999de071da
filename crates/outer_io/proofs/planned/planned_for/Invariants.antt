use Rattle.std.proofs.Common.{◌≡◌, take}
use Rattle.outer_io.specs.MemorySink.{plan_for}
use Rattle.outer_io.proofs.planned.planned_for.Given as goal

abbrev pub invariant-loop-fault : goal.invariant-loop-fault
invariant-loop-fault l = l.found ≡ plan_for (take l.fault-index l.planned) l.call
