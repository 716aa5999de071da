use Rattle.std.proofs.Common.{take, length}
use Rattle.asm_places.specs.Adding.{Added}
use Rattle.asm_places.proofs.sum.worth_of.Given as goal

abbrev pub invariant-loop-term : goal.invariant-loop-term
invariant-loop-term l = Added (take l.known l.names) l.here l.initial.left l.left l.sum

abbrev pub decreases-loop-term : goal.decreases-loop-term
decreases-loop-term l = length l.left
