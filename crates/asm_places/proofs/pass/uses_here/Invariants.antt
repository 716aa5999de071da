use Rattle.std.proofs.Common.{◌≡◌, length}
use Rattle.asm_places.specs.Sums.{uses_here}
use Rattle.asm_places.proofs.pass.uses_here.Given as goal

-- no term so far is the address
abbrev pub invariant-loop-term : goal.invariant-loop-term
invariant-loop-term l = uses_here l.expression ≡ uses_here l.left

abbrev pub decreases-loop-term : goal.decreases-loop-term
decreases-loop-term l = length l.left
