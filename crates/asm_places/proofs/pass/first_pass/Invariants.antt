use Rattle.std.proofs.Common.{length}
use Rattle.asm_places.proofs.Within.{IsAlong}
use Rattle.asm_places.proofs.pass.first_pass.Given as goal

abbrev pub invariant-loop-rest : goal.invariant-loop-rest
invariant-loop-rest l = IsAlong l.bytes l.rest l.number l.places

abbrev pub decreases-loop-rest : goal.decreases-loop-rest
decreases-loop-rest l = length l.rest
