use Rattle.std.proofs.Common.{length}
use Rattle.ppc_asm.proofs.Lines.{IsFilled}
use Rattle.ppc_asm.proofs.second.second_pass.Given as goal

abbrev pub invariant-loop-rest : goal.invariant-loop-rest
invariant-loop-rest l = IsFilled l.bytes l.rest l.whole l.places l.number l.filling

abbrev pub decreases-loop-rest : goal.decreases-loop-rest
decreases-loop-rest l = length l.rest
