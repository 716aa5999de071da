use Rattle.asm_places.proofs.Split.{NoneBefore}
use Rattle.asm_places.proofs.lines.line_length.Given as goal

abbrev pub invariant-loop-i : goal.invariant-loop-i
invariant-loop-i l = NoneBefore l.rest l.i
