use Rattle.asm_contents.proofs.Joined.{AreAdded}
use Rattle.asm_contents.proofs.values.all_values.Given as goal

abbrev pub invariant-loop-i : goal.invariant-loop-i
invariant-loop-i l = AreAdded l.names l.here l.absolute l.texts l.given l.i l.values
