use Rattle.std.proofs.Common.{◌≡◌, ◌++◌}
use Rattle.gen_image.proofs.CodeLemmas.{visits_before}
use Rattle.gen_image.proofs.code.push_guest_code.Given as goal

abbrev pub invariant-loop-draw : goal.invariant-loop-draw
invariant-loop-draw l = l.out.items ≡ l.initial.out.items ++ visits_before l.draw-index l.draws
