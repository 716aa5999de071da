use Rattle.std.proofs.Common.{◌≡◌, ◌<◌}
use Rattle.std.specs.Prelude.{IfSome}
use Rattle.radix_top.specs.Words.{last_at}
use Rattle.radix_top.proofs.cutting.last_at.Given as goal

abbrev pub invariant-loop-i : goal.invariant-loop-i
invariant-loop-i l = (l.found ≡ last_at l.bytes l.i) × IfSome l.found (λ n. n < l.i)
