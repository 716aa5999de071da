use Rattle.std.proofs.Common.{◌≡◌, ◌++◌, ◌-◌, ◌*◌}
use Rattle.gen_image.specs.Draws.{draws}
use Rattle.gen_image.proofs.draws.all_draws.Given as goal

abbrev pub invariant-loop : goal.invariant-loop
invariant-loop l = l.draws.items ++ draws l.size l.x (2 * l.size - l.counter) ≡ draws l.size l.seed (2 * l.size)
