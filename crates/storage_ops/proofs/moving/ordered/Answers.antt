use Rattle.std.proofs.Common.{arith}
use Rattle.storage_ops.proofs.MovingLemmas.{reversed-one}
use Rattle.storage_ops.proofs.moving.ordered.Goals as goal

pub returns-in_default-clause-value : goal.returns-in_default-clause-value
returns-in_default-clause-value c = grind (arith, c.requires.size, reversed-one)
