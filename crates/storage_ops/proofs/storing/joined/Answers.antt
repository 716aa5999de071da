use Rattle.std.proofs.Common.{arith}
use Rattle.storage_ops.proofs.StoringLemmas.{joined-below, joined-fits}
use Rattle.storage_ops.proofs.storing.joined.Goals as goal

pub overflow_mul-result : goal.overflow_mul-result
overflow_mul-result c =
    rw c.weight.ensures (omega (arith, joined-fits c.args.lowest c.args.size c.args.next c.args.next_size c.requires.lowest c.requires.next c.requires.whole))

pub overflow_add-result : goal.overflow_add-result
overflow_add-result c =
    rw c.weight.ensures (omega (arith, joined-fits c.args.lowest c.args.size c.args.next c.args.next_size c.requires.lowest c.requires.next c.requires.whole))

pub returns-clause-below : goal.returns-clause-below
returns-clause-below c =
    rw c.weight.ensures (joined-below c.args.lowest c.args.size c.args.next c.args.next_size c.requires.lowest c.requires.next)
