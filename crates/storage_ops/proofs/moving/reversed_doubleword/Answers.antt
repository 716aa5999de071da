use Rattle.std.proofs.Common.{◌∙◌, arith}
use Rattle.storage_ops.proofs.MovingLemmas.{reversed-eight}
use Rattle.storage_ops.proofs.moving.reversed_doubleword.Goals as goal

pub returns-clause-value : goal.returns-clause-value
returns-clause-value c = c.swap_bytes.ensures ∙ reversed-eight c.args.value (omega arith)
