use Rattle.std.proofs.Common.{refl}
use Rattle.ppc_ops.specs.Table.{rows}
use Rattle.ppc_ops.proofs.table.row_count.Goals as goal

pub returns : goal.returns
unfolding rows
returns c = refl
