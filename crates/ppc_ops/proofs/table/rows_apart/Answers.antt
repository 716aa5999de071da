use Rattle.ppc_ops.proofs.Apart.{apart}
use Rattle.ppc_ops.proofs.table.rows_apart.Goals as goal

pub returns : goal.returns
returns c = apart
