use Rattle.std.proofs.Common.{sym}
use Rattle.ppc_ops.proofs.Apart.{alone, listed_at}
use Rattle.ppc_ops.proofs.table.row.Goals as goal

pub returns-clause-row : goal.returns-clause-row
returns-clause-row c = listed_at c.args.i c.row_in.result c.row_in.ensures

pub returns-clause-alone : goal.returns-clause-alone
returns-clause-alone c = alone c.args.i c.row_in.result (sym (listed_at c.args.i c.row_in.result c.row_in.ensures))
