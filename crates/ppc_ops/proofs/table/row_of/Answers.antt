use Rattle.std.proofs.Common.{Some, ◌∙◌, sym}
use Rattle.ppc_ops.specs.Table.{op_row}
use Rattle.ppc_ops.proofs.Apart.{listed_at, some_same}
use Rattle.ppc_ops.proofs.Listed.{number, number_below, row_listed}
use Rattle.ppc_ops.proofs.table.row_of.Goals as goal

pub row_at-requires : goal.row_at-requires
row_at-requires c = number_below c.args.op

pub returns : goal.returns
returns c = some_same c.row_at.result (op_row c.args.op) (listed_at (number c.args.op) (Some c.row_at.result) (sym c.row_at.ensures) ∙ row_listed c.args.op)
