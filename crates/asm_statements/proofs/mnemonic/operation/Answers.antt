use Rattle.std.proofs.Common.{Some, None}
use Rattle.asm_statements.proofs.Names.{operation_at}
use Rattle.asm_statements.proofs.mnemonic.operation.Goals as goal

pub returns-in-Some : goal.returns-in-Some
returns-in-Some c = operation_at c.args.i (Some c.in-Some.row) c.in-Some.ensures.row

pub returns-in-None : goal.returns-in-None
returns-in-None c = operation_at c.args.i None c.in-None.ensures.row
