use Rattle.std.proofs.Common.{◌≡◌, length, drop}
use Rattle.asm_statements.specs.Operands.{operands_of}
use Rattle.asm_statements.proofs.Joined.{together}
use Rattle.asm_statements.proofs.operand_reading.read_operands.Given as goal

-- the operands so far, with those of the other kinds in the pieces that are left, are all
abbrev pub invariant-loop-kind : goal.invariant-loop-kind
invariant-loop-kind l = (operands_of l.kinds l.fn.pieces ≡ together l.found (operands_of (drop l.kind-index l.kinds) l.pieces)) × (length l.found ≡ l.kind-index)
