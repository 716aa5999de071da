use Rattle.std.proofs.Common.{◌≡◌, drop}
use Rattle.asm_contents.specs.Values as values
use Rattle.asm_contents.proofs.known.are_known.Given as goal

-- all operands so far are known
abbrev pub invariant-loop-operand : goal.invariant-loop-operand
invariant-loop-operand l = values.are_known l.names l.operands ≡ values.are_known l.names (drop l.operand-index l.operands)
