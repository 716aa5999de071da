use Rattle.std.proofs.Common.{◌-◌, length}
use Rattle.asm_statements.proofs.Scanned.{Scanned}
use Rattle.asm_statements.proofs.pieces.has_tokens.Given as goal

abbrev pub invariant-loop-token : goal.invariant-loop-token
invariant-loop-token l = Scanned l.line l.lexer

abbrev pub decreases-loop-token : goal.decreases-loop-token
decreases-loop-token l = length l.line - l.lexer.place
