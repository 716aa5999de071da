use Rattle.std.proofs.Common.{◌-◌, length}
use Rattle.asm_lex.proofs.Gathered.{Gathered}
use Rattle.asm_lex.proofs.reading.tokens.Given as goal

abbrev pub invariant-loop-token : goal.invariant-loop-token
invariant-loop-token l = Gathered l.bytes l.lexer l.items.items

abbrev pub decreases-loop-token : goal.decreases-loop-token
decreases-loop-token l = length l.bytes - l.lexer.place
