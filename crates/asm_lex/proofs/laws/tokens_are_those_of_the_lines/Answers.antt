use Rattle.asm_lex.proofs.ByLines.{by_lines}
use Rattle.asm_lex.proofs.laws.tokens_are_those_of_the_lines.Goals as goal

pub returns : goal.returns
returns c = by_lines
