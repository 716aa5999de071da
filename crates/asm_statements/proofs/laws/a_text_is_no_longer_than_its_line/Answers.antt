use Rattle.asm_statements.proofs.Texts.{texts-short}
use Rattle.asm_statements.proofs.laws.a_text_is_no_longer_than_its_line.Goals as goal

pub returns : goal.returns
returns c = texts-short
