use Rattle.std.proofs.Common.{sym, ap, ◌∙◌}
use Rattle.std.specs.Prelude.{option_and_then}
use Rattle.asm_statements.specs.Statements.{instruction_in}
use Rattle.asm_statements.proofs.Stated.{stated}
use Rattle.asm_statements.proofs.statement_reading.read_statement.Goals as goal

pub returns-in_err-mnemonic_of-in-None : goal.returns-in_err-mnemonic_of-in-None
returns-in_err-mnemonic_of-in-None c =
    let after = c.next.new.self in
    c.from_residual.ensures
    ∙ sym (stated c.args.pieces after c.in-Some-Word.field-0 c.in-Some-Word.word c.bytes.result.now c.bytes-in-None.result.now c.mnemonic_of.result c.in-Some-Word.ensures c.in-Some-Word.field-0-is c.bytes.ensures c.in-None.ensures c.bytes-in-None.ensures c.mnemonic_of.ensures
    ∙ ap (option_and_then (instruction_in after)) c.in_err-mnemonic_of-in-None.was)

pub returns-in_ok-mnemonic_of-in-None : goal.returns-in_ok-mnemonic_of-in-None
returns-in_ok-mnemonic_of-in-None c =
    let after = c.next.new.self in
    c.read_instruction.ensures
    ∙ sym (stated c.args.pieces after c.in-Some-Word.field-0 c.in-Some-Word.word c.bytes.result.now c.bytes-in-None.result.now c.mnemonic_of.result c.in-Some-Word.ensures c.in-Some-Word.field-0-is c.bytes.ensures c.in-None.ensures c.bytes-in-None.ensures c.mnemonic_of.ensures
    ∙ ap (option_and_then (instruction_in after)) c.in_ok-mnemonic_of-in-None.was)
