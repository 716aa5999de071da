use Rattle.std.proofs.Common.{sym, ◌∙◌, arith}
use Rattle.asm_statements.specs.Mnemonics.{all_operations}
use Rattle.asm_statements.proofs.Names.{name_here, name_later, name_not_there, name_unknown}
use Rattle.asm_statements.proofs.mnemonic.mnemonic_of.Goals as goal
use Rattle.asm_statements.proofs.mnemonic.mnemonic_of.Goals.{in-Some+in_default-as_name_of, in_default}

pub returns-in-Some-as_name_of : goal.returns-in-Some-as_name_of
returns-in-Some-as_name_of c = sym (c.loop-i.invariant ∙ name_here all_operations c.loop-i.i c.in-Some.op c.args.word.now c.in-Some-as_name_of.mnemonic (sym c.in-Some.ensures) (sym c.in-Some-as_name_of.ensures))

pub loop-i-preserved : goal.loop-i-preserved
loop-i-preserved c = c.loop-i.invariant ∙ elim c.match-operation.branch [
  | in-Some+in_default-as_name_of w ↦ name_later all_operations c.loop-i.i w.in-Some.op c.args.word.now (sym w.in-Some.ensures) (sym w.as_name_of.ensures ∙ w.in_default-as_name_of.is)
  | in_default w ↦ name_not_there all_operations c.loop-i.i c.args.word.now (sym c.operation.ensures ∙ w.in_default.is)
]

pub returns : goal.returns
returns c = sym (c.loop-i.invariant ∙ name_unknown c.loop-i.i c.args.word.now (omega arith))
