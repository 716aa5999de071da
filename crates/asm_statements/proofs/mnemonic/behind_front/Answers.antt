use Rattle.std.proofs.Common.{sym, ◌∙◌, arith}
use Rattle.asm_statements.proofs.Names.{front_past, front_apart}
use Rattle.asm_statements.proofs.mnemonic.behind_front.Goals as goal
use Rattle.asm_statements.proofs.mnemonic.behind_front.Goals.{then-i-word-via-then-i-word, then-i-word-via-else-i-word+then-word-i}

pub returns-then-i-word : goal.returns-then-i-word
returns-then-i-word c = sym (c.loop-i.invariant.0 ∙ elim c.then-i-word.branch [
  | then-i-word-via-then-i-word w ↦ front_past c.args.front.now c.args.word.now c.loop-i.i (omega arith) (omega arith)
  | then-i-word-via-else-i-word+then-word-i w ↦ front_apart c.args.front.now c.args.word.now c.loop-i.i (omega arith) (omega arith) w.if-word-i.true
])
