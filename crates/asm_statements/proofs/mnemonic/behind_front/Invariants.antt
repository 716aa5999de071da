use Rattle.std.proofs.Common.{◌≡◌, ◌≤◌, length, drop}
use Rattle.asm_statements.specs.Mnemonics.{behind_front}
use Rattle.asm_statements.proofs.mnemonic.behind_front.Given as goal

-- the bytes so far are the same in both
abbrev pub invariant-loop-i : goal.invariant-loop-i
invariant-loop-i l = (behind_front l.front l.word ≡ behind_front (drop l.i l.front) (drop l.i l.word)) × (l.i ≤ length l.word)
