use Rattle.std.proofs.Common.{◌≡◌, drop}
use Rattle.asm_statements.specs.Mnemonics.{all_operations}
use Rattle.asm_statements.specs.Mnemonics.{name_among}
use Rattle.asm_statements.proofs.mnemonic.mnemonic_of.Given as goal

-- no operation so far has the name
abbrev pub invariant-loop-i : goal.invariant-loop-i
invariant-loop-i l = name_among all_operations l.word ≡ name_among (drop l.i all_operations) l.word
