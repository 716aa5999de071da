use Rattle.std.proofs.Common.{◌≡◌, ◌++◌, take}
use Rattle.gen_image.specs.Code.{code_bytes}
use Rattle.gen_image.proofs.code.push_code.Given as goal

abbrev pub invariant-loop-insn : goal.invariant-loop-insn
invariant-loop-insn l = l.out.items ≡ l.initial.out.items ++ code_bytes (take l.insn-index l.code)
