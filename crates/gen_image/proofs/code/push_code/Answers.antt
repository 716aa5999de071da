use Rattle.std.proofs.Common.{List, ◌++◌, ap, ◌∙◌}
use Rattle.std.specs.Prelude.{pos}
use Rattle.std.proofs.lemmas.List.{take_all}
use Rattle.ppc_ops.specs.declared.insn.Insn.{Insn}
use Rattle.gen_image.specs.Code.{addi, code_bytes}
use Rattle.gen_image.proofs.CodeLemmas.{nothing-pushed, code-pushed}
use Rattle.gen_image.proofs.FormLemmas.{form-read}
use Rattle.gen_image.proofs.code.push_code.Goals as goal

pub loop-insn-init : goal.loop-insn-init
loop-insn-init c = nothing-pushed c.args.out.now.items

pub push_insn-requires : goal.push_insn-requires
push_insn-requires c = form-read c.args.code.now c.loop-insn.insn-index (addi 0 0 (pos 0)) c.requires c.loop-insn-test.true

pub loop-insn-preserved : goal.loop-insn-preserved
loop-insn-preserved c =
    code-pushed c.args.code.now c.loop-insn.insn-index (addi 0 0 (pos 0)) c.args.out.now.items c.loop-insn.out.items c.push_insn.new.out.items c.loop-insn-test.true c.loop-insn.invariant c.in_ok-push_insn.ensures

pub returns : goal.returns
returns c =
    c.loop-insn.invariant ∙ ap (λ (code : List Insn). c.args.out.now.items ++ code_bytes code) (take_all c.loop-insn.insn-index c.args.code.now c.loop-insn-test.false)
