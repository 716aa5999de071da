use Rattle.std.proofs.Common.{length, ap, arith, length-append}
use Rattle.ppc_disasm.specs.Texts.{insn_text}
use Rattle.ppc_disasm.proofs.Widths.{insn-short}
use Rattle.ppc_disasm.proofs.insn.push_insn.Goals as goal

-- src/insn.rt:21:5
pub push_text-requires : goal.push_text-requires
push_text-requires c = omega (arith, c.requires.room, insn-short c.args.insn.now c.requires.fits)

-- src/insn.rt:15:1
pub returns-clause-len : goal.returns-clause-len
returns-clause-len c =
    let same = ap length c.push_text.ensures in
    omega (arith, same, length-append c.args.line.now (insn_text c.args.insn.now), insn-short c.args.insn.now c.requires.fits)
