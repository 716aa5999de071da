use Rattle.std.proofs.Common.{sym}
use Rattle.elf_image.proofs.TableLemmas.{overlap-first, overlap-next, overlap-none}
use Rattle.elf_image.proofs.table.overlap.Goals as goal

pub returns-in-Some : goal.returns-in-Some
returns-in-Some c =
    sym (overlap-first c.args.loads.now c.loop-j.j c.in-Some.i _ _ c.loop-j-test.true (sym c.in-Some.ensures) c.loop-j.invariant)

pub loop-j-preserved : goal.loop-j-preserved
loop-j-preserved c =
    overlap-next c.args.loads.now c.loop-j.j _ _ c.loop-j-test.true (sym c.in-None.ensures) c.loop-j.invariant

pub returns : goal.returns
returns c = sym (overlap-none c.args.loads.now c.loop-j.j _ c.loop-j-test.false c.loop-j.invariant)
