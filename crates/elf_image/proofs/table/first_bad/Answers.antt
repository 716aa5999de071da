use Rattle.std.proofs.Common.{not, sym, ap, ◌∙◌}
use Rattle.elf_image.specs.Grammar.{is_bad}
use Rattle.elf_image.proofs.TableLemmas.{position-first, position-next}
use Rattle.elf_image.proofs.table.first_bad.Goals as goal

pub returns-then-not-is_good : goal.returns-then-not-is_good
returns-then-not-is_good c =
    sym (position-first (is_bad c.args.len) c.args.loads.now c.loop-number.number _ c.loop-number-test.true c.loop-number.invariant (ap not (sym c.is_good.ensures ∙ c.if-not-is_good.true)))

pub loop-number-preserved : goal.loop-number-preserved
loop-number-preserved c =
    position-next (is_bad c.args.len) c.args.loads.now c.loop-number.number _ c.loop-number-test.true c.loop-number.invariant (ap not (sym c.is_good.ensures ∙ c.if-not-is_good.false))
