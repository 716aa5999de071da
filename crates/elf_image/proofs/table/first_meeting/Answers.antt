use Rattle.std.proofs.Common.{sym, ◌∙◌}
use Rattle.elf_image.specs.Grammar.{meets_load}
use Rattle.elf_image.proofs.TableLemmas.{position-first, position-next}
use Rattle.elf_image.proofs.table.first_meeting.Goals as goal

pub returns-then-meets : goal.returns-then-meets
returns-then-meets c =
    sym (position-first (meets_load c.args.one.now) c.args.loads.now c.loop-number.number _ c.loop-number-test.true c.loop-number.invariant (sym c.meets.ensures ∙ c.if-meets.true))

pub loop-number-preserved : goal.loop-number-preserved
loop-number-preserved c =
    position-next (meets_load c.args.one.now) c.args.loads.now c.loop-number.number _ c.loop-number-test.true c.loop-number.invariant (sym c.meets.ensures ∙ c.if-meets.false)
