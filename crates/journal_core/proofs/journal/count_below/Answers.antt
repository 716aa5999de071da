use Rattle.std.proofs.Common.{◌≡◌, take, slice_get, Some, ◌-◌, sym, ◌∙◌, arith}
use Rattle.journal_core.specs.Steps.{rows_below}
use Rattle.journal_core.proofs.CutLemmas.{got, take_one, cut_last, cut_early}
use Rattle.journal_core.proofs.journal.count_below.Goals as goal

pub returns-then-number-steps : goal.returns-then-number-steps
returns-then-number-steps g c = λ high order.
    let is : slice_get c.args.rows.now (c.loop-left.left - 1) ≡ Some c.index-rows-left.result = got c.args.rows.now (c.loop-left.left - 1) c.index-rows-left.result (omega (arith, c.loop-left.invariant.within, c.loop-left-test.true)) c.index-rows-left.is in
    let early = cut_early g.R.Dated.number c.args.steps high c.args.rows.now c.loop-left.left c.index-rows-left.result c.loop-left-test.true is (rw (← c.number.ensures) c.if-number-steps.true) order in
    sym (c.loop-left.invariant.late ∙ early)

pub loop-left-preserved : goal.loop-left-preserved
loop-left-preserved g c =
    let is : slice_get c.args.rows.now (c.loop-left.left - 1) ≡ Some c.index-rows-left.result = got c.args.rows.now (c.loop-left.left - 1) c.index-rows-left.result (omega (arith, c.loop-left.invariant.within, c.loop-left-test.true)) c.index-rows-left.is in
    let split = take_one c.args.rows.now c.loop-left.left c.index-rows-left.result c.loop-left-test.true is in
    record {
      within = omega (arith, c.loop-left.invariant.within);
      late = c.loop-left.invariant.late ∙ (rw split (cut_last g.R.Dated.number c.args.steps (take (c.loop-left.left - 1) c.args.rows.now) c.index-rows-left.result (rw (← c.number.ensures) c.if-number-steps.false)));
    }

pub returns : goal.returns
unfolding rows_below
returns g c = λ high order.
    let none : c.loop-left.left ≡ 0 = omega (arith, c.loop-left-test.false) in
    sym (rw none at c.loop-left.invariant.late)
