use Rattle.std.proofs.Common.{◌≡◌, ◌<◌, ℕ, arith, sym, subst}
use Rattle.translator.specs.Marks.{SetsAreSettled}
use Rattle.translator.proofs.MarkLemmas.{not_reached, none_kept, marked_itself, marked_on, sets_more, list_done}
use Rattle.translator.proofs.completing.complete_list.Goals as goal

none : (k : ℕ) → k < 0 → ⊥
none k below = omega arith

pub loop-set-init : goal.loop-set-init
loop-set-init c = (marked_itself c.args.journal.now.rows c.args.thread c.args.row.now c.args.list.now, λ s below k few p at. absurd (none s below))

pub loop-set-preserved : goal.loop-set-preserved
loop-set-preserved c = (
  marked_on c.args.journal.now.rows c.args.thread c.args.row.now c.args.list.now c.loop-set.list c.complete_set.new.list c.loop-set.invariant.0 c.complete_set.ensures.marked,
  sets_more c.args.journal.now.rows c.args.thread c.args.row.now c.loop-set.set c.loop-set.list c.complete_set.new.list c.complete_set.ensures.marked c.loop-set.invariant.1 c.complete_set.ensures.settled,
)

pub returns : goal.returns
returns c =
    let all : c.loop-set.set ≡ 16 = omega arith in
    list_done c.args.journal.now.rows c.args.thread c.args.row.now c.args.list.now c.loop-set.list c.requires c.loop-set.invariant.0
    (subst (SetsAreSettled c.args.journal.now.rows c.args.thread c.args.row.now c.loop-set.list) all c.loop-set.invariant.1)

pub returns-then-is_empty : goal.returns-then-is_empty
returns-then-is_empty c = none_kept c.args.journal.now.rows c.args.thread c.args.row.now c.args.list.now (sym c.if-is_empty.ensures)

pub returns-then-not-reaches : goal.returns-then-not-reaches
returns-then-not-reaches c = not_reached c.args.journal.now.rows c.args.thread c.args.row.now c.args.list.now (sym c.if-not-reaches.ensures)
