use Rattle.std.proofs.Common.{sym}
use Rattle.nested_walk.proofs.NestTakes.{adds_taken, adds_over, adds_gap, adds_more}
use Rattle.nested_walk.proofs.walk.+walk_on.Goals as goal

pub returns-in-None-clause-walk : goal.returns-in-None-clause-walk
returns-in-None-clause-walk g t c = adds_taken _ _ _ _ _ _ _ _ _ _ c.take_kept-here.ensures.takes (adds_over _ _ _ _ _ _ _ c.outcome.ensures.stage)

pub returns-in-None-table_word-clause-walk : goal.returns-in-None-table_word-clause-walk
returns-in-None-table_word-clause-walk g t c = adds_taken _ _ _ _ _ _ _ _ _ _ c.take_kept-here.ensures.takes (adds_gap _ _ _ _ _ c.in-Some.at _ (sym c.in-Some.ensures) c.take_kept-here.ensures.takes.none (sym c.in-None-table_word.ensures))

pub returns-in-Some-table_word-clause-walk : goal.returns-in-Some-table_word-clause-walk
returns-in-Some-table_word-clause-walk g t c =
    adds_taken _ _ _ _ _ _ _ _ _ _ c.take_kept-here.ensures.takes
    (adds_more _ _ _ _ _ _ c.in-Some-table_word.value c.in-Some.at _ _ _ _ (sym c.in-Some.ensures) c.take_kept-here.ensures.takes.none (sym c.in-Some-table_word.ensures) c.make_reading-then.ensures.stage c.make_reading-then.ensures.items c.walk_on.ensures.walk)
