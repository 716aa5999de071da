use Rattle.std.proofs.Common.{◌≡◌, ◌≤◌, length, take}
use Rattle.journal_core.specs.Steps.{rows_below}
use Rattle.journal_core.proofs.journal.count_below.Given as goal

-- the rows from `left` on are of the step or later
abbrev pub invariant-loop-left : goal.invariant-loop-left
invariant-loop-left g l = record {
  within : l.left ≤ length l.rows;
  late : rows_below g.R.Dated.number l.steps l.rows ≡ rows_below g.R.Dated.number l.steps (take l.left l.rows);
}

abbrev pub decreases-loop-left : goal.decreases-loop-left
decreases-loop-left g l = l.left
