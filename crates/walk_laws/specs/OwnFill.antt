-- The fill that the fresh walk of an ask adds for the ask itself.
use Rattle.std.specs.List.{range_with_len}
use Rattle.std.specs.Prelude.{ℕ, List, [], ◌∷◌, length, ◌&&◌, if◌then◌else◌}
use Rattle.journal_core.specs.declared.rows.Key.{Key}
use Rattle.journal_core.specs.declared.rows.ReadRow.{ReadRow}
use Rattle.journal_core.specs.declared.rows.FillRow.{FillRow}
use Rattle.journal_core.specs.declared.asks.Ask.{Ask}
use Rattle.journal_core.specs.declared.walks.Stage.{Stage}
use Rattle.journal_core.specs.PartitionWalk.{is_leaf}
use Rattle.journal_core.specs.Walk.{Task, next, task_of, start_of, never_denied}
use Rattle.journal_core.specs.Fills.{in_own_tree, fill_of}

-- the level of the last leaf of the ask's own tree among these readings, or the level that is given
abbrev pub level_from : Task → Stage → ℕ → List ReadRow → ℕ
level_from k s level [] = level
level_from k s level (r ∷ rs) = level_from k (next k s r.value) (if in_own_tree s && is_leaf r.value then r.level else level) rs

abbrev pub own_level : Ask → List ReadRow → ℕ
own_level ask rs = level_from (task_of never_denied ask) (start_of never_denied ask) 0 rs

-- the fill of this key that has all the readings of a fresh walk, which get the numbers from this one on
abbrev pub fresh_fill : ℕ → ℕ → Ask → Key → ℕ → List ReadRow → FillRow
fresh_fill t n ask key first rs = fill_of t n key (own_level ask rs) (range_with_len first (length rs))
