-- The row that a word agrees with.
use Rattle.std.specs.Prelude.{ℕ, List, [], ◌∷◌, Option, Some, None, cond}
use Rattle.ppc_ops.specs.declared.op.Op.{Op}
use Rattle.ppc_ops.specs.declared.op.Row.{Row}
use Rattle.ppc_ops.specs.Rows.{agrees}
use Rattle.ppc_ops.specs.Table.{rows}

-- the operation of the first of some rows whose fixed bits the word has
unfoldable pub find_op : List Row → ℕ → Option Op
find_op [] word = None
find_op (r ∷ rs) word = cond (agrees word r) (Some r.op) (find_op rs word)

-- the operation of the row whose fixed bits the word has; no word has those of two
unfoldable pub op_at : ℕ → Option Op
op_at word = find_op rows word
