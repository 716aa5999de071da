use Rattle.std.proofs.Common.{◌≡◌, ◌++◌}
use Rattle.gen_image.specs.Tables.{table_bytes, first_leaves}
use Rattle.gen_image.proofs.tables.push_leaves.Given as goal

abbrev pub invariant-loop-page : goal.invariant-loop-page
invariant-loop-page l = l.out.items ≡ l.initial.out.items ++ table_bytes (first_leaves l.from l.page)
