use Rattle.std.proofs.Common.{sym, ap, ◌∙◌}
use Rattle.part_walk.specs.Entries.{after_entry_of_tree}
use Rattle.part_walk.proofs.Joins.{tree_joins}
use Rattle.part_walk.proofs.stages.after_tree.Goals as goal

pub returns-clause-stage : goal.returns-clause-stage
returns-clause-stage c = c.after_tree_entry.ensures.stage ∙ ap (after_entry_of_tree c.args.rest c.args.level) c.read.ensures.value ∙ sym (tree_joins c.args.rest c.args.level c.args.value)
