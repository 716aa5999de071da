use Rattle.std.proofs.Common.{sym, ap, ◌∙◌}
use Rattle.part_walk.specs.Entries.{role_by}
use Rattle.part_walk.proofs.Joins.{role_joins}
use Rattle.part_walk.proofs.readings.role_in_tree.Goals as goal

pub returns : goal.returns
returns c = c.role_of.ensures ∙ ap (role_by c.args.leaf c.args.directory) c.read.ensures.value ∙ sym (role_joins c.args.leaf c.args.directory c.args.value)
