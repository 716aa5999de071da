use Rattle.part_walk.proofs.PartTakes.{few_more}
use Rattle.part_walk.proofs.laws.an_added_walk_is_short.Goals as goal

pub returns : goal.returns
returns c = few_more
