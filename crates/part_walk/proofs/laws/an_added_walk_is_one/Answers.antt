use Rattle.part_walk.proofs.AddedLemmas.{added_is_one}
use Rattle.part_walk.proofs.laws.an_added_walk_is_one.Goals as goal

pub returns : goal.returns
returns c = added_is_one
