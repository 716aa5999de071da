use Rattle.std.proofs.Common.{arith}
use Rattle.part_walk.proofs.PartTakes.{adds_part, few_more, keeps, begins_room}
use Rattle.part_walk.proofs.walk.walk_partition.Goals as goal

pub walk_from-requires-clause-room : goal.walk_from-requires-clause-room
walk_from-requires-clause-room g c = omega (arith, begins_room _ _ _ _ _ _ _ c.begin_with-stage.ensures.begins, c.requires.room)

pub returns-clause-resumed : goal.returns-clause-resumed
returns-clause-resumed g c = adds_part _ _ _ _ _ _ _ _ _ _ _ c.begin_with-stage.ensures.begins c.walk_from.ensures.walk

pub returns-clause-few : goal.returns-clause-few
returns-clause-few g c = few_more _ _ _ _ _ _ _ _ _ (returns-clause-resumed g c)

pub returns-clause-kept : goal.returns-clause-kept
returns-clause-kept g c = keeps _ _ _ _ _ _ _ _ _ (returns-clause-resumed g c)
