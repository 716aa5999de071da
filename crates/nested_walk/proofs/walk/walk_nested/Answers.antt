use Rattle.nested_walk.proofs.NestTakes.{begin_room, whole_walk}
use Rattle.nested_walk.proofs.walk.walk_nested.Goals as goal

pub walk_on-requires-clause-room : goal.walk_on-requires-clause-room
walk_on-requires-clause-room g c = begin_room _ _ _ _ _ _ _ c.requires.empty c.begin-stage.ensures.takes

pub returns-clause-resumed : goal.returns-clause-resumed
returns-clause-resumed g c = (whole_walk _ _ _ _ _ _ _ _ _ _ _ c.place_of-place.ensures c.at-target.ensures c.requires.empty c.begin-stage.ensures.takes c.walk_on.ensures.walk).resumed

pub returns-clause-few : goal.returns-clause-few
returns-clause-few g c = (whole_walk _ _ _ _ _ _ _ _ _ _ _ c.place_of-place.ensures c.at-target.ensures c.requires.empty c.begin-stage.ensures.takes c.walk_on.ensures.walk).few
