use Rattle.walk_laws.proofs.PartResumedLemmas.{part_resumed_is_walk}
use Rattle.part_walk.proofs.laws.an_added_walk_is_a_walk.Goals as goal

pub returns : goal.returns
returns c = λ word moment a ptcr lpid gra before after out h. part_resumed_is_walk word moment a ptcr lpid gra h.items out h.resumed
