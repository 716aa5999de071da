use Rattle.part_walk.proofs.AddedLemmas.{adds_fresh_walk, fresh_adds_part}
use Rattle.part_walk.proofs.laws.nothing_kept_adds_the_fresh_walk.Goals as goal

pub returns : goal.returns
returns c = λ word moment a ptcr lpid gra before after out none. (adds_fresh_walk word moment a ptcr lpid gra before after out none, fresh_adds_part word moment a ptcr lpid gra before after out none)
