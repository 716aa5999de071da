use Rattle.std.proofs.Common.{refl}
use Rattle.part_walk.proofs.AddedLemmas.{adds_fresh_walk}
use Rattle.part_walk.proofs.walk.walk_partition_fresh.Goals as goal

pub returns-clause-fresh : goal.returns-clause-fresh
returns-clause-fresh g c = adds_fresh_walk _ _ _ _ _ _ _ _ _ (record { no_directory = λ kind lpid pid sought is. refl; no_page = λ lpid gra. refl }) c.walk_partition.ensures.resumed
