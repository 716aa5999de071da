use Rattle.walk_laws.proofs.OneStands.{standing_key_unique}
use Rattle.walk_laws.proofs.kept.one_fill_of_a_key_stands.Goals as goal

pub returns : goal.returns
returns c = λ v. standing_key_unique v.rows v.floor v.thread v.step
