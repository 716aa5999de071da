use Rattle.walk_laws.proofs.OneStands.{deepest_unique}
use Rattle.walk_laws.proofs.kept.one_directory_is_deepest.Goals as goal

pub returns : goal.returns
returns c = λ v. deepest_unique v.rows v.floor v.thread v.step
