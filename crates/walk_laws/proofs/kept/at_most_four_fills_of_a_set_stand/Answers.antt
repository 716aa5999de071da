use Rattle.walk_laws.proofs.FourOfASet.{four_stand}
use Rattle.walk_laws.proofs.kept.at_most_four_fills_of_a_set_stand.Goals as goal

pub returns : goal.returns
returns c = λ v. four_stand v.rows v.floor v.thread v.step
