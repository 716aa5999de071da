use Rattle.nested_walk.proofs.SixCauses.{six_causes}
use Rattle.nested_walk.proofs.laws.walks_raise_six_causes.Goals as goal

pub returns : goal.returns
returns c = six_causes
