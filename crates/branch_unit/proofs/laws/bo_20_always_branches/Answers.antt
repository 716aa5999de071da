use Rattle.std.proofs.Common.{refl}
use Rattle.branch_unit.specs.Branch.{branch_of}
use Rattle.branch_unit.proofs.laws.bo_20_always_branches.Goals as goal

pub returns : goal.returns
unfolding branch_of
returns c op bi bd aa lk cia cr lr ctr tar = ((refl, refl), (refl, refl))
