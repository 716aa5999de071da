use Rattle.walk_laws.proofs.ConfinedLemmas.{admitted_confined}
use Rattle.walk_laws.proofs.LowBits.{admitted_low}
use Rattle.walk_laws.proofs.walks.admitted_accesses_are_confined.Goals as goal

pub returns-clause-confined : goal.returns-clause-confined
returns-clause-confined c = admitted_confined

pub returns-clause-low_bits : goal.returns-clause-low_bits
returns-clause-low_bits c = admitted_low
