use Rattle.ppc_spr.proofs.BitTests.{tests_bit}
use Rattle.ppc_spr.proofs.privilege.is_privileged.Goals as goal

pub returns : goal.returns
returns c = tests_bit c.args.n 4
