use Rattle.ppc_spr.proofs.BitTests.{tests_bit}
use Rattle.ppc_spr.proofs.msr.Msr.enables_external.Goals as goal

pub returns : goal.returns
returns c = tests_bit c.args.self.0 15
