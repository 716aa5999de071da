use Rattle.ppc_spr.proofs.BitTests.{tests_bit}
use Rattle.ppc_spr.proofs.msr.Msr.relocates_data.Goals as goal

pub returns : goal.returns
returns c = tests_bit c.args.self.0 4
