use Rattle.std.proofs.Common.{[], ◌∷◌, refl}
use Rattle.ppc_step.proofs.tests.privilege.end_in.Goals as goal

pub execute_word-out-requires-clause-fits : goal.execute_word-out-requires-clause-fits
execute_word-out-requires-clause-fits c = (c.set_gpr.new.self.ptcr ∷ [], refl, tt)
