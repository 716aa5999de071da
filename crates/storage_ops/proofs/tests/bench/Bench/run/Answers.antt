use Rattle.std.proofs.Common.{[], ◌∷◌, refl}
use Rattle.storage_ops.proofs.tests.bench.Bench.run.Goals as goal

pub access-out-requires-clause-fits : goal.access-out-requires-clause-fits
access-out-requires-clause-fits g c = (0 ∷ 0 ∷ c.args.self.now.thread.ptcr ∷ [], refl, tt)
