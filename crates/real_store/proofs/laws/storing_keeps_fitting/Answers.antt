use Rattle.real_store.proofs.FitsLemmas.{a_write_keeps_fitting}
use Rattle.real_store.proofs.laws.storing_keeps_fitting.Goals as goal

pub returns-clause-fits : goal.returns-clause-fits
returns-clause-fits c = a_write_keeps_fitting
