use Rattle.step_laws.proofs.RowsLemmas.{step_adds_few}
use Rattle.step_laws.proofs.laws.a_step_adds_few_rows.Goals as goal

pub returns : goal.returns
returns c = step_adds_few
