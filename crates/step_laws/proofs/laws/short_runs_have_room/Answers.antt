use Rattle.step_laws.proofs.RowsLemmas.{short_runs}
use Rattle.step_laws.proofs.laws.short_runs_have_room.Goals as goal

pub returns : goal.returns
returns c = short_runs
