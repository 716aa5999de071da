use Rattle.journal_core.proofs.StandingStays.{standing_goes_on, standing_goes_back}
use Rattle.walk_laws.proofs.kept.later_rows_do_not_matter.Goals as goal

pub returns : goal.returns
returns c = λ v new c i f on within named. (standing_goes_on v.rows new v.floor v.thread v.step c i f on within, standing_goes_back v.rows new v.floor v.thread v.step c i f on within named)
