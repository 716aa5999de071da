use Rattle.walk_laws.proofs.AnswersStay.{answer_goes_on, answers_go_on}
use Rattle.walk_laws.proofs.kept.later_rows_keep_answers.Goals as goal

pub returns-clause-one : goal.returns-clause-one
returns-clause-one c = answer_goes_on

pub returns-clause-all : goal.returns-clause-all
returns-clause-all c = answers_go_on
