use Rattle.walk_laws.proofs.ChoiceStays.{choice_goes_on, pages_choice_goes_on, plain_choice_goes_on}
use Rattle.walk_laws.proofs.kept.later_rows_keep_a_choice.Goals as goal

pub returns-clause-choice : goal.returns-clause-choice
returns-clause-choice c = choice_goes_on

pub returns-clause-pages : goal.returns-clause-pages
returns-clause-pages c = pages_choice_goes_on

pub returns-clause-plain : goal.returns-clause-plain
returns-clause-plain c = plain_choice_goes_on
