use Rattle.walk_laws.proofs.ChoiceKeeps.{choice_keeps, plain_choice_keeps, pages_choice_keeps}
use Rattle.walk_laws.proofs.kept.a_choice_keeps_the_rule.Goals as goal

pub returns-clause-choice : goal.returns-clause-choice
returns-clause-choice c = choice_keeps

pub returns-clause-pages : goal.returns-clause-pages
returns-clause-pages c = pages_choice_keeps

pub returns-clause-plain : goal.returns-clause-plain
returns-clause-plain c = plain_choice_keeps
