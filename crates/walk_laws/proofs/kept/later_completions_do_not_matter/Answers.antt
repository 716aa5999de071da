use Rattle.journal_core.proofs.CurrentLemmas.{current_with_later, current_without_later}
use Rattle.walk_laws.proofs.kept.later_completions_do_not_matter.Goals as goal

pub returns : goal.returns
returns c = λ dones more t n r from. (current_with_later dones more t n r from, current_without_later dones more t n r)
