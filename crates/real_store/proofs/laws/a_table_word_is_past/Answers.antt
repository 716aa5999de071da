use Rattle.real_store.proofs.FitsLemmas.{a_word_is_past}
use Rattle.real_store.proofs.laws.a_table_word_is_past.Goals as goal

pub returns : goal.returns
returns c = a_word_is_past
