use Rattle.text_laws.proofs.Assembled as assembled
use Rattle.text_laws.proofs.laws.texts_differ.Goals as goal

pub returns : goal.returns
returns c = assembled.texts_differ
