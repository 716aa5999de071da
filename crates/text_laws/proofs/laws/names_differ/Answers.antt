use Rattle.text_laws.proofs.Assembled as assembled
use Rattle.text_laws.proofs.laws.names_differ.Goals as goal

pub returns : goal.returns
returns c = assembled.names_differ
