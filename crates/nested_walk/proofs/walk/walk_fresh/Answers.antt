use Rattle.std.proofs.Common.{refl, None}
use Rattle.journal_core.specs.KeptAnswers.{known_of}
use Rattle.nested_walk.proofs.NestTakes.{fresh_trail}
use Rattle.nested_walk.proofs.walk.walk_fresh.Goals as goal

pub returns-clause-fresh : goal.returns-clause-fresh
returns-clause-fresh g c = fresh_trail _ _ (known_of c.args.journal.now.rows (λ kind lpid pid sought. None) (λ lpid gra. None)) _ _ _ (record { no_directory = λ kind lpid pid sought is. refl; no_page = λ lpid gra. refl }) c.walk_nested.ensures.resumed
