use Rattle.walk_laws.proofs.KeptPart.{page_begins_part}
use Rattle.walk_laws.proofs.kept.kept_page_begins_part.Goals as goal

pub returns : goal.returns
returns c = page_begins_part
