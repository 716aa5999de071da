use Rattle.storage_ops.proofs.StoringLemmas.{two-parts}
use Rattle.storage_ops.proofs.storing.load_parts.Goals as goal

pub returns-in-Some-clause-value : goal.returns-in-Some-clause-value
returns-in-Some-clause-value c =
    rw (c.joined.ensures.value, c.load_part-first.ensures.value, c.load_part.ensures.value)
    (two-parts c.args.store.now.ram c.args.parts.now.first c.in-Some.second c.args.parts.now.second c.in-Some.is c.requires.within.0)
