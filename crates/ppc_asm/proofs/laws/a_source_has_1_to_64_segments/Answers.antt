use Rattle.ppc_asm.proofs.Segments.{sources-have-segments}
use Rattle.ppc_asm.proofs.laws.a_source_has_1_to_64_segments.Goals as goal

pub returns : goal.returns
returns c = sources-have-segments
