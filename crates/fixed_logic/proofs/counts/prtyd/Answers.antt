use Rattle.std.proofs.Common.{◌∙◌}
use Rattle.fixed_logic.proofs.PartLemmas.{doubleword_parity}
use Rattle.fixed_logic.proofs.counts.prtyd.Goals as goal

pub returns : goal.returns
returns c = c.from.ensures ∙ doubleword_parity c.args.s c.to_be_bytes.result c.to_be_bytes.ensures
