use Rattle.std.proofs.Common.{rules, refl}
use Rattle.ppc_spr.proofs.FixedBits.{inside, outside}
use Rattle.ppc_spr.proofs.Profile.{msr_mask}
use Rattle.ppc_spr.proofs.msr.profiled.Goals as goal

pub returns-then-value : goal.returns-then-value
returns-then-value c = rw (inside msr_mask c.args.value c.if-value.true) refl

pub returns-else-value : goal.returns-else-value
returns-else-value c = rw (outside msr_mask c.args.value (search rules) c.if-value.false) refl
