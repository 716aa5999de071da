use Rattle.std.proofs.Common.{sym, ap}
use Rattle.ppc_bits.specs.Bits.{weights}
use Rattle.ppc_ops.specs.Results.{one}
use Rattle.branch_unit.specs.Masks.{repeated_bit}
use Rattle.branch_unit.proofs.masks.repeated_bit.Goals as goal

pub returns-then-x : goal.returns-then-x
unfolding weights
returns-then-x c = ap (λ b. repeated_bit (one b)) (sym c.if-x.true)

pub returns-else-x : goal.returns-else-x
unfolding weights
returns-else-x c = ap (λ b. repeated_bit (one b)) (sym c.if-x.false)
