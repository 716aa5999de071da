use Rattle.std.proofs.Common.{ap, ◌∙◌, Bool, true, false, arith, ◌<◌}
use Rattle.ppc_ops.specs.Results.{one}
use Rattle.branch_unit.specs.Masks.{merged, bit_mask}
use Rattle.branch_unit.proofs.Merging.{with_bit_is}
use Rattle.branch_unit.proofs.cr_bits.with_bit.Goals as goal

one_lt : (x : Bool) → one x < 2
one_lt true = omega arith
one_lt false = omega arith

pub returns : goal.returns
returns c =
    c.merge.ensures ∙ ap (λ m. merged m c.repeated_bit.result c.args.cr) c.bit_mask.ensures
    ∙ ap (λ n. merged (bit_mask c.args.bt) n c.args.cr) c.repeated_bit.ensures
    ∙ with_bit_is c.args.cr c.args.bt (one c.args.x) (one_lt c.args.x)
