use Rattle.std.proofs.Common.{ap, ◌∙◌, ◌*◌, ◌%◌, ◌^◌}
use Rattle.std.proofs.lemmas.Nat.{pow_pos}
use Rattle.ppc_bits.specs.Bits.{low_signed}
use Rattle.fixed_logic.proofs.ShiftLemmas.{product_is}
use Rattle.fixed_logic.proofs.shifts.shift_extended_word.Goals as goal

pub returns : goal.returns
returns c = ap (λ k. k * 2 ^ c.args.n % 2 ^ 64) c.extend_word.ensures ∙ product_is (low_signed 32 c.args.s) (2 ^ c.args.n) (pow_pos c.args.n)
