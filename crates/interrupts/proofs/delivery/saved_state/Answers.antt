use Rattle.std.proofs.Common.{rules, bit_or, ◌-◌}
use Rattle.std.proofs.lemmas.Nat.{or_lt}
use Rattle.std.proofs.lemmas.Nat.Bits.{bit_at_or}
use Rattle.ppc_spr.proofs.Bitwise.{word_is}
use Rattle.ppc_bits.specs.Bits.{bit}
use Rattle.ppc_bits.specs.Bits.{either}
use Rattle.interrupts.proofs.delivery.saved_state.Goals as goal

pub returns : goal.returns
returns c = word_is (bit_or c.args.msr.0 c.args.bits) (λ i. either (bit 64 c.args.msr.0 i) (bit 64 c.args.bits i))
    (or_lt 64 c.args.msr.0 c.args.bits (search rules) (search rules))
    (λ i below. bit_at_or c.args.msr.0 c.args.bits (63 - i))
