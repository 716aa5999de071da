use Rattle.std.proofs.Common.{ap, slice_index}
use Rattle.fixed_logic.specs.Parts.{byte_of}
use Rattle.fixed_logic.specs.Bytes.{picked}
use Rattle.fixed_logic.proofs.PartLemmas.{byte_in, eight_bits}
use Rattle.fixed_logic.proofs.bytes.bpermd.Goals as goal

pub returns : goal.returns
returns c = eight_bits (λ i. picked c.args.b (slice_index c.to_be_bytes-n.result i)) (λ i. picked c.args.b (byte_of c.args.s i))
    (λ i l. ap (picked c.args.b) (byte_in c.args.s c.to_be_bytes-n.result c.to_be_bytes-n.ensures i l))
    c.pick.result c.pick-2.result c.pick-3.result c.pick-4.result c.pick-5.result c.pick-6.result c.pick-7.result c.pick-8.result
    c.pick.ensures.value c.pick-2.ensures.value c.pick-3.ensures.value c.pick-4.ensures.value c.pick-5.ensures.value c.pick-6.ensures.value c.pick-7.ensures.value c.pick-8.ensures.value
