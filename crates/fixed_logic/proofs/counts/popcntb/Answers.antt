use Rattle.std.proofs.Common.{ap, ◌∙◌, slice_index}
use Rattle.fixed_logic.specs.Parts.{byte_of}
use Rattle.fixed_logic.specs.Counts.{ones_of}
use Rattle.fixed_logic.proofs.PartLemmas.{byte_in, eight_bytes}
use Rattle.fixed_logic.proofs.counts.popcntb.Goals as goal

pub returns : goal.returns
returns c = c.from_be_bytes.ensures ∙ eight_bytes (λ i. ones_of 8 (slice_index c.to_be_bytes.result i)) (λ i. ones_of 8 (byte_of c.args.s i))
    (λ i l. ap (ones_of 8) (byte_in c.args.s c.to_be_bytes.result c.to_be_bytes.ensures i l))
    c.ones.result c.ones-2.result c.ones-3.result c.ones-4.result c.ones-5.result c.ones-6.result c.ones-7.result c.ones-8.result
    c.ones.ensures c.ones-2.ensures c.ones-3.ensures c.ones-4.ensures c.ones-5.ensures c.ones-6.ensures c.ones-7.ensures c.ones-8.ensures
