use Rattle.std.proofs.Common.{ap, ◌∙◌, slice_index}
use Rattle.fixed_logic.specs.Parts.{byte_of}
use Rattle.fixed_logic.specs.Bytes.{equality_of}
use Rattle.fixed_logic.proofs.PartLemmas.{byte_in, eight_bytes}
use Rattle.fixed_logic.proofs.bytes.cmpb.Goals as goal

pub returns : goal.returns
returns c = c.from_be_bytes.ensures ∙ eight_bytes (λ i. equality_of (slice_index c.to_be_bytes-x.result i) (slice_index c.to_be_bytes-y.result i)) (λ i. equality_of (byte_of c.args.s i) (byte_of c.args.b i))
    (λ i l. ap (λ n. equality_of n (slice_index c.to_be_bytes-y.result i)) (byte_in c.args.s c.to_be_bytes-x.result c.to_be_bytes-x.ensures i l) ∙ ap (equality_of (byte_of c.args.s i)) (byte_in c.args.b c.to_be_bytes-y.result c.to_be_bytes-y.ensures i l))
    c.equality.result c.equality-2.result c.equality-3.result c.equality-4.result c.equality-5.result c.equality-6.result c.equality-7.result c.equality-8.result
    c.equality.ensures c.equality-2.ensures c.equality-3.ensures c.equality-4.ensures c.equality-5.ensures c.equality-6.ensures c.equality-7.ensures c.equality-8.ensures
