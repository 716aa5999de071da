use Rattle.std.proofs.Common.{◌≡◌, ◌*◌, List, ℕ, length, ap, ◌∙◌, arith}
use Rattle.gen_image.specs.Draws.{draws}
use Rattle.gen_image.proofs.DrawLemmas.{length-draws}
use Rattle.gen_image.proofs.image.generate.Goals as goal

length-slice : (seed size : ℕ) (slice items : List ℕ) → slice ≡ items → items ≡ draws size seed (2 * size) → length slice ≡ 2 * size
length-slice seed size slice items same drawn = ap (λ (l : List ℕ). length l) (same ∙ drawn) ∙ length-draws size seed (2 * size)

pub split_at-requires : goal.split_at-requires
split_at-requires c =
    let long = length-slice c.args.seed c.args.size c.as_slice.result.now c.in_ok-draws.draws.items c.as_slice.ensures.value c.in_ok-draws.ensures in
    omega (arith, long, c.from.ensures)

pub segments-requires-clause-second : goal.segments-requires-clause-second
segments-requires-clause-second c =
    let long = length-slice c.args.seed c.args.size c.as_slice.result.now c.in_ok-draws.draws.items c.as_slice.ensures.value c.in_ok-draws.ensures in
    omega (arith, long, c.from.ensures, c.split_at.ensures.back_len)
