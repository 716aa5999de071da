use Rattle.std.proofs.Common.{rules, ◌≡◌, ℕ, ap, ◌∙◌, arith, ◌%◌, ◌/◌, ◌^◌, ◌<◌, ◌≤◌, count_ones}
use Rattle.std.proofs.lemmas.Nat.{ones-le}
use Rattle.fixed_logic.specs.Parts.{word_in}
use Rattle.fixed_logic.specs.Counts.{ones_of}
use Rattle.fixed_logic.proofs.CountLemmas.{ones_of_is}
use Rattle.fixed_logic.proofs.PartLemmas.{two_words}
use Rattle.fixed_logic.proofs.counts.popcntw.Goals as goal

high_word : (s : ℕ) → s < 2 ^ 64 → s / 2 ^ 32 ≡ word_in s 0
high_word s h = omega arith

low_word : (s : ℕ) → s % 2 ^ 32 ≡ word_in s 1
low_word s = omega arith

pub returns : goal.returns
returns c =
    let few : count_ones (c.args.s / 2 ^ 32) ≤ 32 = ones-le 32 (c.args.s / 2 ^ 32) (omega (arith, c.ranges.s.fits)) in
    two_words (λ i. ones_of 32 (word_in c.args.s i)) c.from.result c.from-2.result (omega (arith, few, c.from.ensures))
    (c.from.ensures ∙ ap count_ones (high_word c.args.s (search rules)) ∙ ones_of_is 32 (word_in c.args.s 0) (omega arith))
    (c.from-2.ensures ∙ ap count_ones (c.low_word-low.ensures ∙ low_word c.args.s) ∙ ones_of_is 32 (word_in c.args.s 1) (omega arith))
