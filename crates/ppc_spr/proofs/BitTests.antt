-- A bit of a word that is tested by a mask of one bit.
use Rattle.std.proofs.Common.{◌≡◌, ℕ, zero, suc, ◌*◌, ◌^◌, ◌<◌, not, eqb, bit_and, ap, ◌∙◌, arith}
use Rattle.std.specs.Int.{bit_at}
use Rattle.std.proofs.lemmas.Bool.Decides.{nat_tests}
use Rattle.std.proofs.lemmas.Nat.{pow_pos}
use Rattle.std.proofs.lemmas.Nat.Bits.{and_pow, bit_at-lt}

-- a weight is there exactly where its bit is 1
weighed : (b w : ℕ) → b < 2 → 0 < w → not (eqb (b * w) 0) ≡ eqb b 1
weighed zero w h p = grind (arith, nat_tests)
weighed (suc zero) w h p = grind (arith, nat_tests)
weighed (suc (suc b)) w h p = absurd (omega arith)

pub tests_bit : (v k : ℕ) → not (eqb (bit_and v (2 ^ k)) 0) ≡ eqb (bit_at v k) 1
tests_bit v k = ap (λ n. not (eqb n 0)) (and_pow v k) ∙ weighed (bit_at v k) (2 ^ k) (bit_at-lt v k) (pow_pos k)
