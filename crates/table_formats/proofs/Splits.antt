-- A doubleword is the sum of its fields, each with its weight.
use Rattle.std.proofs.Common.{◌≡◌, ℕ, zero, suc, ◌+◌, ◌*◌, ◌/◌, ◌%◌, ◌^◌, ◌<◌, ◌==◌, sym, ◌∙◌, ap, arith}
use Rattle.std.proofs.lemmas.Nat.{shr_split, shr-shr}
use Rattle.ppc_bits.specs.Bits.{bit, is_set}
use Rattle.table_formats.specs.Entries.{flag, weight}

-- the bits above the lowest k are the m lowest of them and the rest
pub split : (w k m : ℕ) → w / 2 ^ k ≡ w / 2 ^ (k + m) * 2 ^ m + w / 2 ^ k % 2 ^ m
split w k m = sym (shr_split (w / 2 ^ k) m) ∙ ap (λ n. n * 2 ^ m + w / 2 ^ k % 2 ^ m) (shr-shr w k m)

-- a flag is its bit with its weight
pub flag_is : (w i : ℕ) → flag i (is_set 64 w i) ≡ bit 64 w i * weight i
flag_is w i = by_bit (bit 64 w i) (omega arith)
  where
    by_bit : (b : ℕ) → b < 2 → flag i (b == 1) ≡ b * weight i
    by_bit zero h = omega arith
    by_bit (suc zero) h = omega arith
    by_bit (suc (suc n)) h = absurd (omega arith)
