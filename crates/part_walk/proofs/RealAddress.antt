-- A page's address with its low bits replaced stays in the page's range.
use Rattle.std.proofs.Common.{◌≡◌, ℕ, ◌<◌, ◌≤◌, ◌+◌, ◌-◌, ◌*◌, ◌/◌, ◌%◌, ◌^◌, arith, ap, sym, ◌∙◌, subst}
use Rattle.std.proofs.lemmas.Nat.{div_below, pow-add, pow_pos, mul-le}
use Rattle.std.proofs.Math.Nat.{mod-lt}

below : (q r m k : ℕ) → q < m → r < k → (q + 1) * k ≤ m * k → q * k + r < m * k
below q r m k one two three = omega (arith, one, two, three)

in_all : (low : ℕ) → low ≤ 30 → 57 ≡ 57 - low + low
in_all low few = omega (arith, few)

pub real_small : (page low address : ℕ) → low ≤ 30 → page < 2 ^ 57 → page / 2 ^ low * 2 ^ low + address % 2 ^ low < 2 ^ 57
real_small page low address few small =
    let whole : 2 ^ 57 ≡ 2 ^ (57 - low) * 2 ^ low = ap (λ n. 2 ^ n) (in_all low few) ∙ pow-add 2 (57 - low) low in
    let quotient : page / 2 ^ low < 2 ^ (57 - low) = div_below page (2 ^ low) (2 ^ (57 - low)) (pow_pos low) (subst (λ n. page < n) whole small) in
    let rest : address % 2 ^ low < 2 ^ low = mod-lt address (pow_pos low) in
    let one_more : (page / 2 ^ low + 1) * 2 ^ low ≤ 2 ^ (57 - low) * 2 ^ low = mul-le (page / 2 ^ low + 1) (2 ^ low) (2 ^ (57 - low)) (2 ^ low) (omega (arith, quotient)) (omega arith) in
    subst (λ n. page / 2 ^ low * 2 ^ low + address % 2 ^ low < n) (sym whole) (below (page / 2 ^ low) (address % 2 ^ low) (2 ^ (57 - low)) (2 ^ low) quotient rest one_more)
