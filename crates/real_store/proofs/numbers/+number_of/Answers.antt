use Rattle.std.proofs.Common.{◌≡◌, ◌<◌, ◌≤◌, ◌^◌, length, ℕ, ◌+◌, ◌-◌, ◌*◌, List, [], ◌∷◌, refl, arith, slice_index_or, take, drop}
use Rattle.std.proofs.lemmas.List.{take_all}
use Rattle.std.proofs.Math.Nat.{pow-le-pow_right}
use Rattle.journal_core.specs.Bytes.{le_value}
use Rattle.real_store.proofs.numbers.+number_of.Goals as goal

-- a number of at most seven bytes leaves room for one more
small : (bs : List ℕ) (rest : ℕ) → 1 ≤ length bs → length bs ≤ 8 → rest < 256 ^ length (take (length bs - 1) (drop 1 bs)) → 256 * rest + 256 ≤ 2 ^ 64
small [] rest some most below = absurd (omega arith)
small (b ∷ bs) rest some most below =
    let front : take (length (b ∷ bs) - 1) bs ≡ bs = take_all (length (b ∷ bs) - 1) bs (omega arith) in
    let below' : rest < 256 ^ length bs = rw front at below in
    let power : 256 ^ length bs ≤ 256 ^ 7 = pow-le-pow_right {n = 256} (omega arith) {i = length bs} {j = 7} (omega arith) in
    omega arith

-- the number of a first byte and the others
number : (bs : List ℕ) → 1 ≤ length bs → slice_index_or bs 0 0 + 256 * le_value (take (length bs - 1) (drop 1 bs)) ≡ le_value bs
unfolding le_value
number [] some = absurd (omega arith)
number (b ∷ bs) some =
    let front : take (length (b ∷ bs) - 1) bs ≡ bs = take_all (length (b ∷ bs) - 1) bs (omega arith) in
    rw front refl

-- of no bytes
none : (bs : List ℕ) → length bs < 1 → 0 ≡ le_value bs
unfolding le_value
none [] few = refl
none (b ∷ bs) few = absurd (omega arith)

pub overflow_mul-result : goal.overflow_mul-result
overflow_mul-result t c =
    omega (arith, small c.args.bytes.now c.number_of.result c.in-len1-up.len_at_least c.requires c.number_of.ensures.below)

pub overflow_add-result : goal.overflow_add-result
overflow_add-result t c =
    omega (arith, c.type_inv.bytes 0, small c.args.bytes.now c.number_of.result c.in-len1-up.len_at_least c.requires c.number_of.ensures.below)

pub returns-in-empty-clause-value : goal.returns-in-empty-clause-value
returns-in-empty-clause-value t c = none c.args.bytes.now c.in-empty.len_below

pub returns-in-len1-up-clause-value : goal.returns-in-len1-up-clause-value
returns-in-len1-up-clause-value t c = rw c.number_of.ensures.value (number c.args.bytes.now c.in-len1-up.len_at_least)
