-- Bytes of RAM in two parts, and doublewords of zeros.
use Rattle.std.proofs.Common.{◌≡◌, ℕ, zero, suc, ◌+◌, ◌*◌, ◌/◌, ◌%◌, ◌^◌, ◌<◌, ◌≤◌, List, [], ◌∷◌, ◌++◌, length, Option, Some, None, refl, arith, subst, append-nil, mul_comm, pow-add}
use Rattle.std.proofs.Math.Nat.{pow-succ', pow-le-pow_right, mul-le-mul_left, mod-lt, mod-eq_of_lt, div-lt_iff_lt-mul}
use Rattle.journal_core.specs.Bytes.{le_bytes, le_value, piece}
use Rattle.journal_core.specs.Past.{write_row, written, ram_after, IsWrite, AreWrites}
use Rattle.journal_core.specs.declared.rows.WriteRow.{WriteRow}
use Rattle.journal_core.proofs.BytesLemmas.{length-le_bytes, length-placed, length-piece}
use Rattle.storage_ops.specs.declared.parts.Part.{Part}
use Rattle.storage_ops.specs.Parts.{listed_second, bytes_in, bytes_of_second, IsSome, AreWithin}
use Rattle.storage_ops.proofs.MovingLemmas.{bits-of-bytes}
use Rattle.storage_ops.specs.Effects.{split, zeros, writes_of}

-- the weight of a byte as a power of two
pub weight_is : (size : ℕ) → size < 8 → 1 * 2 ^ (8 * size) % 18446744073709551616 ≡ 256 ^ size
weight_is size few =
    let most : 256 ^ size ≤ 256 ^ 7 = pow-le-pow_right {n = 256} (omega arith) {i = size} {j = 7} (omega arith) in
    rw (bits-of-bytes size) (omega arith)

-- a number behind some lowest bytes
pub joined-below : (lowest size next next_size : ℕ) → lowest < 256 ^ size → next < 256 ^ next_size → lowest + 256 ^ size * next < 256 ^ (size + next_size)
joined-below lowest size next next_size low high =
    let power : 256 ^ (size + next_size) ≡ 256 ^ size * 256 ^ next_size = pow-add 256 size next_size in
    let most : 256 ^ size * (next + 1) ≤ 256 ^ size * 256 ^ next_size = mul-le-mul_left (256 ^ size) (omega arith) in
    let more : 256 ^ size * (next + 1) ≡ 256 ^ size * next + 256 ^ size = omega arith in
    omega arith

pub joined-fits : (lowest size next next_size : ℕ) → lowest < 256 ^ size → next < 256 ^ next_size → size + next_size ≤ 8 → lowest + 256 ^ size * next < 2 ^ 64
joined-fits lowest size next next_size low high few =
    let below = joined-below lowest size next next_size low high in
    let power : 256 ^ (size + next_size) ≤ 256 ^ 8 = pow-le-pow_right {n = 256} (omega arith) {i = size + next_size} {j = 8} few in
    omega arith

-- the number of some bytes and others behind them
pub le_value-append : (xs ys : List ℕ) → le_value (xs ++ ys) ≡ le_value xs + 256 ^ length xs * le_value ys
unfolding le_value
le_value-append [] ys = omega arith
le_value-append (x ∷ xs) ys =
    let power : 256 ^ suc (length xs) ≡ 256 * 256 ^ length xs = pow-succ' 256 (length xs) in
    rw (le_value-append xs ys, power) (omega arith)

-- the bytes of two parts
pub two-parts : (ram : List ℕ) (p q : Part) (second : Option Part) → second ≡ Some q → p.at + p.size ≤ length ram →
    le_value (piece ram p.at p.size) + 256 ^ p.size * le_value (piece ram q.at q.size) ≡ le_value (bytes_in ram (p ∷ listed_second second))
two-parts ram p q second is within =
    rw is (rw (append-nil, le_value-append (piece ram p.at p.size) (piece ram q.at q.size), length-piece ram p.at p.size within) refl)

-- a number that fits its parts
pub fits-first : (value first second size : ℕ) → first + second ≡ size → value < 256 ^ size → second ≡ 0 → value % 256 ^ first ≡ value
fits-first value first second size whole fits none =
    let same : first ≡ size = omega arith in
    mod-eq_of_lt (rw same fits)

pub power-some : (size : ℕ) → 0 < 256 ^ size
power-some zero = omega arith
power-some (suc size) = rw pow-succ' (let more = power-some size in omega arith)

pub fits-second : (value first second size : ℕ) → first + second ≡ size → value < 256 ^ size → value / 256 ^ first < 256 ^ second
fits-second value first second size whole fits =
    let power : 256 ^ (first + second) ≡ 256 ^ first * 256 ^ second = pow-add 256 first second in
    let fits' : value < 256 ^ (first + second) = rw whole fits in
    (div-lt_iff_lt-mul (power-some first)).1 (rw (mul_comm (256 ^ second) (256 ^ first)) (rw power at fits'))

-- the rows of a number in one part, and in two
pub rows-once : (step thread : ℕ) (ram : List ℕ) (p : Part) (second : Option Part) (value size : ℕ) → second ≡ None → p.size + bytes_of_second second ≡ size → value < 256 ^ size →
    writes_of step thread ram (split value (p ∷ listed_second second)) ≡ write_row step thread ram p.at p.size value ∷ []
rows-once step thread ram p second value size is whole fits =
    let same : value % 256 ^ p.size ≡ value = fits-first value p.size (bytes_of_second second) size whole fits (rw is refl) in
    rw (is, same) refl

pub rows-twice : (step thread : ℕ) (ram : List ℕ) (p q : Part) (second : Option Part) (value size : ℕ) → second ≡ Some q → p.size + bytes_of_second second ≡ size → value < 256 ^ size →
    writes_of step thread ram (split value (p ∷ listed_second second)) ≡
    write_row step thread ram p.at p.size (value % 256 ^ p.size) ∷ write_row step thread (written ram (write_row step thread ram p.at p.size (value % 256 ^ p.size))) q.at q.size (value / 256 ^ p.size) ∷ []
rows-twice step thread ram p q second value size is whole fits =
    let sizes : p.size + q.size ≡ size = subst (λ (o : Option Part). p.size + bytes_of_second o ≡ size) is whole in
    let same : value / 256 ^ p.size % 256 ^ q.size ≡ value / 256 ^ p.size = mod-eq_of_lt (fits-second value p.size q.size size sizes fits) in
    rw (is, same) refl

-- RAM keeps its length
pub length-row : (ram : List ℕ) (row : WriteRow) → row.at + row.size ≤ length ram → length (written ram row) ≡ length ram
unfolding written
length-row ram row within = length-placed ram row.at (le_bytes row.size row.new) (rw (length-le_bytes row.size row.new) within)

-- RAM behind them
pub ram-once : (step thread : ℕ) (ram : List ℕ) (p : Part) (second : Option Part) (value size : ℕ) → second ≡ None → p.size + bytes_of_second second ≡ size → value < 256 ^ size →
    written ram (write_row step thread ram p.at p.size value) ≡ ram_after ram (writes_of step thread ram (split value (p ∷ listed_second second)))
unfolding ram_after
ram-once step thread ram p second value size is whole fits = rw (rows-once step thread ram p second value size is whole fits) refl

pub ram-twice : (step thread : ℕ) (ram : List ℕ) (p q : Part) (second : Option Part) (value size : ℕ) → second ≡ Some q → p.size + bytes_of_second second ≡ size → value < 256 ^ size →
    (let between = written ram (write_row step thread ram p.at p.size (value % 256 ^ p.size)) in written between (write_row step thread between q.at q.size (value / 256 ^ p.size))) ≡ ram_after ram (writes_of step thread ram (split value (p ∷ listed_second second)))
unfolding ram_after
ram-twice step thread ram p q second value size is whole fits = rw (rows-twice step thread ram p q second value size is whole fits) refl

-- each row has the right bytes
row-right : (step thread : ℕ) (ram : List ℕ) (at size value : ℕ) → 1 ≤ size → size ≤ 8 → at + size ≤ length ram → value < 256 ^ size → IsWrite ram (write_row step thread ram at size value)
row-right step thread ram at size value some most within fits = record { size = (some, most); within = within; old = refl; new = fits }

pub split-right : (step thread : ℕ) (ram : List ℕ) (p : Part) (second : Option Part) (value size : ℕ) → AreWithin (length ram) (p ∷ listed_second second) → 1 ≤ p.size → IsSome second → p.size + bytes_of_second second ≡ size → size ≤ 8 →
    AreWrites ram (writes_of step thread ram (split value (p ∷ listed_second second)))
unfolding AreWrites
split-right step thread ram p None value size within some more whole most =
    (row-right step thread ram p.at p.size (value % 256 ^ p.size) some (omega (arith, whole, most)) within.0 (mod-lt value (power-some p.size)), tt)
split-right step thread ram p (Some q) value size within some more whole most =
    let row = write_row step thread ram p.at p.size (value % 256 ^ p.size) in
    let same : length (written ram row) ≡ length ram = length-row ram row within.0 in (
      row-right step thread ram p.at p.size (value % 256 ^ p.size) some (omega (arith, whole, most)) within.0 (mod-lt value (power-some p.size)),
      (row-right step thread (written ram row) q.at q.size (value / 256 ^ p.size % 256 ^ q.size) more (omega (arith, whole, most)) (rw same within.1.0) (mod-lt (value / 256 ^ p.size) (power-some q.size)), tt),
    )

pub zeros-right : (step thread : ℕ) (ram : List ℕ) (count at : ℕ) → at + 8 * count ≤ length ram → AreWrites ram (writes_of step thread ram (zeros count at))
unfolding AreWrites
zeros-right step thread ram zero at within = tt
zeros-right step thread ram (suc count) at within =
    let row = write_row step thread ram at 8 0 in
    let same : length (written ram row) ≡ length ram = length-row ram row (omega (arith, within)) in (
      row-right step thread ram at 8 0 (omega arith) (omega arith) (omega (arith, within)) (power-some 8),
      zeros-right step thread (written ram row) count (at + 8) (rw same (omega (arith, within))),
    )
