-- The numbers of fills name read rows, also when rows are added.
use Rattle.std.proofs.Common.{ℕ, zero, suc, ◌<◌, ◌≤◌, List, [], ◌∷◌, ◌++◌, length, Some, arith, refl, sym, subst, ◌≡◌, ◌+◌}
use Rattle.std.specs.Prelude.{take, slice_get, slice_index}
use Rattle.std.specs.List.{AllByRecursion}
use Rattle.journal_core.specs.declared.rows.ReadRow.{ReadRow}
use Rattle.journal_core.specs.declared.rows.FillRow.{FillRow}
use Rattle.journal_core.specs.Steps.{InOrder}
use Rattle.journal_core.specs.Standing.{fill_reads, AreRows, IsNamed, AreNamed, AreShort}
use Rattle.journal_core.proofs.StandingStays.{rows_front, all_mapped, all_get}

-- what holds of all, and of one more
pub all_with : {X : Type 0} (P : X → Type 0) (xs : List X) (x : X) → AllByRecursion P xs → P x → AllByRecursion P (xs ++ x ∷ [])
all_with P [] x all one = (one, tt)
all_with P (y ∷ xs) x all one = (all.0, all_with P xs x all.1 one)

-- more read rows change no name
pub named_by_more : (reads more : List ReadRow) (fills : List FillRow) → AreNamed reads fills → AreNamed (reads ++ more) fills
named_by_more reads more fills named =
    all_mapped (IsNamed reads) (IsNamed (reads ++ more)) (λ f h. record { readings = h.readings; named = rows_front reads more (fill_reads f) h.readings h.named; made = h.made }) fills named

-- some reading is there
found : (reads : List ReadRow) (i : ℕ) → i < length reads → (r : ReadRow) × (slice_get reads i ≡ Some r)
found [] i below = absurd (omega (arith, below))
found (r ∷ reads) zero below = (r, refl)
found (r ∷ reads) (suc i) below = found reads i (omega (arith, below))

-- numbers that are below the number of read rows name read rows
taken_named : (reads : List ReadRow) (c : ℕ) (is : List ℕ) → ((k : ℕ) → k < c → slice_index is k < length reads) → (rs : List ReadRow) × AreRows reads (take c is) rs
taken_named reads zero is h = ([], tt)
taken_named reads (suc c) [] h = ([], tt)
taken_named reads (suc c) (i ∷ is) h =
    let first : (r : ReadRow) × (slice_get reads i ≡ Some r) = found reads i (h 0 (omega arith)) in
    let rest : (rs : List ReadRow) × AreRows reads (take c is) rs = taken_named reads c is (λ k below. h (suc k) (omega (arith, below))) in
    (first.0 ∷ rest.0, (first.1, rest.1))

-- rows in order are below their end
made_below : (low high : ℕ) (reads : List ReadRow) → InOrder (λ (r : ReadRow). r.moment) low high reads → AllByRecursion (λ (r : ReadRow). r.moment < high) reads
unfolding InOrder
made_below low high [] order = tt
made_below low high (r ∷ reads) order = (order.1, made_below r.moment high reads order.2)

-- so are those that are named
named_made : (n : ℕ) (reads : List ReadRow) (is : List ℕ) (rs : List ReadRow) → AllByRecursion (λ (r : ReadRow). r.moment < n + 1) reads → AreRows reads is rs → AllByRecursion (λ (r : ReadRow). r.moment ≤ n) rs
named_made n reads [] [] all h = tt
named_made n reads [] (r ∷ rs) all h = absurd h
named_made n reads (i ∷ is) [] all h = absurd h
named_made n reads (i ∷ is) (r ∷ rs) all h =
    let below : r.moment < n + 1 = all_get (λ (x : ReadRow). x.moment < n + 1) reads i r all h.0 in
    (omega (arith, below), named_made n reads is rs all h.1)

-- a fill of the step that is being made whose numbers are below the number of reads
pub named_with : (reads : List ReadRow) (fills : List FillRow) (f : FillRow) (n : ℕ) → f.moment ≡ n → InOrder (λ (r : ReadRow). r.moment) 0 (n + 1) reads → AreNamed reads fills → ((k : ℕ) → k < f.count → slice_index f.reads k < length reads) → AreNamed reads (fills ++ f ∷ [])
named_with reads fills f n now dated named below =
    let rows : (rs : List ReadRow) × AreRows reads (take f.count f.reads) rs = taken_named reads f.count f.reads below in
    all_with (IsNamed reads) fills f named
    (record { readings = rows.0; named = rows.1; made = subst (λ m. AllByRecursion (λ (r : ReadRow). r.moment ≤ m) rows.0) (sym now) (named_made n reads (fill_reads f) rows.0 (made_below 0 (n + 1) reads dated) rows.1) })

pub short_with : (fills : List FillRow) (f : FillRow) → AreShort fills → f.count ≤ 36 → AreShort (fills ++ f ∷ [])
short_with fills f short few = all_with (λ (g : FillRow). g.count ≤ 36) fills f short few
