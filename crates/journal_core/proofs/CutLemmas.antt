-- Lists of rows, cut to those of the first steps.
use Rattle.std.proofs.Common.{◌≡◌, ℕ, zero, suc, ◌+◌, ◌-◌, ◌<◌, ◌≤◌, nat_lt, Bool, true, false, List, [], ◌∷◌, ◌++◌, length, take, drop, slice_get, slice_index_or, Some, refl, sym, ap, ◌∙◌, arith, subst}
use Rattle.std.proofs.lemmas.Bool.Decides.{nat_tests}
use Rattle.std.proofs.lemmas.List.{take_more, take-append-drop, append-nil}
use Rattle.std.proofs.lemmas.List.Elements.{filter-append}
use Rattle.std.proofs.lemmas.Option.{slice_get_within, get_or_from_slice_get}
use Rattle.std.specs.List.{AllByRecursion}
use Rattle.journal_core.specs.Steps.{InOrder, rows_below}

below_yes : (a b : ℕ) → a < b → nat_lt a b ≡ true
below_yes a b below = grind (arith, nat_tests)

below_not : (a b : ℕ) → b ≤ a → nat_lt a b ≡ false
below_not a b above = grind (arith, nat_tests)

below_is : (a b : ℕ) → nat_lt a b ≡ true → a < b
below_is a b is = grind (arith, nat_tests)

above_is : (a b : ℕ) → nat_lt a b ≡ false → b ≤ a
above_is a b is = grind (arith, nat_tests)

pub cut_all : {R : Type 0} (number : R → ℕ) (n low high : ℕ) (rows : List R) → high ≤ n → InOrder number low high rows → rows_below number n rows ≡ rows
unfolding rows_below InOrder
cut_all number n low high [] above order = refl
cut_all number n low high (row ∷ rows) above order =
    rw (below_yes (number row) n (omega arith)) (ap (λ (more : List _). row ∷ more) (cut_all number n (number row) high rows above order.2))

pub cut_none : {R : Type 0} (number : R → ℕ) (n low high : ℕ) (rows : List R) → n ≤ low → InOrder number low high rows → rows_below number n rows ≡ []
unfolding rows_below InOrder
cut_none number n low high [] above order = refl
cut_none number n low high (row ∷ rows) above order =
    rw (below_not (number row) n (omega arith)) (cut_none number n (number row) high rows (omega arith) order.2)

-- what stands at a number
pub got : {R : Type 0} (rows : List R) (i : ℕ) (x : R) → i < length rows → x ≡ slice_index_or rows i x → slice_get rows i ≡ Some x
got [] i x below is = absurd (omega (arith, below))
got (row ∷ rows) zero x below is = ap Some (sym is)
got (row ∷ rows) (suc i) x below is = got rows i x (omega (arith, below)) is

-- the rows up to the one with this number
pub take_one : {R : Type 0} (rows : List R) (left : ℕ) (row : R) → 0 < left → slice_get rows (left - 1) ≡ Some row → take left rows ≡ take (left - 1) rows ++ row ∷ []
take_one rows left row some is =
    let within = slice_get_within rows (left - 1) row is in
    let same : left - 1 + 1 ≡ left = omega arith in
    let more = take_more rows (left - 1) row within in
    subst (λ (k : ℕ). take k rows ≡ take (left - 1) rows ++ row ∷ []) same (more ∙ ap (λ (r : _). take (left - 1) rows ++ r ∷ []) (get_or_from_slice_get rows (left - 1) row row is))

-- a row of the step or later is not before it
pub cut_last : {R : Type 0} (number : R → ℕ) (n : ℕ) (rows : List R) (row : R) → n ≤ number row → rows_below number n (rows ++ row ∷ []) ≡ rows_below number n rows
unfolding rows_below
cut_last number n rows row late =
    let no_more = below_not (number row) n late in
    filter-append (λ (w : _). nat_lt (number w) n) rows (row ∷ []) ∙ (rw (no_more, append-nil) refl)

order_front : {R : Type 0} (number : R → ℕ) (low high : ℕ) (rows more : List R) → InOrder number low high (rows ++ more) → InOrder number low high rows
unfolding InOrder
order_front number low high [] more order = tt
order_front number low high (row ∷ rows) more order = (order.0, order.1, order_front number (number row) high rows more order.2)

order_below : {R : Type 0} (number : R → ℕ) (low high : ℕ) (rows : List R) (row : R) → InOrder number low high (rows ++ row ∷ []) → (low ≤ number row) × InOrder number low (number row + 1) (rows ++ row ∷ [])
unfolding InOrder
order_below number low high [] row order = (order.0, (order.0, omega arith, tt))
order_below number low high (r ∷ rows) row order =
    let inner = order_below number (number r) high rows row order.2 in
    (omega (arith, order.0, inner.0), (order.0, omega (arith, inner.0), inner.1))

-- where a row is of an earlier step, so are all rows up to it
pub cut_early : {R : Type 0} (number : R → ℕ) (n high : ℕ) (rows : List R) (left : ℕ) (row : R) → 0 < left → slice_get rows (left - 1) ≡ Some row → number row < n →
    InOrder number 0 high rows → rows_below number n (take left rows) ≡ take left rows
cut_early number n high rows left row some is early order =
    let split = take_one rows left row some is in
    let front = order_front number 0 high (take left rows) (drop left rows) (rw take-append-drop order) in
    let below = (order_below number 0 high (take (left - 1) rows) row (rw split at front)).1 in
    rw split (cut_all number n 0 (number row + 1) (take (left - 1) rows ++ row ∷ []) (omega arith) below)

-- ---- what is left of a list

-- one row more or less
pub below_kept : {R : Type 0} (number : R → ℕ) (n : ℕ) (row : R) (rows : List R) → nat_lt (number row) n ≡ true → rows_below number n (row ∷ rows) ≡ row ∷ rows_below number n rows
unfolding rows_below
below_kept number n row rows is = rw is refl

pub below_gone : {R : Type 0} (number : R → ℕ) (n : ℕ) (row : R) (rows : List R) → nat_lt (number row) n ≡ false → rows_below number n (row ∷ rows) ≡ rows_below number n rows
unfolding rows_below
below_gone number n row rows is = rw is refl

order_by : {R : Type 0} (number : R → ℕ) (low high n : ℕ) (row : R) (rows : List R) (keep : Bool) → nat_lt (number row) n ≡ keep → InOrder number low high (row ∷ rows) → InOrder number (number row) n (rows_below number n rows) → InOrder number low n (rows_below number n (row ∷ rows))
unfolding InOrder
order_by number low high n row rows true is order rest = rw (below_kept number n row rows is) (order.0, below_is (number row) n is, rest)
order_by number low high n row rows false is order rest = rw (below_gone number n row rows is, cut_none number n (number row) high rows (above_is (number row) n is) order.2) tt

-- the rows that are left are in order, below the cut
pub order_cut : {R : Type 0} (number : R → ℕ) (low high n : ℕ) (rows : List R) → InOrder number low high rows → InOrder number low n (rows_below number n rows)
unfolding rows_below InOrder
order_cut number low high n [] order = tt
order_cut number low high n (row ∷ rows) order = order_by number low high n row rows _ refl order (order_cut number (number row) high n rows order.2)

at_least : {R : Type 0} (number : R → ℕ) (low high : ℕ) (rows : List R) (i : ℕ) (r : R) → InOrder number low high rows → slice_get rows i ≡ Some r → low ≤ number r
unfolding InOrder
at_least number low high [] i r order is = cc
at_least number low high (row ∷ rows) zero r order is = let same : row ≡ r = cc in rw (← same) order.0
at_least number low high (row ∷ rows) (suc i) r order is = let more = at_least number (number row) high rows i r order.2 is in omega (arith, order.0, more)

-- a row that is left keeps its number
pub get_cut : {R : Type 0} (number : R → ℕ) (low high n : ℕ) (rows : List R) (i : ℕ) (r : R) → InOrder number low high rows → slice_get rows i ≡ Some r → number r < n → slice_get (rows_below number n rows) i ≡ Some r
unfolding rows_below InOrder
get_cut number low high n [] i r order is below = cc
get_cut number low high n (row ∷ rows) zero r order is below =
    let same : row ≡ r = cc in
    rw (below_yes (number row) n (rw same below)) is
get_cut number low high n (row ∷ rows) (suc i) r order is below =
    let above = at_least number (number row) high rows i r order.2 is in
    rw (below_yes (number row) n (omega (arith, above, below))) (get_cut number (number row) high n rows i r order.2 is below)

all_by : {R : Type 0} (P Q : R → Type 0) (number : R → ℕ) (n : ℕ) (row : R) (rows : List R) (keep : Bool) → nat_lt (number row) n ≡ keep → ((r : R) → number r < n → P r → Q r) → P row → AllByRecursion Q (rows_below number n rows) → AllByRecursion Q (rows_below number n (row ∷ rows))
all_by P Q number n row rows true is onward p rest = rw (below_kept number n row rows is) (onward row (below_is (number row) n is) p, rest)
all_by P Q number n row rows false is onward p rest = rw (below_gone number n row rows is) rest

-- what holds of all rows holds of those that are left
pub all_cut : {R : Type 0} (P Q : R → Type 0) (number : R → ℕ) (n : ℕ) (rows : List R) → ((r : R) → number r < n → P r → Q r) → AllByRecursion P rows → AllByRecursion Q (rows_below number n rows)
unfolding rows_below
all_cut P Q number n [] onward all = tt
all_cut P Q number n (row ∷ rows) onward all = all_by P Q number n row rows _ refl onward all.0 (all_cut P Q number n rows onward all.1)

order_higher : {R : Type 0} (number : R → ℕ) (low high : ℕ) (rows : List R) → InOrder number low high rows → InOrder number low (high + 1) rows
unfolding InOrder
order_higher number low high [] order = tt
order_higher number low high (r ∷ rows) order = (order.0, omega (arith, order.1), order_higher number (number r) high rows order.2)

pub order_cut_so_far : {R : Type 0} (number : R → ℕ) (high n : ℕ) (rows : List R) → InOrder number 0 high rows → InOrder number 0 (n + 1) (rows_below number n rows)
order_cut_so_far number high n rows order = order_higher number 0 n (rows_below number n rows) (order_cut number 0 high n rows order)

pub length_take : {R : Type 0} (k : ℕ) (rows : List R) → k ≤ length rows → length (take k rows) ≡ k
length_take zero rows few = refl
length_take (suc k) [] few = absurd (omega (arith, few))
length_take (suc k) (row ∷ rows) few = ap suc (length_take k rows (omega (arith, few)))
