-- A run of the first steps of a journal, and the step that was made last.
use Rattle.std.proofs.Common.{◌≡◌, ℕ, zero, suc, ◌+◌, ◌<◌, ◌≤◌, ◌==◌, if◌then◌else◌, nat_lt, Bool, true, false, List, [], ◌∷◌, ◌++◌, length, take, slice_get, Some, refl, ap, ◌∙◌, arith, eq-eqb}
use Rattle.std.proofs.lemmas.Bool.Decides.{nat_tests}
use Rattle.std.proofs.lemmas.List.{take_more}
use Rattle.std.proofs.lemmas.Option.{slice_get_within, get_or_from_slice_get}
use Rattle.journal_core.specs.Rows.{Rows, no_rows}
use Rattle.journal_core.specs.Steps.{StepRows, rows_of_step, rows_below, own_at, own_from, first_steps, steps_of, InOrder, IsDated, with_own}
use Rattle.journal_core.specs.Runs.{state_after, PastStep, made_after, EachKeeps, IsRun}
use Rattle.journal_core.specs.declared.rows.StepRow.{StepRow}
use Rattle.journal_core.specs.declared.rows.FillRow.{FillRow}
use Rattle.journal_core.specs.declared.rows.DoneRow.{DoneRow}
use Rattle.journal_core.specs.declared.rows.DeviceRow.{DeviceRow}
use Rattle.journal_core.specs.declared.rows.ReadRow.{ReadRow}
use Rattle.journal_core.specs.declared.rows.WriteRow.{WriteRow}
use Rattle.journal_core.proofs.CutLemmas.{order_cut, cut_none, below_kept, below_gone, length_take}
use Rattle.journal_core.proofs.RunsLemmas.{state_after-push}

eq_not : (a b : ℕ) → b ≤ a → (n : ℕ) → n < b → (a == n) ≡ false
eq_not a b above n below = grind (arith, nat_tests)

lt_yes : (a b : ℕ) → a < b → nat_lt a b ≡ true
lt_yes a b below = grind (arith, nat_tests)

lt_not : (a b : ℕ) → b ≤ a → nat_lt a b ≡ false
lt_not a b above = grind (arith, nat_tests)

not_lt : (a b : ℕ) → nat_lt a b ≡ false → b ≤ a
not_lt a b is = grind (arith, nat_tests)

is_lt : (a b : ℕ) → nat_lt a b ≡ true → a < b
is_lt a b is = grind (arith, nat_tests)

eq_less : (a b : ℕ) → a < b → (a == b) ≡ false
eq_less a b below = grind (arith, nat_tests)

eq_more : (a b : ℕ) → b < a → (a == b) ≡ false
eq_more a b above = grind (arith, nat_tests)

of_step_kept : {R : Type 0} (number : R → ℕ) (n : ℕ) (row : R) (rows : List R) → (number row == n) ≡ true → rows_of_step number n (row ∷ rows) ≡ row ∷ rows_of_step number n rows
unfolding rows_of_step
of_step_kept number n row rows is = rw is refl

of_step_by : {R : Type 0} (number : R → ℕ) (k n : ℕ) (row : R) (rows : List R) (keep : Bool) → nat_lt (number row) k ≡ keep → n < k → rows_of_step number n (rows_below number k rows) ≡ rows_of_step number n rows → rows_of_step number n (rows_below number k (row ∷ rows)) ≡ rows_of_step number n (row ∷ rows)
unfolding rows_of_step rows_below
of_step_by number k n row rows true is below same = rw is (ap (λ (more : List _). if number row == n then row ∷ more else more) same)
of_step_by number k n row rows false is below same = rw (is, eq_not (number row) k (not_lt (number row) k is) n below) same

-- a step that stays keeps its rows
of_step_cut : {R : Type 0} (number : R → ℕ) (k n : ℕ) (rows : List R) → n < k → rows_of_step number n (rows_below number k rows) ≡ rows_of_step number n rows
unfolding rows_of_step rows_below
of_step_cut number k n [] below = refl
of_step_cut number k n (row ∷ rows) below = of_step_by number k n row rows _ refl below (of_step_cut number k n rows below)

own_at_cut : (k n : ℕ) (j : Rows) (row : StepRow) → n < k → own_at n (first_steps k j) row ≡ own_at n j row
unfolding own_at first_steps
own_at_cut k n j row below =
    rw (
      of_step_cut (λ (r : ReadRow). r.moment) k n j.reads below,
      of_step_cut (λ (r : FillRow). r.moment) k n j.fills below,
      of_step_cut (λ (r : WriteRow). r.step) k n j.writes below,
      of_step_cut (λ (r : DoneRow). r.step) k n j.dones below,
      of_step_cut (λ (r : DeviceRow). r.step) k n j.devices below,
    ) refl

own_from_cut : (k n m : ℕ) (j : Rows) (rows : List StepRow) → n + m ≤ k → own_from n (first_steps k j) (take m rows) ≡ take m (own_from n j rows)
unfolding own_from
own_from_cut k n zero j rows few = refl
own_from_cut k n (suc m) j [] few = refl
own_from_cut k n (suc m) j (row ∷ rows) few =
    rw (own_at_cut k n j row (omega (arith, few)))
    (ap (λ (more : List StepRows). own_at n j row ∷ more) (own_from_cut k (n + 1) m j rows (omega (arith, few))))

steps_first : (k : ℕ) (j : Rows) → (first_steps k j).steps ≡ take k j.steps
unfolding first_steps
steps_first k j = refl

-- the steps of the first rows are the first steps
pub steps_of-first : (k : ℕ) (j : Rows) → steps_of (first_steps k j) ≡ take k (steps_of j)
unfolding steps_of
steps_of-first k j = ap (λ (rows : List StepRow). own_from 0 (first_steps k j) rows) (steps_first k j) ∙ own_from_cut k 0 k j j.steps (omega arith)

-- ---- the first rows are those of the first steps, one after another

kept_next : {R : Type 0} (number : R → ℕ) (n : ℕ) (row : R) (rows : List R) → number row < n →
    rows_below number (n + 1) rows ≡ rows_below number n rows ++ rows_of_step number n rows → rows_below number (n + 1) (row ∷ rows) ≡ rows_below number n (row ∷ rows) ++ rows_of_step number n (row ∷ rows)
unfolding rows_below rows_of_step
kept_next number n row rows below same =
    rw (lt_yes (number row) (n + 1) (omega (arith, below)), lt_yes (number row) n below, eq_less (number row) n below)
    (ap (λ (more : List _). row ∷ more) same)

own_next : {R : Type 0} (number : R → ℕ) (n high : ℕ) (row : R) (rows : List R) → number row ≡ n → InOrder number (number row) high rows →
    rows_below number (n + 1) rows ≡ rows_below number n rows ++ rows_of_step number n rows → rows_below number (n + 1) (row ∷ rows) ≡ rows_below number n (row ∷ rows) ++ rows_of_step number n (row ∷ rows)
own_next number n high row rows is order same =
    let none = cut_none number n (number row) high rows (omega (arith, is)) order in
    rw (below_kept number (n + 1) row rows (lt_yes (number row) (n + 1) (omega (arith, is))), below_gone number n row rows (lt_not (number row) n (omega (arith, is))), none, of_step_kept number n row rows (eq-eqb (number row) n is))
    (ap (λ (more : List _). row ∷ more) (rw none at same))

later_next : {R : Type 0} (number : R → ℕ) (n high : ℕ) (row : R) (rows : List R) → n < number row → InOrder number (number row) high rows →
    rows_below number (n + 1) rows ≡ rows_below number n rows ++ rows_of_step number n rows → rows_below number (n + 1) (row ∷ rows) ≡ rows_below number n (row ∷ rows) ++ rows_of_step number n (row ∷ rows)
unfolding rows_below rows_of_step
later_next number n high row rows above order same =
    rw (lt_not (number row) (n + 1) (omega (arith, above)), lt_not (number row) n (omega (arith, above)), eq_more (number row) n above) same

at_next : {R : Type 0} (number : R → ℕ) (n high : ℕ) (row : R) (rows : List R) (later : Bool) → nat_lt n (number row) ≡ later → n ≤ number row → InOrder number (number row) high rows →
    rows_below number (n + 1) rows ≡ rows_below number n rows ++ rows_of_step number n rows → rows_below number (n + 1) (row ∷ rows) ≡ rows_below number n (row ∷ rows) ++ rows_of_step number n (row ∷ rows)
at_next number n high row rows true is above order same = later_next number n high row rows (is_lt n (number row) is) order same
at_next number n high row rows false is above order same = own_next number n high row rows (omega (arith, above, not_lt n (number row) is)) order same

next_by : {R : Type 0} (number : R → ℕ) (n high : ℕ) (row : R) (rows : List R) (keep : Bool) → nat_lt (number row) n ≡ keep → InOrder number (number row) high rows →
    rows_below number (n + 1) rows ≡ rows_below number n rows ++ rows_of_step number n rows → rows_below number (n + 1) (row ∷ rows) ≡ rows_below number n (row ∷ rows) ++ rows_of_step number n (row ∷ rows)
next_by number n high row rows true is order same = kept_next number n row rows (is_lt (number row) n is) same
next_by number n high row rows false is order same = at_next number n high row rows _ refl (not_lt (number row) n is) order same

-- the rows of one more step
below_next : {R : Type 0} (number : R → ℕ) (n low high : ℕ) (rows : List R) → InOrder number low high rows → rows_below number (n + 1) rows ≡ rows_below number n rows ++ rows_of_step number n rows
unfolding rows_below rows_of_step InOrder
below_next number n low high [] order = refl
below_next number n low high (row ∷ rows) order = next_by number n high row rows _ refl order.2 (below_next number n (number row) high rows order.2)

own_steps : (k : ℕ) (j : Rows) (row : StepRow) → (own_at k j row).row ≡ row
unfolding own_at
own_steps k j row = refl

take_one : (rows : List StepRow) (k : ℕ) (row : StepRow) → slice_get rows k ≡ Some row → take (k + 1) rows ≡ take k rows ++ row ∷ []
take_one rows k row is =
    take_more rows k row (slice_get_within rows k row is) ∙ ap (λ (r : StepRow). take k rows ++ r ∷ []) (get_or_from_slice_get rows k row row is)

from_none : (k : ℕ) → 0 + k ≡ k
from_none k = omega arith

nothing : (n : ℕ) → n + 0 ≡ n
nothing n = omega arith

first_next : (k : ℕ) (j : Rows) (row : StepRow) → IsDated j → slice_get j.steps k ≡ Some row → first_steps (k + 1) j ≡ with_own (first_steps k j) (own_at k j row)
unfolding first_steps with_own own_at
first_next k j row dated is =
    rw (
      below_next (λ (r : ReadRow). r.moment) k 0 (length j.steps) j.reads dated.reads,
      below_next (λ (r : FillRow). r.moment) k 0 (length j.steps) j.fills dated.fills,
      below_next (λ (r : WriteRow). r.step) k 0 (length j.steps) j.writes dated.writes,
      below_next (λ (r : DoneRow). r.step) k 0 (length j.steps) j.dones dated.dones,
      below_next (λ (r : DeviceRow). r.step) k 0 (length j.steps) j.devices dated.devices,
      take_one j.steps k row is,
    ) refl

own_take : (n k : ℕ) (j : Rows) (rows : List StepRow) (row : StepRow) → slice_get rows k ≡ Some row → take (suc k) (own_from n j rows) ≡ take k (own_from n j rows) ++ own_at (n + k) j row ∷ []
unfolding own_from
own_take n k j [] row is = cc
own_take n zero j (r ∷ rows) row is = let same : r ≡ row = cc in rw (same, nothing n) refl
own_take n (suc k) j (r ∷ rows) row is =
    let rest = own_take (n + 1) k j rows row is in
    let same : n + 1 + k ≡ n + suc k = omega arith in
    ap (λ (more : List StepRows). own_at n j r ∷ more) (rw same at rest)

some_row : (rows : List StepRow) (k : ℕ) → k < length rows → (row : StepRow) × (slice_get rows k ≡ Some row)
some_row [] k below = absurd (omega (arith, below))
some_row (r ∷ rows) zero below = (r, refl)
some_row (r ∷ rows) (suc k) below = some_row rows k (omega (arith, below))

first_none : (j : Rows) → IsDated j → first_steps 0 j ≡ no_rows
unfolding first_steps
first_none j dated =
    rw (
      cut_none (λ (r : ReadRow). r.moment) 0 0 (length j.steps) j.reads (omega arith) dated.reads,
      cut_none (λ (r : FillRow). r.moment) 0 0 (length j.steps) j.fills (omega arith) dated.fills,
      cut_none (λ (r : WriteRow). r.step) 0 0 (length j.steps) j.writes (omega arith) dated.writes,
      cut_none (λ (r : DoneRow). r.step) 0 0 (length j.steps) j.dones (omega arith) dated.dones,
      cut_none (λ (r : DeviceRow). r.step) 0 0 (length j.steps) j.devices (omega arith) dated.devices,
    ) refl

first_whole : (k : ℕ) (j : Rows) → k ≤ length j.steps → IsDated j → first_steps k j ≡ state_after with_own no_rows (take k (steps_of j))
unfolding steps_of state_after
first_whole zero j few dated = first_none j dated
first_whole (suc k) j few dated =
    let row = some_row j.steps k (omega (arith, few)) in
    let more : suc k ≡ k + 1 = omega arith in
    ap (λ (n : ℕ). first_steps n j) more ∙ first_next k j row.0 dated row.1 ∙
    (rw (own_take 0 k j j.steps row.0 row.1, state_after-push, from_none k)
    (ap (λ (b : Rows). with_own b (own_at k j row.0)) (first_whole k j (omega (arith, few)) dated)))

each_front : {S : Type 0} (Keeps : Rows → List (PastStep S) → S → StepRows → Type 0) (next : S → StepRows → S) (before : Rows) (past : List (PastStep S)) (s : S) (k : ℕ) (steps : List StepRows) →
    EachKeeps Keeps next before past s steps → EachKeeps Keeps next before past s (take k steps)
unfolding EachKeeps
each_front Keeps next before past s zero steps each = tt
each_front Keeps next before past s (suc k) [] each = tt
each_front Keeps next before past s (suc k) (own ∷ steps) each = (each.0, each_front Keeps next (with_own before own) (record { state = s; own = own } ∷ past) (next s own) k steps each.1)

dated_first : (k : ℕ) (j : Rows) → k ≤ length j.steps → IsDated j → IsDated (first_steps k j)
unfolding first_steps
dated_first k j few dated =
    let long = length_take k j.steps few in
    record {
      reads = rw long (order_cut (λ (r : ReadRow). r.moment) 0 (length j.steps) k j.reads dated.reads);
      fills = rw long (order_cut (λ (r : FillRow). r.moment) 0 (length j.steps) k j.fills dated.fills);
      writes = rw long (order_cut (λ (r : WriteRow). r.step) 0 (length j.steps) k j.writes dated.writes);
      dones = rw long (order_cut (λ (r : DoneRow). r.step) 0 (length j.steps) k j.dones dated.dones);
      devices = rw long (order_cut (λ (r : DeviceRow). r.step) 0 (length j.steps) k j.devices dated.devices);
    }

-- the first steps of a run are a run
pub IsRun-first : {S : Type 0} (Keeps : Rows → List (PastStep S) → S → StepRows → Type 0) (next : S → StepRows → S) (start : S) (j : Rows) (past : List (PastStep S)) (now : S) (k : ℕ) →
    IsRun Keeps next start j past now → k ≤ length j.steps →
    IsRun Keeps next start (first_steps k j) (made_after next [] start (take k (steps_of j))) (state_after next start (take k (steps_of j)))
IsRun-first Keeps next start j past now k run few = record {
  dated = dated_first k j few run.dated;
  whole = rw steps_of-first (first_whole k j few run.dated);
  each = rw steps_of-first (each_front Keeps next no_rows [] start k (steps_of j) run.each);
  steps = rw steps_of-first refl;
  last = rw steps_of-first refl;
}
