-- Which fills stand is not changed by what comes later.
use Rattle.std.proofs.Common.{◌≡◌, ℕ, zero, suc, ◌+◌, ◌<◌, ◌≤◌, List, [], ◌∷◌, ◌++◌, length, Some, None, arith, ap, sym, ◌∙◌, refl, subst}
use Rattle.std.specs.Prelude.{take, drop, slice_get, count_by}
use Rattle.std.specs.List.{AllByRecursion}
use Rattle.std.proofs.lemmas.List.{take-append-le}
use Rattle.journal_core.specs.declared.rows.ReadRow.{ReadRow}
use Rattle.journal_core.specs.declared.rows.FillRow.{FillRow}
use Rattle.journal_core.specs.Rows.{Rows}
use Rattle.journal_core.specs.Covers.{IsCurrent}
use Rattle.journal_core.specs.Turns.{turn_of}
use Rattle.journal_core.specs.Standing.{fill_reads, AreRows, IsNamed, AreNamed, is_same_set, IsStanding}
use Rattle.journal_core.proofs.CurrentLemmas.{current_with_later, current_without_later}
use Rattle.journal_core.specs.Translating.{GoesOn}

nothing : {X : Type 0} (x : X) → None ≡ Some x → ⊥
nothing x e = cc

some_same : {X : Type 0} (x y : X) → Some x ≡ Some y → x ≡ y
some_same x y e = cc

pub at_front : {X : Type 0} (xs ys : List X) (i : ℕ) (x : X) → slice_get xs i ≡ Some x → slice_get (xs ++ ys) i ≡ Some x
at_front [] ys i x e = absurd (nothing x e)
at_front (y ∷ xs) ys zero x e = e
at_front (y ∷ xs) ys (suc i) x e = at_front xs ys i x e

pub in_front : {X : Type 0} (xs ys : List X) (i : ℕ) (x : X) → i < length xs → slice_get (xs ++ ys) i ≡ Some x → slice_get xs i ≡ Some x
in_front [] ys i x below e = absurd (omega arith)
in_front (y ∷ xs) ys zero x below e = e
in_front (y ∷ xs) ys (suc i) x below e = in_front xs ys i x (omega (arith, below)) e

pub rows_front : (reads more : List ReadRow) (is : List ℕ) (rs : List ReadRow) → AreRows reads is rs → AreRows (reads ++ more) is rs
rows_front reads more [] [] h = tt
rows_front reads more [] (r ∷ rs) h = h
rows_front reads more (i ∷ is) [] h = h
rows_front reads more (i ∷ is) (r ∷ rs) h = (at_front reads more i r h.0, rows_front reads more is rs h.1)

pub rows_unique : (reads : List ReadRow) (is : List ℕ) (rs qs : List ReadRow) → AreRows reads is rs → AreRows reads is qs → rs ≡ qs
rows_unique reads [] [] [] a b = refl
rows_unique reads [] [] (q ∷ qs) a b = absurd b
rows_unique reads [] (r ∷ rs) qs a b = absurd a
rows_unique reads (i ∷ is) [] qs a b = absurd a
rows_unique reads (i ∷ is) (r ∷ rs) [] a b = absurd b
rows_unique reads (i ∷ is) (r ∷ rs) (q ∷ qs) a b =
    let first : r ≡ q = some_same r q (sym a.0 ∙ b.0) in
    let rest : rs ≡ qs = rows_unique reads is rs qs a.1 b.1 in
    ap (λ x. x ∷ rs) first ∙ ap (λ xs. q ∷ xs) rest

pub all_get : {X : Type 0} (P : X → Type 0) (xs : List X) (i : ℕ) (x : X) → AllByRecursion P xs → slice_get xs i ≡ Some x → P x
all_get P [] i x all e = absurd (nothing x e)
all_get P (y ∷ xs) zero x all e = subst P (some_same y x e) all.0
all_get P (y ∷ xs) (suc i) x all e = all_get P xs i x all.1 e

pub all_mapped : {X : Type 0} (P Q : X → Type 0) → ((x : X) → P x → Q x) → (xs : List X) → AllByRecursion P xs → AllByRecursion Q xs
all_mapped P Q on [] all = tt
all_mapped P Q on (x ∷ xs) all = (on x all.0, all_mapped P Q on xs all.1)

-- up to c the fills are the old ones
pub same_fills : (old new : Rows) (n c : ℕ) → GoesOn n old new → c ≤ length old.fills → take c new.fills ≡ take c old.fills
same_fills old new n c on within = ap (take c) on.fills ∙ take-append-le c old.fills on.more_fills within

unfoldable pub standing_goes_on : (old new : Rows) (floor t n c i : ℕ) (f : FillRow) → GoesOn n old new → c ≤ length old.fills → IsStanding (turn_of old floor t n) c i f → IsStanding (turn_of new floor t n) c i f
standing_goes_on old new floor t n c i f on within h =
    record {
      is = ap (λ xs. slice_get xs i) on.fills ∙ at_front old.fills on.more_fills i f h.is;
      of_thread = h.of_thread;
      from_floor = h.from_floor;
      below = h.below;
      last = λ j later before g e. h.last j later before g (in_front old.fills on.more_fills j g (omega (arith, before, within)) (ap (λ xs. slice_get xs j) (sym on.fills) ∙ e));
      few = subst (λ xs. count_by (is_same_set f) (drop (i + 1) xs) < 4) (sym (same_fills old new n c on within)) h.few;
      readings = h.readings;
      named = subst (λ xs. AreRows xs (fill_reads f) h.readings) (sym on.reads) (rows_front old.reads on.more_reads (fill_reads f) h.readings h.named);
      current = subst (λ ds. AllByRecursion (IsCurrent ds t n) h.readings) (sym on.dones)
          (all_mapped (IsCurrent old.dones t n) (IsCurrent (old.dones ++ on.more_dones) t n) (λ r. current_with_later old.dones on.more_dones t n r on.later) h.readings h.current);
    }

unfoldable pub standing_goes_back : (old new : Rows) (floor t n c i : ℕ) (f : FillRow) → GoesOn n old new → c ≤ length old.fills → AreNamed old.reads old.fills → IsStanding (turn_of new floor t n) c i f → IsStanding (turn_of old floor t n) c i f
standing_goes_back old new floor t n c i f on within all h =
    let is : slice_get old.fills i ≡ Some f = in_front old.fills on.more_fills i f (omega (arith, h.below, within)) (ap (λ xs. slice_get xs i) (sym on.fills) ∙ h.is) in
    let named : IsNamed old.reads f = all_get (IsNamed old.reads) old.fills i f all is in
    let same : named.readings ≡ h.readings = rows_unique (old.reads ++ on.more_reads) (fill_reads f) named.readings h.readings
    (rows_front old.reads on.more_reads (fill_reads f) named.readings named.named) (subst (λ xs. AreRows xs (fill_reads f) h.readings) on.reads h.named) in
    record {
      is = is;
      of_thread = h.of_thread;
      from_floor = h.from_floor;
      below = h.below;
      last = λ j later before g e. h.last j later before g (ap (λ xs. slice_get xs j) on.fills ∙ at_front old.fills on.more_fills j g e);
      few = subst (λ xs. count_by (is_same_set f) (drop (i + 1) xs) < 4) (same_fills old new n c on within) h.few;
      readings = h.readings;
      named = subst (λ rs. AreRows old.reads (fill_reads f) rs) same named.named;
      current = all_mapped (IsCurrent (old.dones ++ on.more_dones) t n) (IsCurrent old.dones t n) (λ r. current_without_later old.dones on.more_dones t n r) h.readings
          (subst (λ ds. AllByRecursion (IsCurrent ds t n) h.readings) on.dones h.current);
    }
