-- A fill that a finished walk made is one still when read rows are added.
use Rattle.std.proofs.Common.{◌≡◌, ℕ, zero, suc, ◌+◌, ◌-◌, ◌<◌, List, [], ◌∷◌, ◌++◌, length, map, take, drop, true, arith, ap, sym, ◌∙◌, refl, subst}
use Rattle.std.specs.Prelude.{slice_get, option_to_list}
use Rattle.std.specs.List.{Contains}
use Rattle.std.proofs.lemmas.List.{length-append}
use Rattle.journal_core.specs.declared.rows.ReadRow.{ReadRow}
use Rattle.journal_core.specs.declared.rows.FillRow.{FillRow}
use Rattle.journal_core.specs.declared.walks.TrailItem.{TrailItem}
use Rattle.journal_core.specs.declared.walks.TrailItem.TheVariants.{Old, New}
use Rattle.journal_core.specs.Rows.{Rows}
use Rattle.journal_core.specs.Places.{place_of}
use Rattle.journal_core.specs.Walk.{task_of, start_of, never_denied}
use Rattle.journal_core.specs.Resumed.{readings}
use Rattle.journal_core.specs.Fills.{NumberedItem, as_old, number_items, own_key, nothing_so_far, fills_from, new_rows, OldsBelow}
use Rattle.journal_core.specs.Admitted.{IsWalkTo, IsRight}
use Rattle.journal_core.specs.Choice.{added}
use Rattle.journal_core.specs.Translating.{IsFillOfWalk}

get_front : {X : Type 0} (xs ys : List X) (i : ℕ) → i < length xs → slice_get (xs ++ ys) i ≡ slice_get xs i
get_front [] ys i below = absurd (omega (arith, below))
get_front (x ∷ xs) ys zero below = refl
get_front (x ∷ xs) ys (suc i) below = get_front xs ys i (omega (arith, below))

-- the readings of items whose old ones are there are the same in a longer list
pub same_readings : (reads more : List ReadRow) (items : List TrailItem) → OldsBelow (length reads) items → readings (reads ++ more) items ≡ readings reads items
same_readings reads more [] h = refl
same_readings reads more (Old i ∷ items) h = ap (λ x. option_to_list x ++ readings (reads ++ more) items) (get_front reads more i h.0) ∙ ap (λ xs. option_to_list (slice_get reads i) ++ xs) (same_readings reads more items h.1)
same_readings reads more (New r ∷ items) h = ap (λ xs. r ∷ xs) (same_readings reads more items h)

-- so are their numbers
pub same_numbers : (reads more : List ReadRow) (first : ℕ) (items : List TrailItem) → OldsBelow (length reads) items → number_items (reads ++ more) first items ≡ number_items reads first items
same_numbers reads more first [] h = refl
same_numbers reads more first (Old i ∷ items) h =
    ap (λ x. map (as_old i) (option_to_list x) ++ number_items (reads ++ more) first items) (get_front reads more i h.0)
    ∙ ap (λ xs. map (as_old i) (option_to_list (slice_get reads i)) ++ xs) (same_numbers reads more first items h.1)
same_numbers reads more first (New r ∷ items) h = ap (λ (xs : List NumberedItem). record { number = first; row = r; is_new = true } ∷ xs) (same_numbers reads more (first + 1) items h)

olds_longer : (reads more : List ReadRow) (items : List TrailItem) → OldsBelow (length reads) items → OldsBelow (length (reads ++ more)) items
olds_longer reads more [] h = tt
olds_longer reads more (Old i ∷ items) h = ((let below : i < length reads = h.0 in omega (arith, below, length-append reads more)), olds_longer reads more items h.1)
olds_longer reads more (New r ∷ items) h = olds_longer reads more items h

-- so many rows that are there are there in a longer list
take_there : {X : Type 0} (n : ℕ) (xs ys : List X) → length (take n xs) ≡ n → take n (xs ++ ys) ≡ take n xs
take_there zero xs ys e = refl
take_there (suc n) [] ys e = absurd (omega (arith, e))
take_there (suc n) (x ∷ xs) ys e = ap (λ zs. x ∷ zs) (take_there n xs ys (omega (arith, e)))

drop_there : {X : Type 0} (from n : ℕ) (xs ys : List X) → length (take n (drop from xs)) ≡ n → take n (drop from (xs ++ ys)) ≡ take n (drop from xs)
drop_there zero n xs ys e = take_there n xs ys e
drop_there (suc from) zero [] ys e = refl
drop_there (suc from) (suc n) [] ys e = absurd (omega (arith, e))
drop_there (suc from) n (x ∷ xs) ys e = drop_there from n xs ys e

from_less : (a n : ℕ) → a + n - a ≡ n
from_less a n = omega arith

-- rows that stand from a number on stand there in a longer list
pub added_there : {X : Type 0} (xs more new : List X) (from : ℕ) → added xs from (from + length new) ≡ new → added (xs ++ more) from (from + length new) ≡ new
added_there xs more new from e =
    let same : take (length new) (drop from xs) ≡ new = ap (λ n. take n (drop from xs)) (sym (from_less from (length new))) ∙ e in
    ap (λ n. take n (drop from (xs ++ more))) (from_less from (length new)) ∙ (drop_there from (length new) xs more (ap length same) ∙ same)

-- a fill that a finished walk made is one still when read rows are added
pub fill_stays : (old new : Rows) (more : List ReadRow) (ptcr : ℕ) (f : FillRow) → new.reads ≡ old.reads ++ more → IsFillOfWalk old ptcr f → IsFillOfWalk new ptcr f
fill_stays old new more ptcr f e h =
    let same : readings old.reads h.items ≡ readings new.reads h.items = sym (ap (λ xs. readings xs h.items) e ∙ same_readings old.reads more h.items h.old_are) in
    record {
      ask = h.ask;
      same_ptcr = h.same_ptcr;
      items = h.items;
      from = h.from;
      real = h.real;
      old_are = subst (λ xs. OldsBelow (length xs) h.items) (sym e) (olds_longer old.reads more h.items h.old_are);
      new_stand = subst (λ xs. added xs h.from (h.from + length (new_rows h.items)) ≡ new_rows h.items) (sym e) (added_there old.reads more (new_rows h.items) h.from h.new_stand);
      walk = subst (λ xs. IsWalkTo h.ask xs h.real) same h.walk;
      right = subst (λ xs. IsRight h.ask xs h.real) same h.right;
      is_one = subst (λ xs. Contains (fills_from f.thread f.moment (task_of never_denied h.ask) (own_key (place_of h.ask)) (start_of never_denied h.ask) nothing_so_far xs) f)
          (sym (ap (λ xs. number_items xs h.from h.items) e ∙ same_numbers old.reads more h.from h.items h.old_are)) h.is_one;
    }
