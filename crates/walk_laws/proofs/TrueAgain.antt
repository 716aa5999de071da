-- After an answer that keeps the rule all readings are true again.
use Rattle.std.proofs.Common.{◌≡◌, ℕ, ◌+◌, ◌-◌, List, [], ◌∷◌, ◌++◌, length, take, drop, Option, Some, arith, ap, sym, ◌∙◌, refl, subst, length-append}
use Rattle.std.specs.List.{AllByRecursion}
use Rattle.journal_core.specs.declared.rows.ReadRow.{ReadRow}
use Rattle.journal_core.specs.declared.rows.Use.TheVariants.{Unused, Real as RealUse, Hit, Walked, Faulted}
use Rattle.journal_core.specs.declared.asks.Ask.{Ask}
use Rattle.journal_core.specs.declared.asks.Found.{Found}
use Rattle.journal_core.specs.declared.asks.Found.TheVariants.{Real, Fault, Stop}
use Rattle.journal_core.specs.declared.walks.TrailItem.{TrailItem}
use Rattle.journal_core.specs.declared.walks.TrailItem.TheVariants.{Old, New}
use Rattle.journal_core.specs.Rows.{JournalView}
use Rattle.journal_core.specs.Rights.{first_denial}
use Rattle.journal_core.specs.Walk.{task_of, start_of}
use Rattle.journal_core.specs.Following.{IsNew, IsTrueReading}
use Rattle.journal_core.specs.Turns.{Mark, Query, query_of, turn_in, mark_of}
use Rattle.journal_core.specs.Standing.{fill_reads, AreRows}
use Rattle.journal_core.specs.Resumed.{numbers_in}
use Rattle.journal_core.specs.Fills.{new_rows}
use Rattle.journal_core.specs.Admitted.{IsReadBy}
use Rattle.journal_core.specs.Choice.{SameMark, ByKind, IsFault, IsStop, added}
use Rattle.journal_core.specs.Answers.{AreItems, use_of, named_by, IsHit, IsWalked, IsAnswer}
use Rattle.journal_core.specs.Translating.{AreTrue, OnlyAdds}
use Rattle.walk_laws.proofs.AnsweringWalks.{all_new}

some_row : (a b : ReadRow) → Some a ≡ Some b → a ≡ b
some_row a b e = cc

-- what holds of the named readings of a walk holds of its new ones
pub new_hold : (P : ReadRow → Type 0) (reads : List ReadRow) (from : ℕ) (is : List ℕ) (items : List TrailItem) (rs : List ReadRow) → AreItems reads from is items → AreRows reads is rs → AllByRecursion P rs → AllByRecursion P (new_rows items)
new_hold P reads from [] [] rs items_are named all = tt
new_hold P reads from [] (item ∷ items) rs items_are named all = absurd items_are
new_hold P reads from (i ∷ is) [] rs items_are named all = absurd items_are
new_hold P reads from (i ∷ is) (item ∷ items) [] items_are named all = absurd named
new_hold P reads from (i ∷ is) (Old j ∷ items) (r ∷ rs) items_are named all = new_hold P reads from is items rs items_are.2 named.1 all.1
new_hold P reads from (i ∷ is) (New q ∷ items) (r ∷ rs) items_are named all =
    (subst P (some_row r q (sym named.0 ∙ items_are.1)) all.0, new_hold P reads from is items rs items_are.2 named.1 all.1)

added_all : {X : Type 0} (xs more : List X) → added (xs ++ more) (length xs) (length (xs ++ more)) ≡ more
added_all xs more = ap (λ n. take n (drop (length xs) (xs ++ more))) (count xs more) ∙ (ap (take (length more)) (dropped xs more) ∙ taken more)
  where
    count : {Y : Type 0} (xs more : List Y) → length (xs ++ more) - length xs ≡ length more
    count xs more = (let e : length (xs ++ more) ≡ length xs + length more = length-append xs more in omega (arith, e))

    dropped : {Y : Type 0} (xs more : List Y) → drop (length xs) (xs ++ more) ≡ more
    dropped [] more = refl
    dropped (x ∷ xs) more = dropped xs more

    taken : {Y : Type 0} (ys : List Y) → take (length ys) ys ≡ ys
    taken [] = refl
    taken (y ∷ ys) = ap (λ zs. y ∷ zs) (taken ys)

none_more : {X : Type 0} (xs more : List X) → length (xs ++ more) ≡ length xs → more ≡ []
none_more xs [] e = refl
none_more xs (x ∷ more) e = (let l : length (xs ++ x ∷ more) ≡ length xs + length (x ∷ more) = length-append xs (x ∷ more) in absurd (omega (arith, l, e)))

pub true_joined : (past : ℕ → ℕ → Option ℕ) (xs ys : List ReadRow) → AllByRecursion (IsTrueReading past) xs → AllByRecursion (IsTrueReading past) ys → AllByRecursion (IsTrueReading past) (xs ++ ys)
true_joined past [] ys a b = b
true_joined past (x ∷ xs) ys a b = (a.0, true_joined past xs ys a.1 b)

pub only_true : (past : ℕ → ℕ → Option ℕ) (n : ℕ) (rs : List ReadRow) → AllByRecursion (IsReadBy past n) rs → AllByRecursion (IsTrueReading past) rs
only_true past n [] all = tt
only_true past n (r ∷ rs) all = (all.0.1, only_true past n rs all.1)

-- the readings that an answer added are true
added_true : (past : ℕ → ℕ → Option ℕ) (q : Query) (old more : List ReadRow) (readings : List ReadRow) (found : Found) (after : Mark) → ((at : ℕ) → q.word at ≡ past q.turn.step at) → q.turn.rows.reads ≡ old ++ more → q.before.reads ≡ length old → after.reads ≡ length (old ++ more) →
    AreRows q.turn.rows.reads (named_by q.turn.rows.fills (use_of found)) readings → AllByRecursion (IsReadBy past q.turn.step) readings →
    ByKind q (IsHit q readings) (IsWalked q readings) (IsFault q) (IsStop q) found after → AllByRecursion (IsTrueReading past) more
added_true past q old more readings found after word rows from to named read h = by_found found named h
  where
    nothing : SameMark q.before after → AllByRecursion (IsTrueReading past) more
    nothing same = subst (AllByRecursion (IsTrueReading past)) (sym (none_more old more (sym to ∙ (same.1 ∙ from)))) tt

    these : (xs : List ReadRow) → added q.turn.rows.reads q.before.reads after.reads ≡ xs → xs ≡ more
    these xs e = sym e ∙ (ap (λ ys. added ys q.before.reads after.reads) rows ∙ (ap (λ m. added (old ++ more) m after.reads) from ∙ (ap (λ m. added (old ++ more) (length old) m) to ∙ added_all old more)))

    new_is_true : (sought : ℕ) (r : ReadRow) → IsNew q.word q.turn.step sought r → IsTrueReading past r
    new_is_true sought r new = subst (λ m. past m r.at ≡ Some r.value) (sym new.same_moment) (sym (word r.at) ∙ new.stands)

    by_found : (found : Found) → AreRows q.turn.rows.reads (named_by q.turn.rows.fills (use_of found)) readings → ByKind q (IsHit q readings) (IsWalked q readings) (IsFault q) (IsStop q) found after → AllByRecursion (IsTrueReading past) more
    by_found (Real a (RealUse b)) named h = nothing h.2
    by_found (Real a (Hit i b)) named h = nothing h.2.same
    by_found (Real a (Walked i b)) named h =
        let mine : AreRows q.turn.rows.reads (fill_reads h.2.fill) readings = subst (λ f. AreRows q.turn.rows.reads (numbers_in f) readings) h.2.is named in
        subst (AllByRecursion (IsTrueReading past)) (these (new_rows h.2.items) h.2.reads)
        (new_hold (IsTrueReading past) q.turn.rows.reads q.before.reads (fill_reads h.2.fill) h.2.items readings h.2.are_items mine (only_true past q.turn.step readings read))
    by_found (Real a (Faulted first count)) named h = absurd h
    by_found (Real a Unused) named h = absurd h
    by_found (Fault cause (Faulted first count)) named h =
        subst (AllByRecursion (IsTrueReading past)) (these h.1.readings h.1.adds.reads)
        (all_new (IsTrueReading past) q.word q.turn.step (task_of (first_denial q.ask) q.ask) (start_of (first_denial q.ask) q.ask) h.1.readings new_is_true h.1.fresh.new)
    by_found (Fault cause Unused) named h = absurd h
    by_found (Fault cause (RealUse b)) named h = absurd h
    by_found (Fault cause (Hit i b)) named h = absurd h
    by_found (Fault cause (Walked i b)) named h = absurd h
    by_found (Stop name value) named h = nothing h.1.same

pub true_again : (past : ℕ → ℕ → Option ℕ) (word : ℕ → Option ℕ) (old new : JournalView) (t : ℕ) (ask : Ask) (found : Found) → ((at : ℕ) → word at ≡ past (length old.rows.steps) at) → OnlyAdds old new → AreTrue past old.rows →
    IsAnswer past (query_of (turn_in new t (length old.rows.steps)) word (mark_of old.rows) ask) found (mark_of new.rows) → AreTrue past new.rows
true_again past word old new t ask found stands adds stood h =
    let reads : new.rows.reads ≡ old.rows.reads ++ adds.reads = ap (λ (j : JournalView). j.rows.reads) adds.rows in
    subst (AllByRecursion (IsTrueReading past)) (sym reads)
    (true_joined past old.rows.reads adds.reads stood
    (added_true past (query_of (turn_in new t (length old.rows.steps)) word (mark_of old.rows) ask) old.rows.reads adds.reads h.readings found (mark_of new.rows) stands reads refl (ap (λ (xs : List ReadRow). length xs) reads) h.named h.read h.walk))
