-- What the answer of a fresh walk adds, and that the lists fit again where its fill is kept.
use Rattle.std.proofs.Common.{◌≡◌, ℕ, zero, suc, ◌+◌, ◌-◌, ◌<◌, List, [], ◌∷◌, ◌++◌, length, map, take, drop, Option, Some, None, false, arith, ap, sym, ◌∙◌, refl, subst, length-append}
use Rattle.std.specs.Prelude.{slice_get, Contains}
use Rattle.std.specs.List.{AllByRecursion}
use Rattle.std.proofs.lemmas.List.{append-nil, nil_from_length}
use Rattle.std.proofs.lemmas.List.Elements.{Contains-append_right}
use Rattle.journal_core.specs.declared.rows.Use.TheVariants.{Unused, Real as RealUse, Hit, Walked, Faulted}
use Rattle.journal_core.specs.declared.rows.Key.{Key}
use Rattle.journal_core.specs.declared.rows.ReadRow.{ReadRow}
use Rattle.journal_core.specs.declared.rows.DoneRow.{DoneRow}
use Rattle.journal_core.specs.declared.asks.Ask.{Ask}
use Rattle.journal_core.specs.declared.asks.Found.{Found}
use Rattle.journal_core.specs.declared.asks.Found.TheVariants.{Real, Fault, Stop}
use Rattle.journal_core.specs.declared.walks.NestResult.TheVariants.{Page}
use Rattle.journal_core.specs.declared.walks.TrailItem.TheVariants.{New}
use Rattle.journal_core.specs.Rows.{JournalView}
use Rattle.journal_core.specs.Turns.{query_of, turn_in, mark_of}
use Rattle.journal_core.specs.Places.{place_of}
use Rattle.journal_core.specs.Following.{Fresh}
use Rattle.journal_core.specs.Standing.{fill_reads, AreNamed}
use Rattle.journal_core.specs.Resumed.{readings}
use Rattle.journal_core.specs.Fills.{own_key, fills_of, new_rows}
use Rattle.journal_core.specs.Admitted.{IsWalkTo}
use Rattle.journal_core.specs.Choice.{IsTranslated, AddsOwn, PlainChoice, added, last_of}
use Rattle.journal_core.specs.Translating.{IsQuiet, IsFillOfWalk, OnlyAdds}
use Rattle.walk_laws.specs.OwnFill.{fresh_fill}
use Rattle.walk_laws.proofs.FreshFacts.{fresh_moments, fresh_some, fresh_right, fresh_walk, has_own_key, new_rows_of, last_own, own_named}
use Rattle.walk_laws.proofs.ChoiceStays.{fresh_olds}
use Rattle.walk_rows.specs.Added.{with_reads, with_fill as with_row}
use Rattle.walk_rows.specs.FillPage.{fill_rows}
use Rattle.translator.specs.declared.lists.Lists.{Lists}
use Rattle.translator.specs.PlaceLists.{is_gone}
use Rattle.translator.specs.Fits.{with_fill_in, Fits}
use Rattle.translator.specs.Says.{after_answer}
use Rattle.translator.proofs.ExpectedLemmas.{rows_of_named, new_not_gone}
use Rattle.translator.proofs.FitsLemmas.{fits_reads, fits_fill}

drop_seam : {X : Type 0} (xs ys : List X) → drop (length xs) (xs ++ ys) ≡ ys
drop_seam [] ys = refl
drop_seam (x ∷ xs) ys = drop_seam xs ys

whole : {X : Type 0} (xs : List X) (n : ℕ) → length xs ≡ n → take n xs ≡ xs
whole [] zero e = refl
whole [] (suc n) e = refl
whole (x ∷ xs) zero e = absurd (omega (arith, e))
whole (x ∷ xs) (suc n) e = ap (λ ys. x ∷ ys) (whole xs n (omega (arith, e)))

added_to : {X : Type 0} (xs ys : List X) (n : ℕ) → n ≡ length xs + length ys → added (xs ++ ys) (length xs) n ≡ ys
added_to xs ys n e = ap (take (n - length xs)) (drop_seam xs ys) ∙ whole ys (n - length xs) (omega (arith, e))

readings_of : (reads rs : List ReadRow) → readings reads (map New rs) ≡ rs
readings_of reads [] = refl
readings_of reads (r ∷ rs) = ap (λ (xs : List ReadRow). r ∷ xs) (readings_of reads rs)

nil_cons : {X : Type 0} (x : X) → [] ≡ x ∷ [] → ⊥
nil_cons x e = cc

one_same : {X : Type 0} (y x : X) → y ∷ [] ≡ x ∷ [] → y ≡ x
one_same y x e = cc

last_contains : {X : Type 0} (xs : List X) (x : X) → last_of xs ≡ x ∷ [] → Contains xs x
last_contains [] x e = absurd (nil_cons x e)
last_contains (y ∷ []) x e = (zero, omega arith, one_same y x e)
last_contains (y ∷ (z ∷ more)) x e = Contains-append_right (y ∷ []) (z ∷ more) x (last_contains (z ∷ more) x e)

-- a journal that got the fill of a walk to a page, and the readings of that walk
pub record Grown (word : ℕ → Option ℕ) (old new : JournalView) (t n : ℕ) (ask : Ask) (i real : ℕ) : Type 0 where
  rs : List ReadRow
  key : Key
  own : own_key (place_of ask) ≡ Some key
  fresh : Fresh word n ask rs (Page real)
  number : i ≡ length old.rows.fills
  adds : new ≡ with_row (with_reads old rs) (fresh_fill t n ask key (length old.rows.reads) rs)

pub grown : (word : ℕ → Option ℕ) (old new : JournalView) (t n : ℕ) (ask : Ask) (i real : ℕ) → IsTranslated ask → OnlyAdds old new → AddsOwn (query_of (turn_in new t n) word (mark_of old.rows) ask) i real (mark_of new.rows) → Grown word old new t n ask i real
grown word old new t n ask i real away o h =
    let key : (key : Key) × (own_key (place_of ask) ≡ Some key) = has_own_key ask h.rs real away (fresh_walk word n ask h.rs real h.fresh) in
    let new_reads : new.rows.reads ≡ old.rows.reads ++ o.reads = ap (λ (j : JournalView). j.rows.reads) o.rows in
    let new_fills : new.rows.fills ≡ old.rows.fills ++ o.fills = ap (λ (j : JournalView). j.rows.fills) o.rows in
    let count_reads : length new.rows.reads ≡ length old.rows.reads + length o.reads = ap length new_reads ∙ length-append old.rows.reads o.reads in
    let count_fills : length new.rows.fills ≡ length old.rows.fills + length o.fills = ap length new_fills ∙ length-append old.rows.fills o.fills in
    let rs : o.reads ≡ h.rs = sym (added_to old.rows.reads o.reads (length new.rows.reads) count_reads) ∙ (ap (λ xs. added xs (length old.rows.reads) (length new.rows.reads)) (sym new_reads) ∙ h.reads) in
    let fs : o.fills ≡ fresh_fill t n ask key.0 (length old.rows.reads) h.rs ∷ [] = sym (added_to old.rows.fills o.fills (length new.rows.fills) count_fills) ∙ (ap (λ xs. added xs (length old.rows.fills) (length new.rows.fills)) (sym new_fills) ∙ (h.fills ∙ last_own t n ask key.0 new.rows.reads (length old.rows.reads) h.rs key.1)) in
    record {
      rs = h.rs;
      key = key.0;
      own = key.1;
      fresh = h.fresh;
      number = h.last;
      adds = o.rows
          ∙ (ap (λ xs. record old { rows = record old.rows { reads = old.rows.reads ++ xs; fills = old.rows.fills ++ o.fills } }) rs
          ∙ ap (λ xs. record old { rows = record old.rows { reads = old.rows.reads ++ h.rs; fills = old.rows.fills ++ xs } }) fs);
    }

-- a journal that got no fill
pub only_reads : (old new : JournalView) (o : OnlyAdds old new) → length new.rows.fills ≡ length old.rows.fills → new ≡ with_reads old o.reads
only_reads old new o e =
    let count_fills : length new.rows.fills ≡ length old.rows.fills + length o.fills = ap length (ap (λ (j : JournalView). j.rows.fills) o.rows) ∙ length-append old.rows.fills o.fills in
    let none : o.fills ≡ [] = nil_from_length o.fills (omega (arith, e, count_fills)) in
    o.rows ∙ ap (λ xs. record old { rows = record old.rows { reads = old.rows.reads ++ o.reads; fills = xs } }) (ap (λ fs. old.rows.fills ++ fs) none ∙ append-nil old.rows.fills)

-- the fill is one of a finished walk
own_of_walk : (word : ℕ → Option ℕ) (j : JournalView) (t n : ℕ) (ask : Ask) (key : Key) (rs : List ReadRow) (real : ℕ) → own_key (place_of ask) ≡ Some key → Fresh word n ask rs (Page real) →
    IsFillOfWalk (with_reads j rs).rows ask.ptcr (fresh_fill t n ask key (length j.rows.reads) rs)
own_of_walk word j t n ask key rs real own fresh = record {
  ask = ask;
  same_ptcr = refl;
  items = map New rs;
  from = length j.rows.reads;
  real = real;
  old_are = fresh_olds (length (j.rows.reads ++ rs)) rs;
  new_stand = added_to j.rows.reads rs (length j.rows.reads + length (new_rows (map New rs))) (ap (λ (xs : List ReadRow). length j.rows.reads + length xs) (new_rows_of rs)) ∙ sym (new_rows_of rs);
  walk = subst (λ xs. IsWalkTo ask xs real) (sym (readings_of (j.rows.reads ++ rs) rs)) (fresh_walk word n ask rs real fresh);
  right = rw (readings_of (j.rows.reads ++ rs) rs) (fresh_right word n ask rs real fresh);
  is_one = last_contains (fills_of t n ask (j.rows.reads ++ rs) (length j.rows.reads) (map New rs)) (fresh_fill t n ask key (length j.rows.reads) rs) (last_own t n ask key (j.rows.reads ++ rs) (length j.rows.reads) rs own);
}

-- and no completed operation has ended one of its readings
own_kept : (word : ℕ → Option ℕ) (j : JournalView) (t n : ℕ) (ask : Ask) (key : Key) (rs : List ReadRow) (real : ℕ) → n ≡ length j.rows.steps → IsQuiet j.rows → Fresh word n ask rs (Page real) →
    is_gone (j.rows.reads ++ rs) j.rows.dones t (fresh_fill t n ask key (length j.rows.reads) rs) ≡ false
own_kept word j t n ask key rs real now quiet fresh =
    new_not_gone (j.rows.reads ++ rs) j.rows.dones t n (fresh_fill t n ask key (length j.rows.reads) rs) (subst (λ m. AllByRecursion (λ (d : DoneRow). d.step < m) j.rows.dones) (sym now) quiet)
    (subst (AllByRecursion (λ (r : ReadRow). r.moment ≡ n)) (sym (rows_of_named (j.rows.reads ++ rs) (fill_reads (fresh_fill t n ask key (length j.rows.reads) rs)) rs (own_named word t n ask key j.rows.reads rs (Page real) fresh))) (fresh_moments word n ask rs (Page real) fresh))

-- it has a reading
own_some : (word : ℕ → Option ℕ) (j : JournalView) (t n : ℕ) (ask : Ask) (key : Key) (rs : List ReadRow) (real : ℕ) → IsTranslated ask → Fresh word n ask rs (Page real) → fill_rows (j.rows.reads ++ rs) (fresh_fill t n ask key (length j.rows.reads) rs) ≡ [] → ⊥
own_some word j t n ask key rs real away fresh none =
    let nil : rs ≡ [] = sym (rows_of_named (j.rows.reads ++ rs) (fill_reads (fresh_fill t n ask key (length j.rows.reads) rs)) rs (own_named word t n ask key j.rows.reads rs (Page real) fresh)) ∙ none in
    fresh_some word n ask real away (subst (λ xs. Fresh word n ask xs (Page real)) nil fresh)

page_fits : (word : ℕ → Option ℕ) (s : Lists) (old new : JournalView) (t n : ℕ) (ask : Ask) (i real : ℕ) (values : List ℕ) → t < length s.translations → t < length s.pages → n ≡ length old.rows.steps → IsQuiet old.rows → AreNamed old.rows.reads old.rows.fills →
    slice_get values t ≡ Some ask.ptcr → IsTranslated ask → (g : Grown word old new t n ask i real) → Fits s old values → Fits (with_fill_in g.key i s t) new values
page_fits word s old new t n ask i real values a b now quiet named value away g h =
    subst (λ k. Fits (with_fill_in g.key i s t) k values) (sym g.adds)
    (subst (λ m. Fits (with_fill_in g.key m s t) (with_row (with_reads old g.rs) (fresh_fill t n ask g.key (length old.rows.reads) g.rs)) values) (sym g.number)
    (fits_fill s (with_reads old g.rs) (fresh_fill t n ask g.key (length old.rows.reads) g.rs) t ask.ptcr values a b refl (own_kept word old t n ask g.key g.rs real now quiet g.fresh) value (own_some word old t n ask g.key g.rs real away g.fresh) (own_of_walk word old t n ask g.key g.rs real g.own g.fresh) (fits_reads s old g.rs values named h)))

reads_fit : (s : Lists) (old new : JournalView) (values : List ℕ) → AreNamed old.rows.reads old.rows.fills → OnlyAdds old new → length new.rows.fills ≡ length old.rows.fills → Fits s old values → Fits s new values
reads_fit s old new values named o e h = subst (λ k. Fits s k values) (sym (only_reads old new o e)) (fits_reads s old o.reads values named h)

some_same : {X : Type 0} (x y : X) → Some x ≡ Some y → x ≡ y
some_same x y e = cc

nothing : {X : Type 0} (x : X) → None ≡ Some x → ⊥
nothing x e = cc

kept_page : (word : ℕ → Option ℕ) (s : Lists) (old new : JournalView) (t n : ℕ) (ask : Ask) (i real b : ℕ) (values : List ℕ) → t < length s.translations → t < length s.pages → n ≡ length old.rows.steps → IsQuiet old.rows → AreNamed old.rows.reads old.rows.fills →
    slice_get values t ≡ Some ask.ptcr → IsTranslated ask → Grown word old new t n ask i real → (key : Option Key) → own_key (place_of ask) ≡ key → Fits s old values → Fits (after_answer key (Real real (Walked i b)) s t) new values
kept_page word s old new t n ask i real b values x y now quiet named value away g None own h = absurd (nothing g.key (sym own ∙ g.own))
kept_page word s old new t n ask i real b values x y now quiet named value away g (Some key) own h =
    subst (λ k. Fits (with_fill_in k i s t) new values) (some_same g.key key (sym g.own ∙ own)) (page_fits word s old new t n ask i real values x y now quiet named value away g h)

-- the lists fit after an answer of a fresh walk of which the fill is kept
pub answer_fits : (word : ℕ → Option ℕ) (s : Lists) (old new : JournalView) (t n : ℕ) (ask : Ask) (key : Option Key) (values : List ℕ) → t < length s.translations → t < length s.pages → n ≡ length old.rows.steps → IsQuiet old.rows → AreNamed old.rows.reads old.rows.fills →
    slice_get values t ≡ Some ask.ptcr → IsTranslated ask → own_key (place_of ask) ≡ key → OnlyAdds old new → (found : Found) → PlainChoice (query_of (turn_in new t n) word (mark_of old.rows) ask) found (mark_of new.rows) → Fits s old values → Fits (after_answer key found s t) new values
answer_fits word s old new t n ask key values x y now quiet named value away own o (Real a (Walked i b)) h fits = kept_page word s old new t n ask i a b values x y now quiet named value away (grown word old new t n ask i a away o h.2) key own fits
answer_fits word s old new t n ask key values x y now quiet named value away own o (Real a (RealUse b)) h fits = absurd (away a h.0)
answer_fits word s old new t n ask key values x y now quiet named value away own o (Real a (Hit i b)) h fits = absurd h.2
answer_fits word s old new t n ask key values x y now quiet named value away own o (Real a (Faulted first count)) h fits = absurd h
answer_fits word s old new t n ask key values x y now quiet named value away own o (Real a Unused) h fits = absurd h
answer_fits word s old new t n ask key values x y now quiet named value away own o (Fault cause (Faulted first count)) h fits = reads_fit s old new values named o h.1.adds.fills_to fits
answer_fits word s old new t n ask key values x y now quiet named value away own o (Fault cause Unused) h fits = absurd h
answer_fits word s old new t n ask key values x y now quiet named value away own o (Fault cause (RealUse b)) h fits = absurd h
answer_fits word s old new t n ask key values x y now quiet named value away own o (Fault cause (Hit i b)) h fits = absurd h
answer_fits word s old new t n ask key values x y now quiet named value away own o (Fault cause (Walked i b)) h fits = absurd h
answer_fits word s old new t n ask key values x y now quiet named value away own o (Stop name v) h fits = reads_fit s old new values named o h.1.same.0 fits
