-- What keeps the lists fitting.
use Rattle.std.proofs.Common.{◌≡◌, ◌≢◌, ℕ, zero, suc, ◌<◌, ◌≤◌, List, [], ◌∷◌, ◌++◌, length, Bool, true, false, Some, None, arith, ap, sym, ◌∙◌, refl, subst, inl, inr, ◌⊎◌, get_or-set_same, get_or-set_other, length-append}
use Rattle.std.specs.Prelude.{drop, slice_get, slice_set, slice_index_or, ◌&&◌, ◌==◌}
use Rattle.std.proofs.lemmas.Bool.Decides.{nat_tests, eqb_tells}
use Rattle.journal_core.specs.declared.rows.KeyKind.{KeyKind}
use Rattle.journal_core.specs.declared.rows.KeyKind.TheVariants.{Translation, GuestPage, ProcessDir, PartDir}
use Rattle.journal_core.specs.declared.rows.ReadRow.{ReadRow}
use Rattle.journal_core.specs.declared.rows.FillRow.{FillRow}
use Rattle.journal_core.specs.Rows.{Rows, JournalView}
use Rattle.journal_core.specs.Standing.{kind_number, fill_reads, IsNamed, AreNamed}
use Rattle.journal_core.specs.Translating.{IsFillOfWalk}
use Rattle.journal_core.proofs.StandingStays.{in_front, all_get}
use Rattle.walk_laws.proofs.FillStays.{fill_stays}
use Rattle.walk_rows.specs.Added.{with_reads, with_fill as with_row}
use Rattle.walk_rows.specs.FillPage.{fill_rows}
use Rattle.translator.specs.declared.places.KeptPlace.{KeptPlace}
use Rattle.translator.specs.declared.lists.Lists.{Lists}
use Rattle.translator.specs.PlaceLists.{is_of, set_of, place_at, places_from, is_gone, expected, with_room, inserted}
use Rattle.translator.specs.Fits.{list_of, with_list, with_fill_in, IsPageKind, IsMade, Fits}
use Rattle.translator.proofs.ExpectedLemmas.{rows_of_more, gone_more, expected_with_reads, expected_with_fill, expected_with_other}

itself : (k : ℕ) → (k == k) ≡ true
itself k = grind (arith, nat_tests)

other_thread : (t : ℕ) (kind : KeyKind) (g : FillRow) → g.thread ≢ t → is_of t kind g ≡ false
other_thread t kind g other = (let e : (g.thread == t) ≡ false = grind (arith, nat_tests) in rw e refl)

own_fill : (t : ℕ) (kind : KeyKind) (g : FillRow) → g.thread ≡ t → g.key.kind ≡ kind → is_of t kind g ≡ true
own_fill t kind g e k = rw (e, k, itself t, itself (kind_number kind)) refl

and_false : (b : Bool) → (b && false) ≡ false
and_false true = refl
and_false false = refl

other_kind : (t : ℕ) (kind : KeyKind) (g : FillRow) → (kind_number g.key.kind == kind_number kind) ≡ false → is_of t kind g ≡ false
other_kind t kind g e = rw e (and_false (g.thread == t))

not_of : (a b : KeyKind) (t : ℕ) (g : FillRow) → g.key.kind ≡ a → (kind_number a == kind_number b) ≡ false → is_of t b g ≡ false
not_of a b t g e differ = other_kind t b g (ap (λ (k : KeyKind). kind_number k == kind_number b) e ∙ differ)

-- the kind's list takes the fill
takes : (rows : Rows) (g : FillRow) (floor t : ℕ) (kind : KeyKind) (ps : List KeptPlace) → floor ≤ length rows.fills → g.thread ≡ t → g.key.kind ≡ kind → is_gone rows.reads rows.dones t g ≡ false → ps ≡ expected rows floor t kind →
    inserted g.key (length rows.fills) ps ≡ expected (record rows { fills = rows.fills ++ g ∷ [] }) floor t kind
takes rows g floor t kind ps within thread is_kind fresh e =
    ap (inserted g.key (length rows.fills)) e
    ∙ (ap (λ b. with_room (set_of g) (expected rows floor t kind) ++ place_at (length rows.fills) b g ∷ []) (sym fresh)
    ∙ sym (expected_with_fill rows g floor t kind within (own_fill t kind g thread is_kind)))

-- each other list stays
leaves : (rows : Rows) (g : FillRow) (floor t : ℕ) (kind : KeyKind) (ps : List KeptPlace) → floor ≤ length rows.fills → is_of t kind g ≡ false → ps ≡ expected rows floor t kind →
    ps ≡ expected (record rows { fills = rows.fills ++ g ∷ [] }) floor t kind
leaves rows g floor t kind ps within off e = e ∙ sym (expected_with_other rows g floor t kind within off)

-- a list of a thread after that of one thread was changed
changed : (rows : Rows) (g : FillRow) (floor t u : ℕ) (kind : KeyKind) (xs : List (List KeptPlace)) → floor ≤ length rows.fills → t < length xs → g.thread ≡ t → g.key.kind ≡ kind → is_gone rows.reads rows.dones t g ≡ false →
    slice_index_or xs u [] ≡ expected rows floor u kind → slice_index_or (slice_set xs t (inserted g.key (length rows.fills) (slice_index_or xs t []))) u [] ≡ expected (record rows { fills = rows.fills ++ g ∷ [] }) floor u kind
changed rows g floor t u kind xs within below thread is_kind fresh e = elim (eqb_tells u t) [
  | inl own ↦ (
      let same : u ≡ t = own.1 in
      let old : slice_index_or xs t [] ≡ expected rows floor t kind = subst (λ n. slice_index_or xs n [] ≡ expected rows floor n kind) same e in
      subst (λ n. slice_index_or (slice_set xs t (inserted g.key (length rows.fills) (slice_index_or xs t []))) n [] ≡ expected (record rows { fills = rows.fills ++ g ∷ [] }) floor n kind) (sym same)
      (get_or-set_same xs t (inserted g.key (length rows.fills) (slice_index_or xs t [])) [] below ∙ takes rows g floor t kind (slice_index_or xs t []) within thread is_kind fresh old))
  | inr other ↦ get_or-set_other xs t u (inserted g.key (length rows.fills) (slice_index_or xs t [])) [] other.1 ∙ leaves rows g floor u kind (slice_index_or xs u []) within (other_thread u kind g (λ same. other.1 (sym same ∙ thread))) e
]

same_after : (s : Lists) (j : JournalView) (g : FillRow) (t u : ℕ) → j.floor ≤ length j.rows.fills → t < length s.translations → t < length s.pages → g.thread ≡ t → is_gone j.rows.reads j.rows.dones t g ≡ false →
    ((k : KeyKind) → IsPageKind k → list_of k s u ≡ expected j.rows j.floor u k) → (own k : KeyKind) → g.key.kind ≡ own → IsPageKind k →
    list_of k (with_list own s t (inserted g.key (length j.rows.fills) (list_of own s t))) u ≡ expected (with_row j g).rows j.floor u k
same_after s j g t u within a b thread fresh h Translation Translation e page = changed j.rows g j.floor t u Translation s.translations within a thread e fresh (h Translation tt)
same_after s j g t u within a b thread fresh h Translation GuestPage e page = leaves j.rows g j.floor u GuestPage (list_of GuestPage s u) within (not_of Translation GuestPage u g e refl) (h GuestPage tt)
same_after s j g t u within a b thread fresh h GuestPage Translation e page = leaves j.rows g j.floor u Translation (list_of Translation s u) within (not_of GuestPage Translation u g e refl) (h Translation tt)
same_after s j g t u within a b thread fresh h GuestPage GuestPage e page = changed j.rows g j.floor t u GuestPage s.pages within b thread e fresh (h GuestPage tt)
same_after s j g t u within a b thread fresh h ProcessDir Translation e page = leaves j.rows g j.floor u Translation (list_of Translation s u) within (not_of ProcessDir Translation u g e refl) (h Translation tt)
same_after s j g t u within a b thread fresh h ProcessDir GuestPage e page = leaves j.rows g j.floor u GuestPage (list_of GuestPage s u) within (not_of ProcessDir GuestPage u g e refl) (h GuestPage tt)
same_after s j g t u within a b thread fresh h PartDir Translation e page = leaves j.rows g j.floor u Translation (list_of Translation s u) within (not_of PartDir Translation u g e refl) (h Translation tt)
same_after s j g t u within a b thread fresh h PartDir GuestPage e page = leaves j.rows g j.floor u GuestPage (list_of GuestPage s u) within (not_of PartDir GuestPage u g e refl) (h GuestPage tt)
same_after s j g t u within a b thread fresh h own ProcessDir e page = absurd page
same_after s j g t u within a b thread fresh h own PartDir e page = absurd page

threads_kept : (own : KeyKind) (s : Lists) (t : ℕ) (ps : List KeptPlace) → (with_list own s t ps).threads ≡ s.threads
threads_kept Translation s t ps = refl
threads_kept GuestPage s t ps = refl
threads_kept ProcessDir s t ps = refl
threads_kept PartDir s t ps = refl

some_same : {X : Type 0} (x y : X) → Some x ≡ Some y → x ≡ y
some_same x y e = cc

-- a fill that was made by a walk is one still when read rows are added
made_more : (j : JournalView) (more : List ReadRow) (t ptcr i : ℕ) (f : FillRow) → AreNamed j.rows.reads j.rows.fills → slice_get j.rows.fills i ≡ Some f → IsMade j.rows t ptcr f → IsMade (with_reads j more).rows t ptcr f
made_more j more t ptcr i f named at h =
    let n : IsNamed j.rows.reads f = all_get (IsNamed j.rows.reads) j.rows.fills i f named at in
    record {
      some = λ none. h.some (sym (rows_of_more j.rows.reads more (fill_reads f) n.readings n.named) ∙ none);
      walked = (h.walked.0, fill_stays j.rows (with_reads j more).rows more h.walked.0 f refl h.walked.1);
      present = λ kept. fill_stays j.rows (with_reads j more).rows more ptcr f refl (h.present (sym (gone_more j.rows.reads more j.rows.dones t f n.readings n.named) ∙ kept));
    }

-- new read rows keep the lists fitting
pub fits_reads : (s : Lists) (j : JournalView) (more : List ReadRow) (values : List ℕ) → AreNamed j.rows.reads j.rows.fills → Fits s j values → Fits s (with_reads j more) values
fits_reads s j more values named h = record {
  within = h.within;
  same = λ t below kind page. h.same t below kind page ∙ sym (expected_with_reads j.rows more j.floor t kind named);
  made = λ t ptcr below value i f at from thread. made_more j more t ptcr i f named at (h.made t ptcr below value i f at from thread);
}

-- the numbers of fills from the old ones on
either : (i n : ℕ) → (i < n) ⊎ (n ≤ i)
either i n = grind arith

at_end : (fs : List FillRow) (g f : FillRow) (i : ℕ) → length fs ≤ i → slice_get (fs ++ g ∷ []) i ≡ Some f → f ≡ g
at_end [] g f zero past e = sym (some_same g f e)
at_end [] g f (suc i) past e = absurd (nothing f e)
  where
    nothing : (x : FillRow) → None ≡ Some x → ⊥
    nothing x e = cc
at_end (x ∷ fs) g f zero past e = absurd (omega (arith, past))
at_end (x ∷ fs) g f (suc i) past e = at_end fs g f i (omega (arith, past)) e

as_row : (rows : Rows) (g : FillRow) (t ptcr : ℕ) (f : FillRow) → IsMade rows t ptcr f → IsMade (record rows { fills = rows.fills ++ g ∷ [] }) t ptcr f
as_row rows g t ptcr f h = record {
  some = h.some;
  walked = (h.walked.0, fill_stays rows (record rows { fills = rows.fills ++ g ∷ [] }) [] h.walked.0 f (sym (append_none rows.reads)) h.walked.1);
  present = λ kept. fill_stays rows (record rows { fills = rows.fills ++ g ∷ [] }) [] ptcr f (sym (append_none rows.reads)) (h.present kept);
}
  where
    append_none : (xs : List ReadRow) → xs ++ [] ≡ xs
    append_none [] = refl
    append_none (x ∷ xs) = ap (λ ys. x ∷ ys) (append_none xs)

-- a new fill of a finished walk, which its list takes, keeps them fitting
pub fits_fill : (s : Lists) (j : JournalView) (g : FillRow) (t ptcr : ℕ) (values : List ℕ) → t < length s.translations → t < length s.pages → g.thread ≡ t → is_gone j.rows.reads j.rows.dones t g ≡ false → slice_get values t ≡ Some ptcr → (fill_rows j.rows.reads g ≡ [] → ⊥) → IsFillOfWalk j.rows ptcr g → Fits s j values →
    Fits (with_fill_in g.key (length j.rows.fills) s t) (with_row j g) values
fits_fill s j g t ptcr values a b thread fresh value some walk h = record {
  within = omega (arith, h.within, length-append j.rows.fills (g ∷ []));
  same = λ u below kind page. same_after s j g t u h.within a b thread fresh (h.same u (subst (λ n. u < n) (threads_kept g.key.kind s t (inserted g.key (length j.rows.fills) (list_of g.key.kind s t))) below)) g.key.kind kind refl page;
  made = λ u v below is i f at from of_thread. elim (either i (length j.rows.fills)) [
    | inl old ↦ as_row j.rows g u v f (h.made u v (subst (λ n. u < n) (threads_kept g.key.kind s t (inserted g.key (length j.rows.fills) (list_of g.key.kind s t))) below) is i f (in_front j.rows.fills (g ∷ []) i f old at) from of_thread)
    | inr new ↦ (
        let same : f ≡ g = at_end j.rows.fills g f i new at in
        let own : u ≡ t = sym of_thread ∙ (ap (λ (x : FillRow). x.thread) same ∙ thread) in
        let value_is : ptcr ≡ v = some_same ptcr v (sym value ∙ (ap (slice_get values) (sym own) ∙ is)) in
        as_row j.rows g u v f (subst (λ x. IsMade j.rows u v x) (sym same) (record { some = some; walked = (ptcr, walk); present = λ kept. subst (λ w. IsFillOfWalk j.rows w g) value_is walk })))
  ];
}

-- nothing is kept of a journal with no fill from the floor on
none_left : {X : Type 0} (xs : List X) → drop (length xs) xs ≡ []
none_left [] = refl
none_left (x ∷ xs) = none_left xs

none_expected : (j : JournalView) (t : ℕ) (kind : KeyKind) → j.floor ≡ length j.rows.fills → [] ≡ expected j.rows j.floor t kind
unfolding expected places_from
none_expected j t kind floor = sym (ap (places_from (is_of t kind) (is_gone j.rows.reads j.rows.dones t) j.floor) (ap (λ n. drop n j.rows.fills) floor ∙ none_left j.rows.fills))

past_end : {X : Type 0} (xs : List X) (i : ℕ) (x : X) → length xs ≤ i → slice_get xs i ≡ Some x → ⊥
past_end [] i x past e = cc
past_end (y ∷ xs) zero x past e = absurd (omega (arith, past))
past_end (y ∷ xs) (suc i) x past e = past_end xs i x (omega (arith, past)) e

none_of : (s : Lists) (t : ℕ) (kind : KeyKind) → ((u : ℕ) → slice_index_or s.translations u [] ≡ []) → ((u : ℕ) → slice_index_or s.pages u [] ≡ []) → list_of kind s t ≡ []
none_of s t Translation a b = a t
none_of s t GuestPage a b = b t
none_of s t ProcessDir a b = refl
none_of s t PartDir a b = refl

pub fits_none : (s : Lists) → ((u : ℕ) → slice_index_or s.translations u [] ≡ []) → ((u : ℕ) → slice_index_or s.pages u [] ≡ []) → (j : JournalView) (values : List ℕ) → j.floor ≡ length j.rows.fills → Fits s j values
fits_none s a b j values floor = record {
  within = omega (arith, floor);
  same = λ t below kind page. none_of s t kind a b ∙ none_expected j t kind floor;
  made = λ t ptcr below value i f at from thread. absurd (past_end j.rows.fills i f (omega (arith, from, floor)) at);
}
