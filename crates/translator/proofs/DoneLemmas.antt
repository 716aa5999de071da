-- A completed operation keeps the lists of a thread fitting.
use Rattle.std.proofs.Common.{◌≡◌, ℕ, ◌<◌, ◌≤◌, List, [], ◌∷◌, ◌++◌, length, map, Bool, true, false, Option, Some, arith, ap, sym, ◌∙◌, refl, subst, inl, inr, get_or-set_same}
use Rattle.std.specs.Prelude.{slice_get, slice_index_or, ◌||◌, ◌==◌, nat_le}
use Rattle.std.specs.List.{list_any, AllByRecursion}
use Rattle.std.proofs.lemmas.Bool.Decides.{nat_tests}
use Rattle.journal_core.specs.declared.rows.KeyKind.{KeyKind}
use Rattle.journal_core.specs.declared.rows.KeyKind.TheVariants.{Translation, GuestPage, ProcessDir, PartDir}
use Rattle.journal_core.specs.declared.rows.ReadRow.{ReadRow}
use Rattle.journal_core.specs.declared.rows.FillRow.{FillRow}
use Rattle.journal_core.specs.declared.rows.DoneRow.{DoneRow}
use Rattle.journal_core.specs.declared.rows.Done.TheVariants.{Ptcr}
use Rattle.journal_core.specs.Rows.{JournalView}
use Rattle.journal_core.specs.Steps.{IsDatedSoFar}
use Rattle.journal_core.specs.Covers.{ends_reading}
use Rattle.journal_core.specs.Standing.{AreNamed}
use Rattle.journal_core.specs.Translating.{IsLastDone, without_last, without_done, IsFillOfWalk}
use Rattle.journal_core.proofs.DoneFacts.{dones_are}
use Rattle.walk_laws.proofs.FillStays.{fill_stays}
use Rattle.walk_rows.specs.FillPage.{fill_rows}
use Rattle.translator.specs.declared.lists.Lists.{Lists}
use Rattle.translator.specs.PlaceLists.{HasFours, ends_fill, is_gone, expected, after_done}
use Rattle.translator.specs.Fits.{list_of, IsPageKind, IsMade, FitsThread, IsValueAfter, after_done_in}
use Rattle.translator.proofs.ExpectedLemmas.{expected_with_done, expected_fours, gone_after}
use Rattle.translator.proofs.LookLemmas.{made_by_now}

-- the list that is asked for after the last done row
expected_after : (j : JournalView) (row : DoneRow) (t : ℕ) (kind : KeyKind) → IsLastDone j.rows row → expected j.rows j.floor t kind ≡ map (after_done j.rows t row) (expected (without_done j).rows j.floor t kind)
expected_after j row t kind last =
    ap (λ ds. expected (record j.rows { dones = ds }) j.floor t kind) (dones_are j.rows row last)
    ∙ expected_with_done (without_done j).rows row j.floor t kind

list_after : (s : Lists) (j : JournalView) (row : DoneRow) (t : ℕ) → t < length s.translations → t < length s.pages → IsLastDone j.rows row → ((k : KeyKind) → IsPageKind k → list_of k s t ≡ expected (without_done j).rows j.floor t k) →
    (kind : KeyKind) → IsPageKind kind → list_of kind (after_done_in j.rows t row s) t ≡ expected j.rows j.floor t kind
list_after s j row t a b last h Translation page = get_or-set_same s.translations t (map (after_done j.rows t row) (slice_index_or s.translations t [])) [] a ∙ (ap (map (after_done j.rows t row)) (h Translation tt) ∙ sym (expected_after j row t Translation last))
list_after s j row t a b last h GuestPage page = get_or-set_same s.pages t (map (after_done j.rows t row) (slice_index_or s.pages t [])) [] b ∙ (ap (map (after_done j.rows t row)) (h GuestPage tt) ∙ sym (expected_after j row t GuestPage last))
list_after s j row t a b last h ProcessDir page = absurd page
list_after s j row t a b last h PartDir page = absurd page

or_left : (a b : Bool) → (a || b) ≡ false → a ≡ false
or_left true b e = e
or_left false b e = refl

or_right : (a b : Bool) → (a || b) ≡ false → b ≡ false
or_right true b e = cc
or_right false b e = e

gone_split : (j : JournalView) (row : DoneRow) (t : ℕ) (f : FillRow) → IsLastDone j.rows row → is_gone j.rows.reads j.rows.dones t f ≡ false → (is_gone j.rows.reads (without_last j.rows.dones) t f || ends_fill j.rows.reads t row f) ≡ false
gone_split j row t f last kept = sym (gone_after j.rows.reads (without_last j.rows.dones) t row f) ∙ (ap (λ ds. is_gone j.rows.reads ds t f) (sym (dones_are j.rows row last)) ∙ kept)

append_none : (xs : List ReadRow) → xs ≡ xs ++ []
append_none [] = refl
append_none (x ∷ xs) = ap (λ ys. x ∷ ys) (append_none xs)

of_walk_after : (j : JournalView) (ptcr : ℕ) (f : FillRow) → IsFillOfWalk (without_done j).rows ptcr f → IsFillOfWalk j.rows ptcr f
of_walk_after j ptcr f h = fill_stays (without_done j).rows j.rows [] ptcr f (append_none j.rows.reads) h

made_after : (j : JournalView) (row : DoneRow) (t ptcr : ℕ) (f : FillRow) → IsLastDone j.rows row → IsMade (without_done j).rows t ptcr f → IsMade j.rows t ptcr f
made_after j row t ptcr f last h = record {
  some = h.some;
  walked = (h.walked.0, of_walk_after j h.walked.0 f h.walked.1);
  present = λ kept. of_walk_after j ptcr f (h.present (or_left _ (ends_fill j.rows.reads t row f) (gone_split j row t f last kept)));
}

le_test : (a b : ℕ) → a ≤ b → nat_le a b ≡ true
le_test a b h = grind (arith, nat_tests)

itself : (k : ℕ) → (k == k) ≡ true
itself k = grind (arith, nat_tests)

-- a change of the partition table ends a reading of its thread that was made by then
table_ends : (t : ℕ) (r : ReadRow) (row : DoneRow) → row.what ≡ Ptcr → row.thread ≡ t → r.moment ≤ row.step → ends_reading t r row ≡ true
unfolding ends_reading
table_ends t r row what thread made = rw (le_test r.moment row.step made, what, thread, itself t) refl

table_ends_one : (t : ℕ) (rs : List ReadRow) (row : DoneRow) → row.what ≡ Ptcr → row.thread ≡ t → (rs ≡ [] → ⊥) → AllByRecursion (λ (r : ReadRow). r.moment ≤ row.step) rs → list_any (λ r. ends_reading t r row) rs ≡ true
table_ends_one t [] row what thread some made = absurd (some refl)
table_ends_one t (r ∷ rs) row what thread some made = rw (table_ends t r row what thread made.0) refl

both : (b : Bool) → b ≡ true → b ≡ false → ⊥
both b e h = cc

-- after it no fill of the thread is left
made_none : (j : JournalView) (row : DoneRow) (t old new i : ℕ) (f : FillRow) → IsLastDone j.rows row → row.step ≡ length j.rows.steps → AreNamed j.rows.reads j.rows.fills → IsDatedSoFar j.rows → row.what ≡ Ptcr → row.thread ≡ t → slice_get j.rows.fills i ≡ Some f →
    IsMade (without_done j).rows t old f → IsMade j.rows t new f
made_none j row t old new i f last step named dated what own at h = record {
  some = h.some;
  walked = (h.walked.0, of_walk_after j h.walked.0 f h.walked.1);
  present = λ kept. absurd (both (ends_fill j.rows.reads t row f)
      (table_ends_one t (fill_rows j.rows.reads f) row what own h.some (subst (λ n. AllByRecursion (λ (r : ReadRow). r.moment ≤ n) (fill_rows j.rows.reads f)) (sym step) (made_by_now j t i f named dated at)))
      (or_right (is_gone j.rows.reads (without_last j.rows.dones) t f) (ends_fill j.rows.reads t row f) (gone_split j row t f last kept)));
}

-- the facts of a thread after the last done row
pub thread_after : (s : Lists) (j : JournalView) (row : DoneRow) (t : ℕ) (value new : Option ℕ) → t < length s.translations → t < length s.pages → IsLastDone j.rows row → row.step ≡ length j.rows.steps → AreNamed j.rows.reads j.rows.fills → IsDatedSoFar j.rows →
    FitsThread s (without_done j) t value → IsValueAfter row t value new → FitsThread (after_done_in j.rows t row s) j t new
thread_after s j row t value new a b last step named dated h (inl same) = record {
  same = list_after s j row t a b last h.same;
  made = λ ptcr is i f at from thread. made_after j row t ptcr f last (h.made ptcr (sym same ∙ is) i f at from thread);
}
thread_after s j row t value new a b last step named dated h (inr any) = record {
  same = list_after s j row t a b last h.same;
  made = λ ptcr is i f at from thread. made_none j row t any.old ptcr i f last step named dated any.what any.own at (h.made any.old any.is i f at from thread);
}

-- no set of its lists has more than four places
pub thread_fours : (s : Lists) (j : JournalView) (t : ℕ) (value : Option ℕ) → FitsThread s j t value → (kind : KeyKind) → IsPageKind kind → HasFours (list_of kind s t)
thread_fours s j t value h kind page = subst HasFours (sym (h.same kind page)) (expected_fours j.rows j.floor t kind)
