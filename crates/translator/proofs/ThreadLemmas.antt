-- A completed operation, thread by thread.
use Rattle.std.proofs.Common.{◌≡◌, ℕ, ◌+◌, ◌<◌, ◌≤◌, List, [], length, map, Option, Some, None, arith, ap, sym, ◌∙◌, refl, subst, inl, inr, ◌⊎◌, get_or, get_or-set_other}
use Rattle.std.specs.Prelude.{slice_get, slice_index_or}
use Rattle.std.proofs.lemmas.Option.{slice_get_within, slice_get-get_or}
use Rattle.std.proofs.lemmas.Bool.Decides.{eqb_tells}
use Rattle.journal_core.specs.declared.rows.KeyKind.{KeyKind}
use Rattle.journal_core.specs.declared.rows.KeyKind.TheVariants.{Translation, GuestPage, ProcessDir, PartDir}
use Rattle.journal_core.specs.declared.rows.Done.{Done}
use Rattle.journal_core.specs.declared.rows.Done.TheVariants.{Global, Local, Ptcr}
use Rattle.journal_core.specs.declared.rows.DoneRow.{DoneRow}
use Rattle.journal_core.specs.Rows.{JournalView}
use Rattle.journal_core.specs.Translating.{without_done, AreValues, AreValuesAfter}
use Rattle.translator.specs.declared.lists.Lists.{Lists}
use Rattle.translator.specs.PlaceLists.{after_done}
use Rattle.translator.specs.Fits.{list_of, Fits, FitsThread, IsValueAfter, FitsSoFar, after_done_in}

thread_of : (s : Lists) (j : JournalView) (values : List ℕ) (t : ℕ) → Fits s j values → t < s.threads → FitsThread s j t (slice_get values t)
thread_of s j values t h below = record { same = h.same t below; made = λ ptcr is. h.made t ptcr below is }

-- the lists of another thread stay
others_stay : (s : Lists) (j : JournalView) (row : DoneRow) (k t : ℕ) (kind : KeyKind) → (t ≡ k → ⊥) → list_of kind (after_done_in j.rows k row s) t ≡ list_of kind s t
others_stay s j row k t Translation other = get_or-set_other s.translations k t (map (after_done j.rows k row) (slice_index_or s.translations k [])) [] other
others_stay s j row k t GuestPage other = get_or-set_other s.pages k t (map (after_done j.rows k row) (slice_index_or s.pages k [])) [] other
others_stay s j row k t ProcessDir other = refl
others_stay s j row k t PartDir other = refl

thread_stays : (s : Lists) (j i : JournalView) (row : DoneRow) (k t : ℕ) (value : Option ℕ) → (t ≡ k → ⊥) → FitsThread s i t value → FitsThread (after_done_in j.rows k row s) i t value
thread_stays s j i row k t value other h = record { same = λ kind page. others_stay s j row k t kind other ∙ h.same kind page; made = h.made }

nothing : (x : ℕ) → None ≡ Some x → ⊥
nothing x w = cc

-- a list with as many values has one where the other has one
there : (values new : List ℕ) (t v : ℕ) → length new ≡ length values → slice_get new t ≡ Some v → slice_get values t ≡ Some (get_or values t 0)
there values new t v count is = (let within : t < length new = slice_get_within new t v is in slice_get-get_or values t 0 (omega (arith, within, count)))

none_there : (values new : List ℕ) (t : ℕ) (o : Option ℕ) → length new ≡ length values → slice_get values t ≡ o → slice_get new t ≡ None → slice_get new t ≡ slice_get values t
none_there values new t None count old none = none ∙ sym old
none_there values new t (Some v) count old none = absurd (nothing (get_or new t 0) (sym none ∙ there new values t v (sym count) old))

by_table : (row : DoneRow) (values new : List ℕ) (t : ℕ) (o : Option ℕ) → row.what ≡ Ptcr → row.thread ≡ t → length new ≡ length values → slice_get new t ≡ o → IsValueAfter row t (slice_get values t) (slice_get new t)
by_table row values new t None what own count is = inl (none_there values new t (slice_get values t) count refl is)
by_table row values new t (Some v) what own count is = inr (record { what = what; own = own; old = get_or values t 0; is = there values new t v count is })

-- the value of a thread after the row
value_by : (row : DoneRow) (what : Done) → row.what ≡ what → (values new : List ℕ) (t : ℕ) → AreValues what row.thread values new → IsValueAfter row t (slice_get values t) (slice_get new t)
value_by row (Global op) e values new t h = inl (ap (λ xs. slice_get xs t) h)
value_by row (Local op) e values new t h = inl (ap (λ xs. slice_get xs t) h)
value_by row Ptcr e values new t h = elim (eqb_tells t row.thread) [
  | inr other ↦ inl (h.others t other.1)
  | inl own ↦ by_table row values new t (slice_get new t) e (sym own.1) h.count refl
]

never : (n : ℕ) → n < 0 → ⊥
never n less = omega arith

pub so_far_none : (s : Lists) (old j : JournalView) (row : DoneRow) → FitsSoFar s s old j row 0
so_far_none s old j row values new h after t below = (λ less. absurd (never t less), λ all. thread_of s old values t h below)

either : (t k : ℕ) → t < k + 1 → (t < k) ⊎ (t ≡ k)
either t k h = grind arith

less_not : (t k : ℕ) → t < k → t ≡ k → ⊥
less_not t k h e = omega (arith, h, e)

more_not : (t k : ℕ) → k + 1 ≤ t → t ≡ k → ⊥
more_not t k h e = omega (arith, h, e)

-- one more thread
pub so_far_more : (first s then : Lists) (old j : JournalView) (row : DoneRow) (k : ℕ) → k < first.threads → FitsSoFar first s old j row k → then ≡ after_done_in j.rows k row s →
    ((value new : Option ℕ) → FitsThread s old k value → IsValueAfter row k value new → FitsThread then j k new) → FitsSoFar first then old j row (k + 1)
so_far_more first s then old j row k small so is one values new h after t below = (
  λ less. elim (either t k less) [
    | inl before ↦ subst (λ x. FitsThread x j t (slice_get new t)) (sym is) (thread_stays s j j row k t (slice_get new t) (less_not t k before) ((so values new h after t below).0 before))
    | inr same ↦ subst (λ n. FitsThread then j n (slice_get new n)) (sym same) (one (slice_get values k) (slice_get new k) ((so values new h after k small).1 (omega arith)) (value_by row row.what refl values new k after))
  ],
  λ more. subst (λ x. FitsThread x old t (slice_get values t)) (sym is) (thread_stays s j old row k t (slice_get values t) (more_not t k more) ((so values new h after t below).1 (omega (arith, more)))),
)

-- all threads
pub so_far_all : (first s : Lists) (j : JournalView) (row : DoneRow) (k : ℕ) → k ≡ first.threads → s.threads ≡ first.threads → FitsSoFar first s (without_done j) j row k → (values new : List ℕ) → Fits first (without_done j) values → AreValuesAfter row values new → Fits s j new
so_far_all first s j row k all threads so values new h after = record {
  within = h.within;
  same = λ t below kind page. ((so values new h after t (omega (arith, below, threads))).0 (omega (arith, below, threads, all))).same kind page;
  made = λ t ptcr below is. ((so values new h after t (omega (arith, below, threads))).0 (omega (arith, below, threads, all))).made ptcr is;
}

-- the values may stay as they are
same_values : (what : Done) (t : ℕ) (values : List ℕ) → AreValues what t values values
same_values (Global op) t values = refl
same_values (Local op) t values = refl
same_values Ptcr t values = record { count = refl; others = λ j other. refl }

pub thread_before : (first s : Lists) (old j : JournalView) (row : DoneRow) (k : ℕ) (values : List ℕ) → k < first.threads → FitsSoFar first s old j row k → Fits first old values → FitsThread s old k (slice_get values k)
thread_before first s old j row k values small so h = (so values values h (same_values row.what row.thread values) k small).1 (omega arith)
