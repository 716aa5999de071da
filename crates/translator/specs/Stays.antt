-- Lists that fit a journal fit it still when rows of steps, writes and devices are added.
use Rattle.std.specs.Prelude.{◌≡◌, ℕ, ◌≤◌, List, [], length, drop, slice_get}
use Rattle.std.proofs.Common.{ap, sym, ◌∙◌, subst, append-nil}
use Rattle.journal_core.specs.declared.rows.KeyKind.{KeyKind}
use Rattle.journal_core.specs.declared.rows.FillRow.{FillRow}
use Rattle.journal_core.specs.Rows.{JournalView}
use Rattle.journal_core.specs.Translating.{SameKept, IsFillOfWalk}
use Rattle.walk_laws.proofs.FillStays.{fill_stays}
use Rattle.walk_rows.specs.FillPage.{fill_rows}
use Rattle.translator.specs.declared.lists.Lists.{Lists}
use Rattle.translator.specs.PlaceLists.{is_of, is_gone, places_from, expected}
use Rattle.translator.specs.Fits.{IsMade, Fits}

expected_kept : (j k : JournalView) (t : ℕ) (kind : KeyKind) → SameKept j k → expected k.rows k.floor t kind ≡ expected j.rows j.floor t kind
unfolding expected
expected_kept j k t kind e =
    ap (λ xs. places_from (is_of t kind) (is_gone xs k.rows.dones t) k.floor (drop k.floor k.rows.fills)) e.reads
    ∙ (ap (λ ds. places_from (is_of t kind) (is_gone j.rows.reads ds t) k.floor (drop k.floor k.rows.fills)) e.dones
    ∙ (ap (λ fs. places_from (is_of t kind) (is_gone j.rows.reads j.rows.dones t) k.floor (drop k.floor fs)) e.fills
    ∙ ap (λ n. places_from (is_of t kind) (is_gone j.rows.reads j.rows.dones t) n (drop n j.rows.fills)) e.floor))

gone_kept : (j k : JournalView) (t : ℕ) (f : FillRow) → SameKept j k → is_gone k.rows.reads k.rows.dones t f ≡ is_gone j.rows.reads j.rows.dones t f
gone_kept j k t f e = ap (λ xs. is_gone xs k.rows.dones t f) e.reads ∙ ap (λ ds. is_gone j.rows.reads ds t f) e.dones

walk_kept : (j k : JournalView) (ptcr : ℕ) (f : FillRow) → SameKept j k → IsFillOfWalk j.rows ptcr f → IsFillOfWalk k.rows ptcr f
walk_kept j k ptcr f e h = fill_stays j.rows k.rows [] ptcr f (e.reads ∙ sym (append-nil j.rows.reads)) h

made_kept : (j k : JournalView) (t ptcr : ℕ) (f : FillRow) → SameKept j k → IsMade j.rows t ptcr f → IsMade k.rows t ptcr f
made_kept j k t ptcr f e h = record {
  some = λ none. h.some (ap (λ xs. fill_rows xs f) (sym e.reads) ∙ none);
  walked = (h.walked.0, walk_kept j k h.walked.0 f e h.walked.1);
  present = λ kept. walk_kept j k ptcr f e (h.present (sym (gone_kept j k t f e) ∙ kept));
}

pub fits_stays : (s : Lists) (j k : JournalView) (values : List ℕ) → SameKept j k → Fits s j values → Fits s k values
fits_stays s j k values e h = record {
  within = subst (λ n. n ≤ length k.rows.fills) (sym e.floor) (subst (λ (xs : List FillRow). j.floor ≤ length xs) (sym e.fills) h.within);
  same = λ t below kind page. h.same t below kind page ∙ sym (expected_kept j k t kind e);
  made = λ t ptcr below value i f at from thread. made_kept j k t ptcr f e (h.made t ptcr below value i f (ap (λ xs. slice_get xs i) (sym e.fills) ∙ at) (subst (λ n. n ≤ i) e.floor from) thread);
}
