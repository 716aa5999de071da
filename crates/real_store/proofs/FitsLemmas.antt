-- Write rows that fit.
use Rattle.std.proofs.Common.{ℕ, ◌≤◌, List, [], ◌∷◌, ◌++◌, refl, sym, ap, ◌∙◌}
use Rattle.journal_core.specs.declared.rows.WriteRow.{WriteRow}
use Rattle.journal_core.specs.Bytes.{IsBytes}
use Rattle.journal_core.specs.Past.{written, ram_after, word_in, IsWrite, AreWrites, Fits}
use Rattle.journal_core.proofs.PastLemmas.{ram_after-push}
use Rattle.journal_core.proofs.PastStays.{past-now}
use Rattle.real_store.specs.StoreLaws.{AStoreIsAWrite, AWriteKeepsFitting, AWordIsPast}

pub a_store_is_a_write : AStoreIsAWrite
a_store_is_a_write ram moment thread at size value some most within fits = record { size = (some, most); within = within; old = refl; new = fits }

AreWrites-push : (first : List ℕ) (rows : List WriteRow) (row : WriteRow) → AreWrites first rows → IsWrite (ram_after first rows) row → AreWrites first (rows ++ row ∷ [])
unfolding AreWrites ram_after
AreWrites-push first [] row are is = (is, tt)
AreWrites-push first (r ∷ rows) row are is = (are.0, AreWrites-push (written first r) rows row are.1 is)

pub a_write_keeps_fitting : AWriteKeepsFitting
a_write_keeps_fitting first rows ram row fits is = record {
  bytes = fits.bytes;
  right = AreWrites-push first rows row fits.right (rw fits.last at is);
  last = ap (λ (before : List ℕ). written before row) fits.last ∙ sym (ram_after-push first rows row);
}

pub a_word_is_past : AWordIsPast
a_word_is_past first rows ram n at fits order = ap (λ (now : List ℕ). word_in now at) fits.last ∙ past-now first n rows at order

pub fits_no_rows : (ram : List ℕ) → IsBytes ram → Fits ram [] ram
unfolding AreWrites ram_after
fits_no_rows ram all = record { bytes = all; right = tt; last = refl }

AreWrites-last : (first : List ℕ) (rows : List WriteRow) (row : WriteRow) → AreWrites first (rows ++ row ∷ []) → IsWrite (ram_after first rows) row
unfolding AreWrites ram_after
AreWrites-last first [] row are = are.0
AreWrites-last first (r ∷ rows) row are = AreWrites-last (written first r) rows row are.1

-- the last write row is of at most eight bytes
pub Fits-size : (first : List ℕ) (rows : List WriteRow) (row : WriteRow) (now : List ℕ) → Fits first (rows ++ row ∷ []) now → row.size ≤ 8
Fits-size first rows row now fits = (AreWrites-last first rows row fits.right).size.1
