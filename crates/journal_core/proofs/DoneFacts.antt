-- A journal before its last completion.
use Rattle.std.proofs.Common.{◌≡◌, List, [], ◌∷◌, ◌++◌, ap, sym, ◌∙◌, refl}
use Rattle.journal_core.specs.declared.rows.DoneRow.{DoneRow}
use Rattle.journal_core.specs.Rows.{Rows, JournalView}
use Rattle.journal_core.specs.Steps.{add_done}
use Rattle.journal_core.specs.Translating.{IsLastDone, without_last, without_done}

pub without_last_of : {X : Type 0} (xs : List X) (x : X) → without_last (xs ++ x ∷ []) ≡ xs
without_last_of [] x = refl
without_last_of (y ∷ []) x = refl
without_last_of (y ∷ (z ∷ xs)) x = ap (λ ys. y ∷ ys) (without_last_of (z ∷ xs) x)

-- without a done row that was added a journal is as it was before
pub without_added : (j k : JournalView) (row : DoneRow) → k ≡ record j { rows = add_done j.rows row } → without_done k ≡ j
without_added j k row e = ap without_done e ∙ ap (λ ds. record j { rows = record j.rows { dones = ds } }) (without_last_of j.rows.dones row)

-- the done row that was added is the last
pub added_is_last : (rows : Rows) (row : DoneRow) → IsLastDone (add_done rows row) row
added_is_last rows row = record { before = rows.dones; is = refl }

-- the done rows are those before the last, and it
pub dones_are : (rows : Rows) (row : DoneRow) → IsLastDone rows row → rows.dones ≡ without_last rows.dones ++ row ∷ []
dones_are rows row last = last.is ∙ ap (λ ds. ds ++ row ∷ []) (sym (without_last_of last.before row) ∙ ap without_last (sym last.is))
