-- The events of a run are counted by their steps.
use Rattle.std.proofs.Common.{◌≡◌, ℕ, suc, ◌+◌, ◌<◌, ◌≤◌, List, [], ◌∷◌, length, arith, ap, sym, ◌∙◌, refl, subst}
use Rattle.std.specs.List.{AllByRecursion}
use Rattle.std.proofs.lemmas.List.{length-map}
use Rattle.journal_core.specs.declared.rows.StepRow.{StepRow}
use Rattle.journal_core.specs.Rows.{Rows}
use Rattle.journal_core.specs.Steps.{StepRows, steps_of, own_from, own_at}
use Rattle.journal_core.specs.Runs.{PastStep, made_after, IsRun, Event, event_of, events_of, AreCounted}

-- there are as many events as steps that were made
pub events_length : {S D : Type 0} (deed : S → StepRows → D) (made : List (PastStep S)) → length (events_of deed made) ≡ length made
events_length deed made = length-map made (event_of deed)

made_count : {S : Type 0} (next : S → StepRows → S) (past : List (PastStep S)) (s : S) (n : ℕ) (j : Rows) (rows : List StepRow) → length (made_after next past s (own_from n j rows)) ≡ length rows + length past
unfolding made_after own_from
made_count next past s n j [] = omega arith
made_count next past s n j (row ∷ rows) = omega (arith, made_count next (record { state = s; own = own_at n j row } ∷ past) (next s (own_at n j row)) (n + 1) j rows)

-- in a run as many steps were made as there are step rows
pub run_length : {S : Type 0} (Keeps : Rows → List (PastStep S) → S → StepRows → Type 0) (next : S → StepRows → S) (start : S) (j : Rows) (past : List (PastStep S)) (now : S) → IsRun Keeps next start j past now → length past ≡ length j.steps
unfolding steps_of
run_length Keeps next start j past now run = omega (arith, ap length run.steps, made_count next [] start 0 j j.steps)

counted_from : {S D : Type 0} (deed : S → StepRows → D) (next : S → StepRows → S) (past : List (PastStep S)) (s : S) (n : ℕ) (j : Rows) (rows : List StepRow) → n ≡ length past → AreCounted (events_of deed past) → AreCounted (events_of deed (made_after next past s (own_from n j rows)))
unfolding made_after own_from own_at
counted_from deed next past s n j [] e h = h
counted_from deed next past s n j (row ∷ rows) e h =
    counted_from deed next (record { state = s; own = own_at n j row } ∷ past) (next s (own_at n j row)) (n + 1) j rows (omega (arith, e)) (e ∙ sym (events_length deed past), h)

-- in a run the step of each event is the number of events before it
pub events_counted : {S D : Type 0} (deed : S → StepRows → D) (Keeps : Rows → List (PastStep S) → S → StepRows → Type 0) (next : S → StepRows → S) (start : S) (j : Rows) (past : List (PastStep S)) (now : S) → IsRun Keeps next start j past now → AreCounted (events_of deed past)
unfolding steps_of
events_counted deed Keeps next start j past now run = subst (λ made. AreCounted (events_of deed made)) (sym run.steps) (counted_from deed next [] start 0 j j.steps refl tt)

below_later : {D : Type 0} (n m : ℕ) (es : List (Event D)) → n ≤ m → AllByRecursion (λ (e : Event D). e.step < n) es → AllByRecursion (λ (e : Event D). e.step < m) es
below_later n m [] more all = tt
below_later n m (e ∷ es) more all = (omega (arith, more, all.0), below_later n m es more all.1)

-- so each event's step is below their number
pub counted_below : {D : Type 0} (es : List (Event D)) → AreCounted es → AllByRecursion (λ (e : Event D). e.step < length es) es
counted_below [] h = tt
counted_below (e ∷ es) h = ((let first : e.step ≡ length es = h.0 in omega (arith, first)), below_later (length es) (suc (length es)) es (omega arith) (counted_below es h.1))
