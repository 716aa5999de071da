-- How many rows a step adds, and how many a journal has.
use Rattle.std.proofs.Common.{◌≡◌, ℕ, ◌+◌, ◌*◌, ◌<◌, ◌≤◌, ◌==◌, nat_lt, nat_le, Bool, true, false, if◌then◌else◌, List, [], ◌∷◌, length, filter, Option, Some, None, refl, sym, ap, ◌∙◌, subst, arith, length-append}
use Rattle.std.proofs.lemmas.Bool.Decides.{nat_tests}
use Rattle.journal_core.specs.declared.rows.ReadRow.{ReadRow}
use Rattle.journal_core.specs.declared.rows.FillRow.{FillRow}
use Rattle.journal_core.specs.declared.rows.WriteRow.{WriteRow}
use Rattle.journal_core.specs.declared.rows.DoneRow.{DoneRow}
use Rattle.journal_core.specs.declared.rows.DeviceRow.{DeviceRow}
use Rattle.journal_core.specs.declared.rows.StepRow.{StepRow}
use Rattle.journal_core.specs.Rows.{Rows, no_rows}
use Rattle.journal_core.specs.Room.{step_reads, step_fills, step_writes, step_dones, step_devices, read_places, fill_places, write_places, done_places, device_places}
use Rattle.journal_core.specs.Past.{past}
use Rattle.journal_core.specs.Steps.{StepRows, InOrder, IsDated, IsOwn, with_own, own_at, own_from, steps_of, rows_of_step}
use Rattle.journal_core.specs.Runs.{PastStep, EachKeeps, state_after}
use Rattle.journal_core.specs.Turns.{Mark, query_of}
use Rattle.journal_core.specs.Answers.{mark_at}
use Rattle.journal_core.proofs.StepsLemmas.{IsDated-push}
use Rattle.storage_ops.specs.Effects.{behind, answer_in}
use Rattle.ppc_step.specs.States.{State}
use Rattle.ppc_step.specs.Steps.{step_asks}
use Rattle.ppc_step.specs.Rule.{KeepsRule, thread_in, turn_after, outcome_of, next_state, IsLawfulRun}
use Rattle.ppc_step.proofs.MarksLemmas.{mark_before, mark_behind}
use Rattle.step_laws.specs.Rows.{AreFew, StepsAddFew, ShortRunsHaveRoom}
use Rattle.step_laws.proofs.AnswersLemmas.{IsFew, few_answers}
use Rattle.step_laws.proofs.StoredLemmas.{few_stored, writes_long, few_asked}

-- ---- one step

-- what the answers add are the step's reads and fills
few_own : (before : Rows) (own : StepRows) → IsDated before → IsOwn own → own.number ≡ length before.steps → IsFew 3 (mark_at (with_own before own) own.number) (mark_at (with_own before own) (own.number + 1)) → (length own.reads ≤ 108) × (length own.fills ≤ 105)
unfolding with_own
few_own before own dated is numbered few =
    let from = mark_before before own dated is numbered in
    let to = mark_behind before own dated is numbered in
    let reads = length-append before.reads own.reads in
    let fills = length-append before.fills own.fills in
    (omega (arith, few.reads, ap (λ (m : Mark). m.reads) from, ap (λ (m : Mark). m.reads) to, reads), omega (arith, few.fills, ap (λ (m : Mark). m.fills) from, ap (λ (m : Mark). m.fills) to, fills))

pub step_adds_few : StepsAddFew
step_adds_few start before made s own dated is numbered keeps =
    let asks = step_asks (thread_in s own) s.ram keeps.founds in
    let turn = turn_after before own in
    let rows = with_own before own in
    let some : IsFew (length asks) (mark_at rows own.number) (mark_at rows (own.number + 1)) =
    few_answers (past start.ram before.writes) (query_of turn (past start.ram before.writes own.number)) (λ b ask. refl) (mark_at rows own.number) asks keeps.founds (mark_at rows (own.number + 1)) keeps.uses.answers_are in
    let three : IsFew 3 (mark_at rows own.number) (mark_at rows (own.number + 1)) = record { reads = omega (arith, some.reads, keeps.uses.few); fills = omega (arith, some.fills, keeps.uses.few) } in
    let both = few_own before own dated is numbered three in
    let stored = (behind (outcome_of s own keeps.founds) (thread_in s own)).stored in
    let writes : length own.writes ≡ length stored = ap length keeps.write ∙ writes_long own.number own.row.thread s.ram stored in
    record {
      reads = both.0;
      fills = both.1;
      writes = omega (arith, writes, few_stored (thread_in s own) s.windows s.ram keeps.founds (answer_in own.devices));
      dones = omega (arith, ap length keeps.done);
      devices = few_asked own.number (behind (outcome_of s own keeps.founds) (thread_in s own)).asked own.devices keeps.device;
    }

-- ---- all steps

-- so many steps' rows at most
pub record AreFewIn (n : ℕ) (j : Rows) : Type 0 where
  pub reads : length j.reads ≤ 108 * n
  pub fills : length j.fills ≤ 105 * n
  pub writes : length j.writes ≤ 16 * n
  pub dones : length j.dones ≤ 64 * n
  pub devices : length j.devices ≤ n

few_with : (n : ℕ) (j : Rows) (own : StepRows) → AreFewIn n j → AreFew own → AreFewIn (n + 1) (with_own j own)
unfolding with_own
few_with n j own some few = record {
  reads = omega (arith, some.reads, few.reads, length-append j.reads own.reads);
  fills = omega (arith, some.fills, few.fills, length-append j.fills own.fills);
  writes = omega (arith, some.writes, few.writes, length-append j.writes own.writes);
  dones = omega (arith, some.dones, few.dones, length-append j.dones own.dones);
  devices = omega (arith, some.devices, few.devices, length-append j.devices own.devices);
}

few_within : (n m : ℕ) (j : Rows) → n ≡ m → AreFewIn n j → AreFewIn m j
few_within n m j is few = subst (λ k. AreFewIn k j) is few

equal : (a b : ℕ) → (a == b) ≡ true → a ≡ b
equal a b is = grind (arith, nat_tests)

picked : {R : Type 0} (number : R → ℕ) (n low : ℕ) (row : R) (rows : List R) (b : Bool) → (number row == n) ≡ b → low ≤ n → ((low : ℕ) → low ≤ n → InOrder number low (n + 1) rows) → InOrder number low (n + 1) (if b then row ∷ rows else rows)
unfolding InOrder
picked number n low row rows true is below order = (let same = equal (number row) n is in (omega (arith, same, below), omega (arith, same), order (number row) (omega (arith, same))))
picked number n low row rows false is below order = order low below

of_step : {R : Type 0} (number : R → ℕ) (n low : ℕ) (rows : List R) → low ≤ n → InOrder number low (n + 1) (rows_of_step number n rows)
unfolding InOrder rows_of_step
of_step number n low [] below = tt
of_step number n low (row ∷ rows) below = picked number n low row (filter (λ row. number row == n) rows) (number row == n) refl below (λ low below. of_step number n low rows below)

-- the rows of a step that are picked from a journal carry its number
own_is_own : (n : ℕ) (j : Rows) (row : StepRow) → IsOwn (own_at n j row)
unfolding own_at with_own
own_is_own n j row = record {
  reads = of_step (λ (r : ReadRow). r.moment) n n j.reads (omega arith);
  fills = of_step (λ (r : FillRow). r.moment) n n j.fills (omega arith);
  writes = of_step (λ (r : WriteRow). r.step) n n j.writes (omega arith);
  dones = of_step (λ (r : DoneRow). r.step) n n j.dones (omega arith);
  devices = of_step (λ (r : DeviceRow). r.step) n n j.devices (omega arith);
}

own_number : (n : ℕ) (j : Rows) (row : StepRow) → (own_at n j row).number ≡ n
unfolding own_at
own_number n j row = refl

steps_with : (j : Rows) (own : StepRows) → length (with_own j own).steps ≡ length j.steps + 1
unfolding with_own
steps_with j own = length-append j.steps (own.row ∷ [])

few_after : (start : State) (before : Rows) (made : List (PastStep State)) (s : State) (j : Rows) (n : ℕ) (rows : List StepRow) → n ≡ length before.steps → IsDated before → AreFewIn n before →
    EachKeeps (KeepsRule start) next_state before made s (own_from n j rows) → AreFewIn (n + length rows) (state_after with_own before (own_from n j rows))
unfolding own_from state_after EachKeeps
few_after start before made s j n [] is dated few each = few_within n (n + 0) before (omega arith) few
few_after start before made s j n (row ∷ rows) is dated few each =
    let own = own_at n j row in
    let is_own : IsOwn own = own_is_own n j row in
    let numbered : own.number ≡ length before.steps = own_number n j row ∙ is in
    let one : AreFew own = step_adds_few start before made s own dated is_own numbered each.0 in
    let later = few_after start (with_own before own) (record { state = s; own = own } ∷ made) (next_state s own) j (n + 1) rows (omega (arith, is, steps_with before own)) (IsDated-push before own dated is_own numbered) (few_with n before own few one) each.1 in
    few_within (n + 1 + length rows) (n + length (row ∷ rows)) _ (omega arith) later

none_yet : IsDated no_rows
unfolding InOrder
none_yet = record { reads = tt; fills = tt; writes = tt; dones = tt; devices = tt }

few_in_none : AreFewIn 0 no_rows
few_in_none = record { reads = omega arith; fills = omega arith; writes = omega arith; dones = omega arith; devices = omega arith }

-- the rows of a lawful journal
few_in_run : (start : State) (j : Rows) (now : State) → IsLawfulRun start j now → AreFewIn (length j.steps) j
unfolding steps_of
few_in_run start j now run = subst (AreFewIn (length j.steps)) (sym run.run.whole) (few_within (0 + length j.steps) (length j.steps) _ (omega arith) (few_after start no_rows [] start j 0 j.steps refl none_yet few_in_none run.run.each))

-- ---- room

joined : {X : Type 0} (b : Bool) (x : X) (rest : Option X) → b ≡ false → rest ≡ None → (if b then Some x else rest) ≡ None
joined b x rest off none = rw (off, none) refl

not_below : (a b : ℕ) → b ≤ a → nat_lt a b ≡ false
not_below a b above = grind (arith, nat_tests)

not_to : (a b : ℕ) → b < a → nat_le a b ≡ false
not_to a b above = grind (arith, nat_tests)

pub short_runs : ShortRunsHaveRoom
short_runs start rows now reserved run short left =
    let few = few_in_run start rows now run in
    joined _ _ _ (not_below (read_places reserved) (length rows.reads + step_reads) (omega (arith, few.reads, short, left)))
    (joined _ _ _ (not_below (fill_places reserved) (length rows.fills + step_fills) (omega (arith, few.fills, short, left)))
    (joined _ _ _ (not_below (write_places reserved) (length rows.writes + step_writes) (omega (arith, few.writes, short, left)))
    (joined _ _ _ (not_below (done_places reserved) (length rows.dones + step_dones) (omega (arith, few.dones, short, left)))
    (joined _ _ _ (not_below (device_places reserved) (length rows.devices + step_devices) (omega (arith, few.devices, short, left)))
    (joined _ _ _ (not_to reserved (length rows.steps) left) refl)))))
