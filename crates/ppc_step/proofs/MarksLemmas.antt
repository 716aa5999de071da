-- The rows of one step, and the counts before and behind it.
use Rattle.std.proofs.Common.{◌≡◌, ℕ, ◌+◌, ◌≤◌, Bool, true, false, List, [], ◌∷◌, ◌++◌, length, Option, Some, None, refl, sym, ap, ◌∙◌, subst, arith, append-nil, length-append}
use Rattle.std.specs.List.{AllByRecursion}
use Rattle.journal_core.specs.declared.rows.ReadRow.{ReadRow}
use Rattle.journal_core.specs.declared.rows.FillRow.{FillRow}
use Rattle.journal_core.specs.declared.rows.WriteRow.{WriteRow}
use Rattle.journal_core.specs.declared.rows.DeviceRow.{DeviceRow}
use Rattle.journal_core.specs.Rows.{Rows, JournalView}
use Rattle.journal_core.specs.Steps.{StepRows, InOrder, IsDated, IsOwn, first_steps, with_own, add_step}
use Rattle.journal_core.specs.Past.{write_row, written}
use Rattle.journal_core.specs.Turns.{Mark, mark_of}
use Rattle.journal_core.specs.Answers.{mark_at}
use Rattle.journal_core.proofs.StepsLemmas.{IsDated-push, first_steps-all, first_steps-own}
use Rattle.storage_ops.specs.Effects.{Stored, DeviceAsk, writes_of, AreAsked, AreAskedBy}

-- ---- the rows of one step

-- rows of one step are in order
order_of : {R : Type 0} (number : R → ℕ) (n low : ℕ) (rows : List R) → low ≤ n → AllByRecursion (λ r. number r ≡ n) rows → InOrder number low (n + 1) rows
unfolding InOrder
order_of number n low [] below all = tt
order_of number n low (row ∷ rows) below all = (omega (arith, below, all.0), omega (arith, all.0), order_of number n (number row) rows (omega (arith, all.0)) all.1)

-- the write rows of what is stored in a step are rows of that step
writes_order : (n low thread : ℕ) (ram : List ℕ) (ss : List Stored) → low ≤ n → InOrder (λ (w : WriteRow). w.step) low (n + 1) (writes_of n thread ram ss)
unfolding InOrder
writes_order n low thread ram [] below = tt
writes_order n low thread ram (s ∷ ss) below = (below, omega arith, writes_order n n thread (written ram (write_row n thread ram s.at s.size s.value)) ss (omega arith))

one_in_order : (n : ℕ) (row : DeviceRow) (rows : List DeviceRow) → row.step ≡ n → rows ≡ row ∷ [] → InOrder (λ (d : DeviceRow). d.step) n (n + 1) rows
one_in_order n row rows step is = subst (InOrder (λ (d : DeviceRow). d.step) n (n + 1)) (sym is) (order_of (λ (d : DeviceRow). d.step) n n (row ∷ []) (omega arith) (step, tt))

-- so are the device rows of what is asked in it
devices_order : (n : ℕ) (asked : Option DeviceAsk) (rows : List DeviceRow) → AreAsked n asked rows → InOrder (λ (d : DeviceRow). d.step) n (n + 1) rows
devices_order n None rows are = subst (InOrder (λ (d : DeviceRow). d.step) n (n + 1)) (sym are) (order_of (λ (d : DeviceRow). d.step) n n [] (omega arith) tt)
devices_order n (Some ask) rows are = by ask.store are
  where
    by : (store : Bool) → AreAskedBy store n ask rows → InOrder (λ (d : DeviceRow). d.step) n (n + 1) rows
    by true are = one_in_order n _ rows refl are.1
    by false are = one_in_order n _ rows refl are.2

-- the rows of a step of which no operation is completed
pub own_is : (own : StepRows) (thread : ℕ) (ram : List ℕ) (ss : List Stored) (asked : Option DeviceAsk) → AllByRecursion (λ (r : ReadRow). r.moment ≡ own.number) own.reads → AllByRecursion (λ (f : FillRow). f.moment ≡ own.number) own.fills →
    own.writes ≡ writes_of own.number thread ram ss → own.dones ≡ [] → AreAsked own.number asked own.devices → IsOwn own
unfolding with_own
own_is own thread ram ss asked reads fills writes dones devices = record {
  reads = order_of (λ (r : ReadRow). r.moment) own.number own.number own.reads (omega arith) reads;
  fills = order_of (λ (f : FillRow). f.moment) own.number own.number own.fills (omega arith) fills;
  writes = subst (InOrder (λ (w : WriteRow). w.step) own.number (own.number + 1)) (sym writes) (writes_order own.number own.number thread ram ss (omega arith));
  dones = subst (InOrder (λ d. d.step) own.number (own.number + 1)) (sym dones) (order_of (λ d. d.step) own.number own.number [] (omega arith) tt);
  devices = devices_order own.number asked own.devices devices;
}

-- ---- the counts

same_counts : (k : ℕ) (j : Rows) → mark_at j k ≡ mark_of (first_steps k j)
unfolding first_steps
same_counts k j = refl

-- a step begins where the journal before it ends
pub mark_before : (j : Rows) (own : StepRows) → IsDated j → IsOwn own → own.number ≡ length j.steps → mark_at (with_own j own) own.number ≡ mark_of j
mark_before j own dated is numbered =
    same_counts own.number (with_own j own)
    ∙ (ap mark_of (first_steps-own own.number j own (omega (arith, numbered)) is numbered)
    ∙ (ap (λ k. mark_of (first_steps k j)) numbered ∙ ap mark_of (first_steps-all j dated)))

steps_with : (j : Rows) (own : StepRows) → own.number ≡ length j.steps → length (with_own j own).steps ≡ own.number + 1
unfolding with_own
steps_with j own numbered = (let l : length (j.steps ++ own.row ∷ []) ≡ length j.steps + 1 = length-append j.steps (own.row ∷ []) in omega (arith, l, numbered))

-- and it ends where the journal with its rows does
pub mark_behind : (j : Rows) (own : StepRows) → IsDated j → IsOwn own → own.number ≡ length j.steps → mark_at (with_own j own) (own.number + 1) ≡ mark_of (with_own j own)
mark_behind j own dated is numbered =
    same_counts (own.number + 1) (with_own j own)
    ∙ (ap (λ k. mark_of (first_steps k (with_own j own))) (sym (steps_with j own numbered)) ∙ ap mark_of (first_steps-all (with_own j own) (IsDated-push j own dated is numbered)))

mark_made : ℕ → ℕ → Mark
mark_made fills reads = record { fills = fills; reads = reads }

-- these counts are those of a journal with the reads and fills of the step
pub mark_with : (j : Rows) (own : StepRows) (between : Rows) → between.reads ≡ j.reads ++ own.reads → between.fills ≡ j.fills ++ own.fills → mark_of (with_own j own) ≡ mark_of between
unfolding with_own mark_made
mark_with j own between reads fills =
    ap (λ (xs : List FillRow). mark_made (length xs) (length (j.reads ++ own.reads))) (sym fills) ∙ ap (λ (ys : List ReadRow). mark_made (length between.fills) (length ys)) (sym reads)

-- ---- the journal with the step's rows

pub journal_with : (old between new : JournalView) (own : StepRows) → own.dones ≡ [] →
    between ≡ record old { rows = record old.rows { reads = old.rows.reads ++ own.reads; fills = old.rows.fills ++ own.fills } } →
    new ≡ record between { rows = record between.rows { writes = between.rows.writes ++ own.writes; devices = between.rows.devices ++ own.devices } } →
    record new { rows = add_step new.rows own.row } ≡ record old { rows = with_own old.rows own }
unfolding with_own
journal_with old between new own none first second =
    ap (λ (j : JournalView). record j { rows = add_step j.rows own.row }) second
    ∙ (ap (λ (j : JournalView). record j { rows = add_step (record j.rows { writes = j.rows.writes ++ own.writes; devices = j.rows.devices ++ own.devices }) own.row }) first
    ∙ ap (λ xs. record old { rows = record { reads = old.rows.reads ++ own.reads; fills = old.rows.fills ++ own.fills; writes = old.rows.writes ++ own.writes; dones = xs; devices = old.rows.devices ++ own.devices; steps = old.rows.steps ++ own.row ∷ [] } })
    (sym (append-nil old.rows.dones) ∙ ap (λ ds. old.rows.dones ++ ds) (sym none)))
