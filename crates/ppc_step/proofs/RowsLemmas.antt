-- How a step ends by its outcome, and the readings of a journal with its rows.
use Rattle.std.proofs.Common.{◌≡◌, ℕ, ◌+◌, ◌≤◌, Bool, true, false, List, [], ◌∷◌, ◌++◌, length, Option, refl, sym, ap, ◌∙◌, subst, arith, length-append}
use Rattle.std.specs.List.{AllByRecursion}
use Rattle.journal_core.specs.declared.rows.ReadRow.{ReadRow}
use Rattle.journal_core.specs.declared.rows.WriteRow.{WriteRow}
use Rattle.journal_core.specs.declared.rows.DeviceRow.{DeviceRow}
use Rattle.journal_core.specs.declared.rows.StepEnd.{StepEnd}
use Rattle.journal_core.specs.declared.rows.StepEnd.TheVariants.{Took, Stopped}
use Rattle.journal_core.specs.Rows.{Rows}
use Rattle.journal_core.specs.Past.{past, ram_after, word_in}
use Rattle.journal_core.specs.Steps.{StepRows, InOrder, IsDated, IsOwn, with_own}
use Rattle.journal_core.specs.Following.{IsTrueReading}
use Rattle.journal_core.specs.Translating.{AreTrue}
use Rattle.journal_core.proofs.PastStays.{past-more, past-now}
use Rattle.journal_core.proofs.StepsLemmas.{IsDated-push}
use Rattle.form_outcomes.specs.Outcomes.{Outcome, Goes, Takes, Stops, end_of}
use Rattle.thread_regs.specs.declared.registers.Thread.{Thread}
use Rattle.storage_ops.specs.Effects.{After, behind, AreAsked, end_with}
use Rattle.ppc_step.specs.Rule.{raised, IsCause, IsEffect}
use Rattle.ppc_step.specs.Steps.{is_done}

-- ---- how a step ends

-- where no device was asked the step ends as its outcome does
alone_end : {devices : List DeviceRow} (end raised_end : StepEnd) → devices ≡ [] → end ≡ end_with devices raised_end → end ≡ raised_end
alone_end end raised_end none ended = subst (λ ds. end ≡ end_with ds raised_end) none ended

pub cause_by : (n : ℕ) (outcome : Outcome After) (t : Thread) (devices : List DeviceRow) (end : StepEnd) → AreAsked n (behind outcome t).asked devices → end ≡ end_with devices (end_of outcome) → IsCause (raised outcome) end
cause_by n (Goes a) t devices end asked ended = tt
cause_by n (Takes cause) t devices end asked ended = alone_end end (Took cause) asked ended
cause_by n (Stops name value) t devices end asked ended = alone_end end (Stopped name value) asked ended

pub effect_by : (outcome : Outcome After) (devices : List DeviceRow) (end : StepEnd) → end ≡ end_with devices (end_of outcome) → IsEffect (raised outcome) devices end
effect_by (Goes a) devices end ended = ended
effect_by (Takes cause) devices end ended = tt
effect_by (Stops name value) devices end ended = tt

undone : (end raised_end : StepEnd) (devices : List DeviceRow) → devices ≡ [] → end ≡ end_with devices raised_end → is_done raised_end [] ≡ false → is_done end devices ≡ false
undone end raised_end devices none ended not = ap (λ ds. is_done end ds) none ∙ (ap (λ e. is_done e []) (alone_end end raised_end none ended) ∙ not)

true_not : {b : Bool} → b ≡ false → b ≡ true → ⊥
true_not off on = cc

-- a step that is done whole goes on
pub done_behind : (n : ℕ) (outcome : Outcome After) (t u : Thread) (devices : List DeviceRow) (end : StepEnd) → AreAsked n (behind outcome t).asked devices → end ≡ end_with devices (end_of outcome) →
    ((a : After) → outcome ≡ Goes a → a.thread ≡ u) → is_done end devices ≡ true → (behind outcome t).thread ≡ u
done_behind n (Goes a) t u devices end asked ended goes done = goes a refl
done_behind n (Takes cause) t u devices end asked ended goes done = absurd (true_not (undone end (Took cause) devices asked ended refl) done)
done_behind n (Stops name value) t u devices end asked ended goes done = absurd (true_not (undone end (Stopped name value) devices asked ended refl) done)

-- ---- the readings

-- readings of moments up to a step's number are true by another past that is the same up to there
true_by : (p q : ℕ → ℕ → Option ℕ) (n low : ℕ) (rs : List ReadRow) → ((m at : ℕ) → m ≤ n → q m at ≡ p m at) → InOrder (λ (r : ReadRow). r.moment) low (n + 1) rs → AllByRecursion (IsTrueReading p) rs → AllByRecursion (IsTrueReading q) rs
unfolding InOrder
true_by p q n low [] same order all = tt
true_by p q n low (r ∷ rs) same order all = (same r.moment r.at (omega (arith, order.1)) ∙ all.0, true_by p q n r.moment rs same order.2 all.1)

reads_order : (j : Rows) (own : StepRows) → IsDated j → IsOwn own → own.number ≡ length j.steps → InOrder (λ (r : ReadRow). r.moment) 0 (own.number + 1) (j.reads ++ own.reads)
unfolding with_own
reads_order j own dated is numbered =
    let pushed : IsDated (with_own j own) = IsDated-push j own dated is numbered in
    subst (λ k. InOrder (λ (r : ReadRow). r.moment) 0 k (j.reads ++ own.reads)) (steps j own numbered) pushed.reads
  where
    steps : (j : Rows) (own : StepRows) → own.number ≡ length j.steps → length (j.steps ++ own.row ∷ []) ≡ own.number + 1
    steps j own numbered = (let l : length (j.steps ++ own.row ∷ []) ≡ length j.steps + 1 = length-append j.steps (own.row ∷ []) in omega (arith, l, numbered))

writes_are : (own : StepRows) → IsOwn own → InOrder (λ (w : WriteRow). w.step) own.number (own.number + 1) own.writes
unfolding with_own
writes_are own is = is.writes

-- the readings of a step are true with its writes, which come behind them
pub readings_true : (start : List ℕ) (j : Rows) (own : StepRows) (between : Rows) → IsDated j → IsOwn own → own.number ≡ length j.steps → between.reads ≡ j.reads ++ own.reads →
    AreTrue (past start j.writes) between → AreTrue (past start (with_own j own).writes) (with_own j own)
unfolding with_own
readings_true start j own between dated is numbered reads all =
    true_by (past start j.writes) (past start (j.writes ++ own.writes)) own.number 0 (j.reads ++ own.reads)
    (λ m at below. past-more start m own.number (own.number + 1) j.writes own.writes at below (writes_are own is))
    (reads_order j own dated is numbered) (subst (AllByRecursion (IsTrueReading (past start j.writes))) reads all)

-- the words before a step are those of RAM
pub stands : (start ram : List ℕ) (j : Rows) → IsDated j → ram ≡ ram_after start j.writes → (at : ℕ) → past start j.writes (length j.steps) at ≡ word_in ram at
stands start ram j dated is at = sym (past-now start (length j.steps) j.writes at dated.writes) ∙ ap (λ r. word_in r at) (sym is)
