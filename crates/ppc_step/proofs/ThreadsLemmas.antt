-- The threads behind a step.
use Rattle.std.proofs.Common.{◌≡◌, ℕ, zero, suc, ◌<◌, List, [], ◌∷◌, length, slice_get, slice_set, slice_index_or, Some, Bool, true, false, arith, ap, sym, ◌∙◌, refl}
use Rattle.std.proofs.lemmas.List.{length-set, length-map}
use Rattle.std.specs.List.{AllByRecursion}
use Rattle.journal_core.specs.declared.rows.DeviceRow.{DeviceRow}
use Rattle.journal_core.specs.declared.rows.DoneRow.{DoneRow}
use Rattle.journal_core.specs.declared.rows.Signal.{Signal}
use Rattle.journal_core.specs.declared.rows.Signal.TheVariants.{Quiet, Byte, Stop, Eject}
use Rattle.journal_core.specs.declared.rows.StepEnd.{StepEnd}
use Rattle.journal_core.specs.declared.rows.StepEnd.TheVariants.{Ran, Took, Stopped}
use Rattle.journal_core.specs.Rows.{Rows}
use Rattle.journal_core.specs.Steps.{InOrder, IsDated}
use Rattle.journal_core.specs.Translating.{IsQuiet}
use Rattle.form_outcomes.specs.Outcomes.{Outcome, Goes, Takes, Stops, end_of}
use Rattle.thread_regs.specs.declared.registers.Thread.{Thread}
use Rattle.thread_regs.specs.Registers.{reset, thread_at}
use Rattle.interrupts.specs.Clock.{ticked, all_ticked}
use Rattle.interrupts.specs.Delivery.{delivered}
use Rattle.storage_ops.specs.Effects.{After, behind, AreAsked, end_with, end_by}
use Rattle.ppc_step.specs.States.{ptcrs_of}
use Rattle.ppc_step.specs.Steps.{threads_after, is_done}
use Rattle.ppc_step.specs.Performing.{is_asked, threads_by}

set_back : {A : Type 0} (xs : List A) (i : ℕ) (d : A) → i < length xs → slice_set xs i (slice_index_or xs i d) ≡ xs
set_back [] i d below = absurd (omega (arith, below))
set_back (x ∷ xs) zero d below = refl
set_back (x ∷ xs) (suc i) d below = ap (λ ys. x ∷ ys) (set_back xs i d (omega (arith, below)))

-- registers that are as they were
same_threads : (threads : List Thread) (number : ℕ) (t1 : Thread) → number < length threads → t1 ≡ thread_at threads number → slice_set threads number t1 ≡ threads
same_threads threads number t1 inside is = ap (λ t. slice_set threads number t) is ∙ set_back threads number (reset 0 0) inside

taken : (number : ℕ) (threads : List Thread) (t1 : Thread) (devices : List DeviceRow) (end : StepEnd) (asked : Bool) (e : StepEnd) → number < length threads → asked ≡ is_asked devices → devices ≡ [] → end ≡ end_with devices e → t1 ≡ thread_at threads number → is_done e [] ≡ false →
    threads_by number (slice_set threads number t1) end asked ≡ threads_after number t1 threads end devices
taken number threads t1 devices end asked Ran inside is none ended thread undone = absurd (never undone)
  where
    never : true ≡ false → ⊥
    never e = cc
taken number threads t1 devices end asked (Took cause) inside is none ended thread undone =
    let end_is : end ≡ Took cause = ended ∙ ap (λ ds. end_with ds (Took cause)) none in
    rw (end_is, same_threads threads number t1 inside thread) refl
taken number threads t1 devices end asked (Stopped name value) inside is none ended thread undone =
    let end_is : end ≡ Stopped name value = ended ∙ ap (λ ds. end_with ds (Stopped name value)) none in
    let asked_is : asked ≡ false = is ∙ ap is_asked none in
    rw (end_is, none, asked_is) (same_threads threads number t1 inside thread)

gone : (number : ℕ) (threads : List Thread) (t1 : Thread) (devices : List DeviceRow) (end : StepEnd) (asked : Bool) → asked ≡ is_asked devices → end ≡ end_with devices Ran →
    threads_by number (slice_set threads number t1) end asked ≡ threads_after number t1 threads end devices
gone number threads t1 [] end asked is ended = rw ended refl
gone number threads t1 (row ∷ rows) end asked is ended = rw (ended, is) (by row.signal)
  where
    by : (signal : Signal) → threads_by number (slice_set threads number t1) (end_by signal row.slot Ran) true ≡ threads_after number t1 threads (end_by signal row.slot Ran) (row ∷ rows)
    by Quiet = refl
    by (Byte b) = refl
    by Stop = refl
    by (Eject n) = refl

-- the threads that the code leaves are those of the rule
pub threads_are : (o : Outcome After) (number n : ℕ) (threads : List Thread) (t1 : Thread) (devices : List DeviceRow) (end : StepEnd) (asked : Bool) → number < length threads → asked ≡ is_asked devices → end ≡ end_with devices (end_of o) → t1 ≡ (behind o (thread_at threads number)).thread → AreAsked n (behind o (thread_at threads number)).asked devices →
    threads_by number (slice_set threads number t1) end asked ≡ threads_after number t1 threads end devices
threads_are (Goes a) number n threads t1 devices end asked inside is ended thread asks = gone number threads t1 devices end asked is ended
threads_are (Takes cause) number n threads t1 devices end asked inside is ended thread asks = taken number threads t1 devices end asked (Took cause) inside is asks ended thread refl
threads_are (Stops name value) number n threads t1 devices end asked inside is ended thread asks = taken number threads t1 devices end asked (Stopped name value) inside is asks ended thread refl

ticked_length : (ts : List Thread) → length (all_ticked ts) ≡ length ts
unfolding all_ticked
ticked_length ts = length-map ts ticked

-- there are as many threads as before
pub length_by : (number : ℕ) (threads : List Thread) (t1 : Thread) (end : StepEnd) (asked : Bool) → length (threads_by number (slice_set threads number t1) end asked) ≡ length threads
length_by number threads t1 Ran asked = ticked_length (slice_set threads number t1) ∙ length-set threads number t1
length_by number threads t1 (Took cause) asked =
    ticked_length (slice_set (slice_set threads number t1) number (delivered cause (thread_at (slice_set threads number t1) number))) ∙ (length-set (slice_set threads number t1) number (delivered cause (thread_at (slice_set threads number t1) number)) ∙ length-set threads number t1)
length_by number threads t1 (Stopped name value) true = ticked_length (slice_set threads number t1) ∙ length-set threads number t1
length_by number threads t1 (Stopped name value) false = length-set threads number t1

-- the value of a thread's register among all
pub ptcr_at : (threads : List Thread) (i : ℕ) → i < length threads → slice_get (ptcrs_of threads) i ≡ Some (thread_at threads i).ptcr
ptcr_at [] i below = absurd (omega (arith, below))
ptcr_at (t ∷ ts) zero below = refl
ptcr_at (t ∷ ts) (suc i) below = ptcr_at ts i (omega (arith, below))

pub ptcrs_length : (threads threads' : List Thread) → length threads' ≡ length threads → length (ptcrs_of threads') ≡ length (ptcrs_of threads)
ptcrs_length threads threads' same = length-map threads' (λ (t : Thread). t.ptcr) ∙ (same ∙ sym (length-map threads (λ (t : Thread). t.ptcr)))

below_high : (low high : ℕ) (rows : List DoneRow) → InOrder (λ (d : DoneRow). d.step) low high rows → AllByRecursion (λ (d : DoneRow). d.step < high) rows
unfolding InOrder
below_high low high [] order = tt
below_high low high (d ∷ ds) order = (order.1, below_high d.step high ds order.2)

-- a dated journal has no row of a completion of the step that is being made
pub dated_is_quiet : (rows : Rows) → IsDated rows → IsQuiet rows
dated_is_quiet rows dated = below_high 0 (length rows.steps) rows.dones dated.dones
