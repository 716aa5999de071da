-- States stay sound.
use Rattle.std.proofs.Common.{◌≡◌, ℕ, ◌<◌, Bool, true, false, if◌then◌else◌, List, [], ◌∷◌, length, slice_set, Option, refl, ◌∙◌, arith}
use Rattle.std.proofs.lemmas.List.{length-set, length-map}
use Rattle.journal_core.specs.declared.rows.StepEnd.{StepEnd}
use Rattle.journal_core.specs.declared.rows.StepEnd.TheVariants.{Ran, Took, Stopped}
use Rattle.journal_core.specs.Rows.{Rows, no_rows}
use Rattle.journal_core.specs.Steps.{StepRows, with_own, steps_of}
use Rattle.journal_core.specs.Runs.{PastStep, EachKeeps, state_after}
use Rattle.ppc_bus.specs.Windows.{Window}
use Rattle.thread_regs.specs.declared.registers.Thread.{Thread}
use Rattle.thread_regs.specs.Registers.{reset, thread_at, all_reset}
use Rattle.thread_regs.specs.Soundness.{IsSoundThread}
use Rattle.thread_regs.proofs.ResetLemmas.{length-reset_from}
use Rattle.thread_regs.proofs.SoundLemmas.{IsSoundThread-reset, thread_at-reset, each-set}
use Rattle.interrupts.specs.Delivery.{delivered}
use Rattle.interrupts.specs.Clock.{ticked, all_ticked}
use Rattle.ppc_step.specs.States.{State, state_of}
use Rattle.ppc_step.specs.Steps.{ticked_with, is_done, threads_undone}
use Rattle.ppc_step.specs.Rule.{KeepsRule, next_state, behind_step}
use Rattle.ppc_step.specs.Soundness.{IsSound, ResetIsSound, StepsStaySound, RunsStaySound}
use Rattle.ppc_step.proofs.FormLemmas.{Keeps, behind_keeps, delivered_keeps, ticked_is_sound}
use Rattle.ppc_step.proofs.OtherThreads.{thread_at-ticked}

-- ---- reset states

pub reset_is_sound : ResetIsSound
unfolding reset
reset_is_sound count entry ram windows some most =
    let long : length (all_reset count entry) ≡ count = length-reset_from 0 count entry in
    record {
      some = rw long some;
      most = rw long most;
      threads = λ i below. rw (thread_at-reset count entry i (rw long at below)) (IsSoundThread-reset i entry);
      clock = λ i below. rw (thread_at-reset count entry i (rw long at below), thread_at-reset count entry 0 some) refl;
    }

-- ---- the states after a step

ticked_length : (ts : List Thread) (n : ℕ) (u : Thread) → length (all_ticked (slice_set ts n u)) ≡ length ts
unfolding all_ticked
ticked_length ts n u = length-map (slice_set ts n u) ticked ∙ length-set ts n u

ticked_sound : (s : State) (bytes : List ℕ) (windows : List (Option Window)) (n : ℕ) (u : Thread) → IsSound s → n < length s.threads → Keeps (thread_at s.threads n) u → IsSound (state_of (ticked_with n u s.threads) bytes windows)
ticked_sound s bytes windows n u is inside keeps =
    let ts = s.threads in
    let set = slice_set ts n u in
    let long : length (all_ticked set) ≡ length ts = ticked_length ts n u in
    let wide : length set ≡ length ts = length-set ts n u in
    let sound : (i : ℕ) → i < length ts → IsSoundThread (thread_at set i) =
    λ i below. each-set IsSoundThread ts n u inside keeps.sound is.threads i below in
    let clock : (i : ℕ) → i < length ts → (thread_at set i).tb ≡ (thread_at ts 0).tb =
    λ i below. each-set (λ t. t.tb ≡ (thread_at ts 0).tb) ts n u inside (keeps.tb ∙ is.clock n inside) is.clock i below in
    let each : (i : ℕ) → i < length ts → thread_at (all_ticked set) i ≡ ticked (thread_at set i) =
    λ i below. thread_at-ticked set i (rw wide below) in
    let first : 0 < length ts = omega (arith, is.some) in
    record {
      some = rw long is.some;
      most = rw long is.most;
      threads = λ i below. rw (each i (rw long at below)) (ticked_is_sound (thread_at set i) (sound i (rw long at below)));
      clock = λ i below. rw (each i (rw long at below), each 0 first, clock i (rw long at below), clock 0 first) refl;
    }

undone_is_sound : (s : State) (bytes : List ℕ) (windows : List (Option Window)) (n : ℕ) (end : StepEnd) → IsSound s → n < length s.threads → IsSound (state_of (threads_undone n s.threads end) bytes windows)
undone_is_sound s bytes windows n Ran is inside = record { some = is.some; most = is.most; threads = is.threads; clock = is.clock }
undone_is_sound s bytes windows n (Took cause) is inside =
    ticked_sound s bytes windows n (delivered cause (thread_at s.threads n)) is inside (delivered_keeps cause (thread_at s.threads n) (is.threads n inside))
undone_is_sound s bytes windows n (Stopped name value) is inside = record { some = is.some; most = is.most; threads = is.threads; clock = is.clock }

after_is_sound : (done : Bool) (s : State) (bytes : List ℕ) (windows : List (Option Window)) (n : ℕ) (after : Thread) (end : StepEnd) → IsSound s → n < length s.threads → Keeps (thread_at s.threads n) after →
    IsSound (state_of (if done then ticked_with n after s.threads else threads_undone n s.threads end) bytes windows)
after_is_sound true s bytes windows n after end is inside keeps = ticked_sound s bytes windows n after is inside keeps
after_is_sound false s bytes windows n after end is inside keeps = undone_is_sound s bytes windows n end is inside

pub steps_stay_sound : StepsStaySound
unfolding next_state
steps_stay_sound start before past s own is keeps =
    let inside = keeps.thread.below in
    after_is_sound (is_done own.row.end own.devices) s _ _ own.row.thread (behind_step s own) own.row.end is inside
    (behind_keeps s own own.row.word (thread_at s.threads own.row.thread) (is.threads own.row.thread inside))

-- ---- runs

each_sound : (start : State) (before : Rows) (past : List (PastStep State)) (s : State) (steps : List StepRows) → IsSound s → EachKeeps (KeepsRule start) next_state before past s steps → IsSound (state_after next_state s steps)
unfolding EachKeeps state_after
each_sound start before past s [] is each = is
each_sound start before past s (own ∷ more) is each =
    each_sound start (with_own before own) (record { state = s; own = own } ∷ past) (next_state s own) more (steps_stay_sound start before past s own is each.0) each.1

pub runs_stay_sound : RunsStaySound
runs_stay_sound start rows now is lawful = rw lawful.run.last (each_sound start no_rows [] start (steps_of rows) is lawful.run.each)
