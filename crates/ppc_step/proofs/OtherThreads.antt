-- The threads whose step it is not.
use Rattle.std.proofs.Common.{◌≡◌, ◌≢◌, ℕ, ◌<◌, Bool, true, false, if◌then◌else◌, List, length, slice_set, refl}
use Rattle.std.proofs.lemmas.List.{get_or-map, get_or-set_other, length-set}
use Rattle.journal_core.specs.declared.rows.StepEnd.{StepEnd}
use Rattle.journal_core.specs.declared.rows.StepEnd.TheVariants.{Ran, Took, Stopped}
use Rattle.thread_regs.specs.declared.registers.Thread.{Thread}
use Rattle.thread_regs.specs.Registers.{reset, thread_at}
use Rattle.interrupts.specs.Clock.{ticked, all_ticked}
use Rattle.ppc_step.specs.Steps.{ticked_with, is_done, threads_undone}
use Rattle.ppc_step.specs.Rule.{next_state, behind_step}
use Rattle.ppc_step.specs.Soundness.{KeepsAllButTheClock, StepsKeepOtherThreads}

-- a tick reaches each thread
pub thread_at-ticked : (ts : List Thread) (i : ℕ) → i < length ts → thread_at (all_ticked ts) i ≡ ticked (thread_at ts i)
unfolding all_ticked
thread_at-ticked ts i below = get_or-map ticked ts i (reset 0 0) (reset 0 0) below

other_ticked : (ts : List Thread) (n i : ℕ) (u : Thread) → i < length ts → i ≢ n → KeepsAllButTheClock (thread_at ts i) (thread_at (ticked_with n u ts) i)
other_ticked ts n i u below apart =
    rw (thread_at-ticked (slice_set ts n u) i (rw (length-set ts n u) below), get_or-set_other ts n i u (reset 0 0) apart) refl

other_undone : (n : ℕ) (ts : List Thread) (i : ℕ) (end : StepEnd) → i < length ts → i ≢ n → KeepsAllButTheClock (thread_at ts i) (thread_at (threads_undone n ts end) i)
other_undone n ts i Ran below apart = refl
other_undone n ts i (Took cause) below apart = other_ticked ts n i _ below apart
other_undone n ts i (Stopped name value) below apart = refl

other_by : (done : Bool) (n : ℕ) (after : Thread) (ts : List Thread) (i : ℕ) (end : StepEnd) → i < length ts → i ≢ n →
    KeepsAllButTheClock (thread_at ts i) (thread_at (if done then ticked_with n after ts else threads_undone n ts end) i)
other_by true n after ts i end below apart = other_ticked ts n i after below apart
other_by false n after ts i end below apart = other_undone n ts i end below apart

pub steps_keep_others : StepsKeepOtherThreads
unfolding next_state
steps_keep_others s own i below apart = other_by (is_done own.row.end own.devices) own.row.thread (behind_step s own) s.threads i own.row.end below apart
