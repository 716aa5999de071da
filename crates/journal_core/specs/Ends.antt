-- How runs end, and how a journal grows.
use Rattle.std.specs.Prelude.{ℕ, ◌≡◌, ◌-◌, nat_le, Bool, true, false, List, length, slice_get, Option, Some, None}
use Rattle.journal_core.specs.Rows.{Rows, JournalView}
use Rattle.journal_core.specs.Room.{room_of}
use Rattle.journal_core.specs.Steps.{StepRows, with_own}
use Rattle.journal_core.specs.Runs.{state_after}
use Rattle.journal_core.specs.declared.rows.RowKind.{RowKind}
use Rattle.journal_core.specs.declared.rows.StopName.{StopName}
use Rattle.journal_core.specs.declared.rows.StepRow.{StepRow}
use Rattle.journal_core.specs.declared.rows.StepEnd.{StepEnd}
use Rattle.journal_core.specs.declared.rows.StepEnd.TheVariants as step_ends
use Rattle.journal_core.specs.declared.rows.Ended.{Ended}
use Rattle.journal_core.specs.declared.rows.Ended.TheVariants.{AllRun, ScheduleEnd, Stopped, JournalFull}

-- the stop that a step ended in, if it is one
abbrev pub stop_in : StepEnd → Option (StopName × ℕ)
stop_in step_ends.Ran = None
stop_in (step_ends.Took cause) = None
stop_in (step_ends.Stopped name value) = Some (name, value)

abbrev pub stop_at : Option StepRow → Option (StopName × ℕ)
stop_at (Some row) = stop_in row.end
stop_at None = None

-- the stop that the last step is, if it is one
unfoldable pub stop_of : List StepRow → Option (StopName × ℕ)
stop_of rows = stop_at (slice_get rows (length rows - 1))

-- the last step is no stop
abbrev pub IsRunning : List StepRow → Type 0
IsRunning rows = stop_of rows ≡ None

-- how a run ends, in this order: its last step is this stop, it has all its steps, it has no turn, this list is short
abbrev pub end_by : Option (StopName × ℕ) → Bool → Option ℕ → Option (RowKind × ℕ) → Option Ended
end_by (Some stop) all next full = Some (Stopped stop.0 stop.1)
end_by None true next full = Some AllRun
end_by None false None full = Some ScheduleEnd
end_by None false (Some t) (Some full) = Some (JournalFull full.0 full.1)
end_by None false (Some t) None = None

-- how a run of n steps ends whose next turn is this, in a journal for so many steps with these rows, if it ends here
unfoldable pub ended_of : ℕ → Option ℕ → ℕ → Rows → Option Ended
ended_of n next reserved j = end_by (stop_of j.steps) (nat_le n (length j.steps)) next (room_of reserved j)

abbrev pub row_thread : Option StepRow → Option ℕ
row_thread (Some row) = Some row.thread
row_thread None = None

-- whose step it was
unfoldable pub thread_of_row : List StepRow → ℕ → Option ℕ
thread_of_row rows k = row_thread (slice_get rows k)

-- rows of whole steps came at the end, and nothing else changed
pub record Grows (old new : JournalView) : Type 0 where
  pub more : List StepRows
  pub rows : new ≡ record old { rows = state_after with_own old.rows more }
