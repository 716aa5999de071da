-- A sink in memory, and what a put does to it.
use Rattle.std.specs.Prelude.{ℕ, ◌+◌, ◌++◌, ◌==◌, List, [], ◌∷◌, length, take, nat_lt, Bool, true, false, Option, Some, None, if◌then◌else◌}
use Rattle.outer_io.specs.declared.planned.PlannedFault.{PlannedFault}
use Rattle.outer_io.specs.Counts.{next_call, one_fault_more}
use Rattle.outer_io.specs.Last.{last_some}

-- how many bytes a plan adds at a call, where it is for that call
abbrev pub added_at : ℕ → PlannedFault → Option ℕ
added_at call plan = if plan.call == call then Some plan.added else None

-- how many bytes of its piece a put adds that is to fail: the last plan for it holds
abbrev pub plan_for : List PlannedFault → ℕ → Option ℕ
plan_for planned call = last_some (added_at call) planned

-- the bytes so far, how many there may be, the plans in the order in which they came, and how many puts and faults there were
pub record MemorySink : Type 0 where
  pub bytes : List ℕ
  pub room : ℕ
  pub planned : List PlannedFault
  pub calls : ℕ
  pub faults : ℕ

abbrev pub opened : ℕ → MemorySink
opened room = record { bytes = []; room = room; planned = []; calls = 0; faults = 0 }

-- one more put that is to fail
abbrev pub with_plan : MemorySink → ℕ → ℕ → MemorySink
with_plan s call added = record s { planned = s.planned ++ record { call = call; added = added } ∷ [] }

-- what a put did: the bytes that it adds, and whether it fails
pub record Taken : Type 0 where
  pub front : List ℕ
  pub fails : Bool

-- a put by its plan: a front of the piece and a fault, or the whole piece
abbrev pub taken_by : Option ℕ → List ℕ → Taken
taken_by None piece = record { front = piece; fails = false }
taken_by (Some added) piece = record { front = take added piece; fails = true }

-- the next put: a piece that does not fit adds nothing and fails, whatever is planned
abbrev pub taken : MemorySink → List ℕ → Taken
taken s piece = if nat_lt s.room (length s.bytes + length piece) then record { front = []; fails = true } else taken_by (plan_for s.planned (next_call s.calls)) piece

abbrev pub put_fails : MemorySink → List ℕ → Bool
put_fails s piece = (taken s piece).fails

abbrev pub put_after : MemorySink → List ℕ → MemorySink
put_after s piece = record s {
  bytes = s.bytes ++ (taken s piece).front;
  calls = next_call s.calls;
  faults = if put_fails s piece then one_fault_more s.faults else s.faults;
}
