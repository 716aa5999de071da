-- What the bytes of a schedule mean, or the place of the first fault.
use Rattle.std.specs.Prelude.{◌≡◌, ℕ, List, [], ◌∷◌, ◌++◌, true, Result, Ok, Err, codes, if◌then◌else◌}
use Rattle.std.specs.Str.{bytes_eq}
use Rattle.sched_text.specs.declared.fault.SchedFault.{SchedFault}
use Rattle.sched_text.specs.declared.fault.SchedFault.TheVariants as faults
use Rattle.sched_text.specs.Plan.{Plan}

abbrev pub end_of_line : List ℕ
end_of_line = 10 ∷ []

-- the one text of a schedule so far: one thread, whose turn it always is
abbrev pub one_thread_text : List ℕ
one_thread_text = codes "threads 1" ++ end_of_line ++ codes "0" ++ end_of_line ++ codes "repeat" ++ end_of_line

-- its plan
abbrev pub one_thread : Plan
one_thread = record { threads = 1; items = (record { thread = 0; count = 1 }) ∷ []; repeats = true }

-- the plan of some bytes, or the place of the first fault
abbrev pub plan_of : List ℕ → Result Plan ℕ
plan_of bytes = if bytes_eq bytes one_thread_text then Ok one_thread else Err 0

-- what a reader answers: the plan of the bytes, or the place of their first fault; memory that ran out says nothing
abbrev pub Gives : List ℕ → Result Plan SchedFault → Type 0
Gives bytes (Ok plan) = plan_of bytes ≡ Ok plan
Gives bytes (Err (faults.Place place)) = plan_of bytes ≡ Err place
Gives bytes (Err faults.Memory) = Unit {0}
