-- Counts that go up by one, and stay at the greatest number that their type has.
use Rattle.std.specs.Prelude.{ℕ, ◌+◌, ◌-◌, ◌^◌, min}
use Rattle.outer_io.specs.Outside.{greatest}

-- the number of the call after this many calls
abbrev pub next_call : ℕ → ℕ
next_call calls = min (calls + 1) (2 ^ 32 - 1)

abbrev pub one_fault_more : ℕ → ℕ
one_fault_more faults = min (faults + 1) greatest
