-- A sink that gathers bytes before it writes them.
use Rattle.std.specs.Prelude.{◌≡◌, ◌≤◌, ℕ, List, Option, Result, Ok, Err, length, take}
use Rattle.std.specs.Io.KnownBytes.{Appends, append_known}
use Rattle.std.specs.declared.io.ErrorKind.{ErrorKind}
use Rattle.outer_io.specs.Counts.{one_fault_more}

-- what the writer holds, where that is known, the bytes that still wait, the faults, and why the last write failed
pub record Outgoing : Type 0 where
  pub written : Option (List ℕ)
  pub waiting : List ℕ
  pub faults : ℕ
  pub broken : Option ErrorKind

-- all that was put, where it is known
abbrev pub put_so_far : Outgoing → Option (List ℕ)
put_so_far s = append_known s.written s.waiting

-- a front of the bytes was appended
pub record AppendsFront (old new : Option (List ℕ)) (bytes : List ℕ) : Type 0 where
  pub count : ℕ
  pub within : count ≤ length bytes
  pub front : Appends old new (take count bytes)

-- the faults before and after a call with this result: a fault is counted
abbrev pub CountsFault : {X E : Type 0} → ℕ → ℕ → Result X E → Type 0
CountsFault before after (Ok _) = after ≡ before
CountsFault before after (Err _) = (after ≡ one_fault_more before) × (before ≤ after)
