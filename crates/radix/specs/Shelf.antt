-- Real files as a caller sees them, and what one call of `read_file` counts.
use Rattle.std.specs.Prelude.{ℕ, Option, Result, Ok, Err}
use Rattle.outer_io.specs.Counts.{one_fault_more}
use Rattle.outer_io.specs.Outside.{Asked}
use Rattle.outer_io.specs.declared.files.FileFault.{FileFault}
use Rattle.outer_io.specs.declared.files.FileFault.TheVariants as faults

pub record RealShelf : Type 0 where
  pub faults : ℕ
  pub last : Option Asked

-- the faults after a call with this result: one more where the outside failed
abbrev pub faults_after : {X : Type 0} → ℕ → Result X FileFault → ℕ
faults_after count (Ok _) = count
faults_after count (Err faults.Failed) = one_fault_more count
faults_after count (Err faults.TooLong) = count
faults_after count (Err faults.Memory) = count
