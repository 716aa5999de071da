-- Files in memory, and what a call does to them.
use Rattle.std.specs.Prelude.{ℕ, ◌++◌, ◌==◌, List, [], ◌∷◌, length, nat_lt, Option, Some, None, Result, Ok, Err, if◌then◌else◌}
use Rattle.std.specs.List.{list_any}
use Rattle.outer_io.specs.declared.files.FileFault.{FileFault}
use Rattle.outer_io.specs.declared.files.FileFault.TheVariants as faults
use Rattle.outer_io.specs.declared.files.Answer.{Answer}
use Rattle.outer_io.specs.declared.files.Answer.TheVariants as answers
use Rattle.outer_io.specs.Counts.{next_call, one_fault_more}
use Rattle.outer_io.specs.Outside.{Asked}
use Rattle.outer_io.specs.Shelf.{Named, lookup}

-- the files in the order in which they came, the numbers of the calls that are to fail, how many calls and faults there were, and the last call that did not run out of memory
pub record MemoryFiles : Type 0 where
  pub files : List Named
  pub planned : List ℕ
  pub calls : ℕ
  pub faults : ℕ
  pub last : Option Asked

abbrev pub no_files : MemoryFiles
no_files = record { files = []; planned = []; calls = 0; faults = 0; last = None }

-- one file more, after the others
abbrev pub with_file : MemoryFiles → List ℕ → List ℕ → MemoryFiles
with_file m name bytes = record m { files = m.files ++ record { name = name; bytes = bytes } ∷ [] }

-- one more call that is to fail
abbrev pub with_planned : MemoryFiles → ℕ → MemoryFiles
with_planned m call = record m { planned = m.planned ++ call ∷ [] }

-- what the call of this number finds under a name: nothing where it is to fail
abbrev pub found_at : List Named → List ℕ → ℕ → List ℕ → Option (List ℕ)
found_at files planned call name = if list_any (λ number. number == call) planned then None else lookup files name

-- the answer where nothing was found, or these bytes
abbrev pub answer_for : ℕ → Option (List ℕ) → Answer
answer_for max None = answers.Failed
answer_for max (Some bytes) = if nat_lt max (length bytes) then answers.TooLong else answers.Read

-- how the next call is answered, where memory lasts
abbrev pub answer_to : MemoryFiles → List ℕ → ℕ → Answer
answer_to m name max = answer_for max (found_at m.files m.planned (next_call m.calls) name)

-- how a call was answered; nothing where memory ran out
abbrev pub answer_of : {X : Type 0} → Result X FileFault → Option Answer
answer_of (Ok _) = Some answers.Read
answer_of (Err faults.Failed) = Some answers.Failed
answer_of (Err faults.TooLong) = Some answers.TooLong
answer_of (Err faults.Memory) = None

-- the faults after a call that was answered so
abbrev pub faults_after : ℕ → Answer → ℕ
faults_after count answers.Read = count
faults_after count answers.Failed = one_fault_more count
faults_after count answers.TooLong = count

-- what a call leaves: it is counted in any case, also where memory ran out
abbrev pub after_call : MemoryFiles → List ℕ → ℕ → Option Answer → MemoryFiles
after_call m name max None = record m { calls = next_call m.calls }
after_call m name max (Some answer) = record m {
  calls = next_call m.calls;
  faults = faults_after m.faults answer;
  last = Some (record { name = name; max = max; answer = answer });
}
