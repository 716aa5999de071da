-- Where a walk reads next, and the reading that it makes there.
use Rattle.std.specs.Prelude.{ℕ, ◌-◌}
use Rattle.journal_core.specs.declared.rows.Role.{Role}
use Rattle.journal_core.specs.declared.rows.Role.TheVariants.{Pate, Prte}
use Rattle.journal_core.specs.declared.rows.ReadRow.{ReadRow}
use Rattle.journal_core.specs.declared.walks.Stage.{Stage}
use Rattle.journal_core.specs.declared.walks.Stage.TheVariants.{SecondWord, PartEntry, PartTable, ProcessEntry, ProcessTable, Over}
use Rattle.journal_core.specs.PartitionWalk.{root_bits, part_role, entry_at}
use Rattle.journal_core.specs.Walk.{Task}
use Rattle.journal_core.specs.Following.{process_role}

-- where the word stands that is read next
abbrev pub read_at : Stage → ℕ
read_at (SecondWord at) = at
read_at (PartEntry goal gra at) = at
read_at (PartTable goal gra n) = entry_at gra n
read_at (ProcessEntry at) = at
read_at (ProcessTable n at) = at
read_at (Over o) = 0

-- a reading by its parts
abbrev pub row_of : Role → ℕ → ℕ → ℕ → ℕ → ℕ → ℕ → ℕ → ℕ → ReadRow
row_of role lpid pid sought level left at v moment = record { role = role; lpid = lpid; pid = pid; sought = sought; level = level; left = left; at = at; value = v; moment = moment }

-- the reading that a fresh walk makes where it stands
abbrev pub row_at : Task → ℕ → Stage → ℕ → ReadRow
row_at k moment (SecondWord at) v = row_of Pate k.lpid k.pid k.address 0 0 at v moment
row_at k moment (PartEntry goal gra at) v = row_of Pate k.lpid 0 gra 0 (root_bits v) at v moment
row_at k moment (PartTable goal gra n) v = row_of (part_role v) k.lpid 0 gra n.level (n.left - n.size) (entry_at gra n) v moment
row_at k moment (ProcessEntry at) v = row_of Prte k.lpid k.pid k.address 0 (root_bits v) at v moment
row_at k moment (ProcessTable n at) v = row_of (process_role v) k.lpid k.pid k.address n.level (n.left - n.size) at v moment
row_at k moment (Over o) v = row_of Pate 0 0 0 0 0 0 v moment
