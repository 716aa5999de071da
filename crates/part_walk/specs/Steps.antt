-- Which word a partition's walk reads where it stands, and the reading that it makes there.
use Rattle.std.specs.Prelude.{ℕ, ◌-◌, Option, Some, None}
use Rattle.journal_core.specs.declared.rows.Role.TheVariants.{Pate}
use Rattle.journal_core.specs.declared.rows.ReadRow.{ReadRow}
use Rattle.journal_core.specs.declared.walks.PartStage.{PartStage}
use Rattle.journal_core.specs.declared.walks.PartStage.TheVariants.{Entry, Tree, Ended}
use Rattle.journal_core.specs.PartitionWalk.{root_bits, part_role, entry_at}
use Rattle.journal_core.specs.WalkPlaces.{row_of}

-- the place of the word that is read next, where the walk is not over
abbrev pub part_word : ℕ → PartStage → Option ℕ
part_word gra (Entry at) = Some at
part_word gra (Tree n) = Some (entry_at gra n)
part_word gra (Ended out) = None

-- the reading that a walk makes where it stands
abbrev pub part_row : ℕ → ℕ → PartStage → ℕ → ℕ → ReadRow
part_row lpid gra (Entry at) moment v = row_of Pate lpid 0 gra 0 (root_bits v) at v moment
part_row lpid gra (Tree n) moment v = row_of (part_role v) lpid 0 gra n.level (n.left - n.size) (entry_at gra n) v moment
part_row lpid gra (Ended out) moment v = row_of Pate 0 0 0 0 0 0 v moment

-- a walk that stands here is not over
abbrev pub IsPartOpen : PartStage → Type 0
IsPartOpen (Entry at) = Unit {0}
IsPartOpen (Tree n) = Unit {0}
IsPartOpen (Ended out) = ⊥
