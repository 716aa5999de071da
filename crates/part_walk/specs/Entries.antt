-- What the words of tables, taken apart, mean to a walk.
use Rattle.std.specs.Prelude.{ℕ, ◌+◌, Bool, Option, Some, None, nat_le, if◌then◌else◌}
use Rattle.journal_core.specs.declared.rows.Role.{Role}
use Rattle.journal_core.specs.declared.walks.FaultKind.TheVariants.{Missing, Unsupported}
use Rattle.journal_core.specs.declared.walks.Node.{Node}
use Rattle.journal_core.specs.declared.walks.PartResult.{PartResult}
use Rattle.journal_core.specs.declared.walks.PartResult.TheVariants.{Leaf as PartLeaf, Fault}
use Rattle.journal_core.specs.declared.walks.PartStage.{PartStage}
use Rattle.journal_core.specs.declared.walks.PartStage.TheVariants.{Ended}
use Rattle.journal_core.specs.PartitionWalk.{at_node, has_entry, entry_place, is_page_size}
use Rattle.table_formats.specs.declared.entries.Entry.{Entry}
use Rattle.table_formats.specs.declared.entries.Entry.TheVariants.{Invalid, Directory, Leaf}

-- the place of a partition's entry, if the partition table has one
abbrev pub partition_place : ℕ → ℕ → Option ℕ
partition_place ptcr lpid = if has_entry ptcr lpid then Some (entry_place ptcr lpid) else None

abbrev pub node : ℕ → ℕ → ℕ → ℕ → Node
node base size left level = record { base = base; size = size; left = left; level = level }

-- what a leaf of these fields gives that leaves so many bits
abbrev pub leaf_by : ℕ → ℕ → Bool → Bool → ℕ → ℕ → PartResult
leaf_by rest page r c att eaa = if is_page_size rest then PartLeaf page rest att eaa r c else Fault Unsupported

-- after an entry of a tree at this level that leaves so many bits
abbrev pub after_entry_of_tree : ℕ → ℕ → Entry → PartStage
after_entry_of_tree rest level Invalid = Ended (Fault Missing)
after_entry_of_tree rest level (Leaf page r c att eaa) = Ended (leaf_by rest page r c att eaa)
after_entry_of_tree rest level (Directory base size) = if nat_le 4 level then Ended (Fault Unsupported) else at_node (node base size rest (level + 1))

-- an entry is read as one of two roles: as a leaf, or else as a directory
abbrev pub role_by : Role → Role → Entry → Role
role_by leaf directory Invalid = directory
role_by leaf directory (Leaf page r c att eaa) = leaf
role_by leaf directory (Directory base size) = directory
