-- The walk of a partition's tree, as a relation on a finished list of readings (Power ISA, Book III, radix tree
-- translation).
use Rattle.std.specs.Prelude.{◌≡◌, ℕ, ◌+◌, ◌-◌, ◌*◌, ◌/◌, ◌%◌, ◌^◌, List, [], ◌∷◌, Option, None, Bool, ◌&&◌, ◌||◌, ◌==◌, nat_lt, nat_le, if◌then◌else◌}
use Rattle.journal_core.specs.declared.rows.Role.{Role}
use Rattle.journal_core.specs.declared.rows.Role.TheVariants.{Pate, PartDir, PartLeaf}
use Rattle.journal_core.specs.declared.rows.ReadRow.{ReadRow}
use Rattle.journal_core.specs.declared.rows.StopName.TheVariants.{NoStorage, HashedPartition}
use Rattle.journal_core.specs.declared.walks.FaultKind.TheVariants.{Missing, Unsupported}
use Rattle.journal_core.specs.declared.walks.PartResult.{PartResult}
use Rattle.journal_core.specs.declared.walks.PartResult.TheVariants.{Leaf, Fault, Stop}
use Rattle.journal_core.specs.declared.walks.Node.{Node}
use Rattle.journal_core.specs.declared.walks.PartStage.{PartStage}
use Rattle.journal_core.specs.declared.walks.PartStage.TheVariants.{Entry, Tree, Ended}
use Rattle.journal_core.specs.Asks.{bits, is_one}

-- a table is read only where it indexes 5 to 16 bits and leaves at least 12
unfoldable pub at_node : Node → PartStage
at_node n = if nat_le 5 n.size && (nat_le n.size 16 && nat_le (n.size + 12) n.left) then Tree n else Ended (Fault Unsupported)

-- the partition table, whose size is in PTCR, has an entry for this partition
abbrev pub has_entry : ℕ → ℕ → Bool
has_entry ptcr lpid = nat_lt (16 * lpid) (2 ^ (12 + bits ptcr 59 63))

-- where this entry stands
abbrev pub entry_place : ℕ → ℕ → ℕ
entry_place ptcr lpid = bits ptcr 4 51 * 2 ^ 12 + 16 * lpid

-- where a walk begins: at the partition's entry, if the partition table has one
unfoldable pub part_start : ℕ → ℕ → PartStage
part_start ptcr lpid = if has_entry ptcr lpid then Entry (entry_place ptcr lpid) else Ended (Fault Missing)

-- how many bits of an address a root translates
abbrev pub root_bits : ℕ → ℕ
root_bits v = bits v 1 2 * 8 + bits v 56 58 + 31

-- the table that a root or a directory names
abbrev pub node_of : ℕ → ℕ → ℕ → Node
node_of v left level = record { base = bits v 4 55 * 2 ^ 8; size = bits v 59 63; left = left; level = level }

-- after the first doubleword of a partition's entry
unfoldable pub after_entry : ℕ → ℕ → ℕ → PartStage
after_entry lpid gra v =
    if bits v 0 0 == 0 then Ended (Stop HashedPartition lpid)
    else if nat_lt 52 (root_bits v) then Ended (Fault Unsupported)
    else if nat_le (2 ^ root_bits v) gra then Ended (Fault Missing)
    else at_node (node_of v (root_bits v) 1)

-- a valid entry that is a leaf
abbrev pub is_leaf : ℕ → Bool
is_leaf v = is_one v 0 && is_one v 1

-- pages have 4 KiB, 64 KiB, 2 MiB or 1 GiB
abbrev pub is_page_size : ℕ → Bool
is_page_size rest = rest == 12 || (rest == 16 || (rest == 21 || rest == 30))

-- what a leaf gives that leaves so many bits
abbrev pub leaf_of : ℕ → ℕ → PartResult
leaf_of rest v = if is_page_size rest then Leaf (bits v 7 51 * 2 ^ 12) rest (bits v 58 59) (bits v 60 63) (is_one v 55) (is_one v 56) else Fault Unsupported

-- after a tree's entry at this level that leaves so many bits; a directory at level 4 names no table
unfoldable pub after_tree : ℕ → ℕ → ℕ → PartStage
after_tree rest level v =
    if bits v 0 0 == 0 then Ended (Fault Missing)
    else if is_leaf v then Ended (leaf_of rest v)
    else if nat_le 4 level then Ended (Fault Unsupported)
    else at_node (node_of v rest (level + 1))

-- a page's address with its low bits replaced by those of an address
abbrev pub real_in : ℕ → ℕ → ℕ → ℕ
real_in page low address = page / 2 ^ low * 2 ^ low + address % 2 ^ low

-- the role of a tree's entry: an entry that is not valid is a directory
abbrev pub part_role : ℕ → Role
part_role v = if is_leaf v then PartLeaf else PartDir

-- where a table's entry for an address stands
abbrev pub entry_at : ℕ → Node → ℕ
entry_at address n = n.base + 8 * (address / 2 ^ (n.left - n.size) % 2 ^ n.size)

-- two addresses are equal but for so many low bits
abbrev pub SameOver : ℕ → ℕ → ℕ → Type 0
SameOver left a b = a / 2 ^ left ≡ b / 2 ^ left

-- a reading of a partition's entry
pub record IsEntryRead (lpid gra at : ℕ) (r : ReadRow) : Type 0 where
  pub same_role : r.role ≡ Pate
  pub same_lpid : r.lpid ≡ lpid
  pub same_pid : r.pid ≡ 0
  pub same_sought : SameOver r.left r.sought gra
  pub same_level : r.level ≡ 0
  pub same_left : r.left ≡ root_bits r.value
  pub same_at : r.at ≡ at

-- a reading of an entry of a partition's tree
pub record IsTreeRead (lpid gra : ℕ) (n : Node) (r : ReadRow) : Type 0 where
  pub same_role : r.role ≡ part_role r.value
  pub same_lpid : r.lpid ≡ lpid
  pub same_pid : r.pid ≡ 0
  pub same_sought : SameOver r.left r.sought gra
  pub same_level : r.level ≡ n.level
  pub same_left : r.left ≡ n.left - n.size
  pub same_at : r.at ≡ entry_at gra n

-- a reading that a walk may make where it stands
abbrev pub IsPartRead : ℕ → ℕ → PartStage → ReadRow → Type 0
IsPartRead lpid gra (Entry at) r = IsEntryRead lpid gra at r
IsPartRead lpid gra (Tree n) r = IsTreeRead lpid gra n r
IsPartRead lpid gra (Ended out) r = ⊥

-- where a walk stands after a value
abbrev pub part_next : ℕ → ℕ → PartStage → ℕ → PartStage
part_next lpid gra (Entry at) v = after_entry lpid gra v
part_next lpid gra (Tree n) v = after_tree (n.left - n.size) n.level v
part_next lpid gra (Ended out) v = Ended out

-- where a walk stands after these readings
abbrev pub part_after : ℕ → ℕ → PartStage → List ReadRow → PartStage
part_after lpid gra s [] = s
part_after lpid gra s (r ∷ rs) = part_after lpid gra (part_next lpid gra s r.value) rs

-- each reading is one that the walk may make where it then stands
abbrev pub PartFollows : ℕ → ℕ → PartStage → List ReadRow → Type 0
PartFollows lpid gra s [] = Unit {0}
PartFollows lpid gra s (r ∷ rs) = IsPartRead lpid gra s r × PartFollows lpid gra (part_next lpid gra s r.value) rs

-- the word that is to be read next is not in storage, which stops the machine
abbrev pub IsPartGap : (ℕ → Option ℕ) → ℕ → PartResult → Type 0
IsPartGap word at out = (word at ≡ None) × (out ≡ Stop NoStorage at)

-- a walk that stands here is over with this outcome
abbrev pub PartEndsAt : (ℕ → Option ℕ) → ℕ → PartStage → PartResult → Type 0
PartEndsAt word gra (Entry at) out = IsPartGap word at out
PartEndsAt word gra (Tree n) out = IsPartGap word (entry_at gra n) out
PartEndsAt word gra (Ended o) out = out ≡ o

-- These readings are a finished walk of a guest real address in a partition's tree, with this outcome, over storage whose words
-- are these; of them it matters only which are there.
pub record PartitionWalk (word : ℕ → Option ℕ) (ptcr lpid gra : ℕ) (rs : List ReadRow) (out : PartResult) : Type 0 where
  pub follows : PartFollows lpid gra (part_start ptcr lpid) rs
  pub ends : PartEndsAt word gra (part_after lpid gra (part_start ptcr lpid) rs) out
