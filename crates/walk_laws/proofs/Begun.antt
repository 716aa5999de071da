-- A partition's walk whose entry is read next has just begun.
use Rattle.std.proofs.Common.{◌≡◌, ℕ, ◌+◌, ◌-◌, ◌*◌, ◌^◌, refl, Option, Some, None}
use Rattle.std.specs.Prelude.{nat_le, nat_lt, ◌&&◌, ◌==◌}
use Rattle.journal_core.specs.Asks.{bits}
use Rattle.journal_core.specs.PartitionWalk.{at_node, part_start, after_entry, after_tree, root_bits, node_of, is_leaf, has_entry, real_in, entry_at}
use Rattle.journal_core.specs.Walk.{Task, inside, granted, arrived, enter, at_table, at_result, process_granted, in_process, after_second, after_process_entry, next, process_start, partition_rights, process_rights, access_for}
use Rattle.walk_laws.proofs.WalkBounds.{cond_case}
use Rattle.journal_core.specs.declared.walks.Node.{Node}
use Rattle.journal_core.specs.declared.walks.Goal.{Goal}
use Rattle.journal_core.specs.declared.walks.Goal.TheVariants.{ForEntry, ForTable, ForResult, ForGuest}
use Rattle.journal_core.specs.declared.asks.Denial.{Denial}
use Rattle.journal_core.specs.declared.walks.PartResult.TheVariants.{Leaf, Fault, Stop}
use Rattle.journal_core.specs.declared.walks.PartStage.{PartStage}
use Rattle.journal_core.specs.declared.walks.PartStage.TheVariants.{Entry, Tree, Ended}
use Rattle.journal_core.specs.declared.walks.Stage.{Stage}
use Rattle.journal_core.specs.declared.walks.Stage.TheVariants.{SecondWord, PartEntry, PartTable, ProcessEntry, ProcessTable, Over}
use Rattle.journal_core.specs.Takes.{IsBegun}

-- a place that is no entry, or the one where a walk of a partition's tree begins
abbrev IsStart : Task → PartStage → Type 0
IsStart k (Entry at) = part_start k.ask.ptcr k.lpid ≡ Entry at
IsStart k (Tree n) = Unit {0}
IsStart k (Ended o) = Unit {0}

start-is : (k : Task) (s : PartStage) → part_start k.ask.ptcr k.lpid ≡ s → IsStart k s
start-is k (Entry at) e = e
start-is k (Tree n) e = tt
start-is k (Ended o) e = tt

at_node-start : (k : Task) (n : Node) → IsStart k (at_node n)
unfolding at_node
at_node-start k n = cond_case (λ s. IsStart k s) (nat_le 5 n.size && (nat_le n.size 16 && nat_le (n.size + 12) n.left)) _ _ (λ is. tt) (λ isnt. tt)

after_entry-start : (k : Task) (lpid gra v : ℕ) → IsStart k (after_entry lpid gra v)
unfolding after_entry
after_entry-start k lpid gra v =
    let P : PartStage → Type 0 = λ s. IsStart k s in
    cond_case P (bits v 0 0 == 0) _ _ (λ is. tt) (λ h. cond_case P (nat_lt 52 (root_bits v)) _ _ (λ is. tt) (λ h. cond_case P (nat_le (2 ^ root_bits v) gra) _ _ (λ is. tt) (λ h. at_node-start k (node_of v (root_bits v) 1))))

after_tree-start : (k : Task) (rest level v : ℕ) → IsStart k (after_tree rest level v)
unfolding after_tree
after_tree-start k rest level v =
    let P : PartStage → Type 0 = λ s. IsStart k s in
    cond_case P (bits v 0 0 == 0) _ _ (λ is. tt) (λ h. cond_case P (is_leaf v) _ _ (λ is. tt) (λ h. cond_case P (nat_le 4 level) _ _ (λ is. tt) (λ h. at_node-start k (node_of v rest (level + 1)))))

arrived-begun : (k : Task) (goal : Goal) (at : ℕ) → IsBegun k (arrived goal at)
arrived-begun k ForEntry at = tt
arrived-begun k (ForTable n) at = tt
arrived-begun k ForResult at = tt
arrived-begun k ForGuest at = tt

granted-begun : (k : Task) (goal : Goal) (gra at : ℕ) (d : Option Denial) → IsBegun k (granted k.ask goal gra at d)
granted-begun k goal gra at None = arrived-begun k goal at
granted-begun k goal gra at (Some d) = tt

inside-begun : (k : Task) (goal : Goal) (gra : ℕ) (s : PartStage) → IsStart k s → IsBegun k (inside k goal gra s)
unfolding inside
inside-begun k goal gra (Entry at) h = h
inside-begun k goal gra (Tree n) h = tt
inside-begun k goal gra (Ended (Leaf page bits att eaa r c)) h = granted-begun k goal gra (real_in page bits gra) (k.deny (partition_rights att eaa r c) (access_for k.ask goal))
inside-begun k goal gra (Ended (Fault kind)) h = tt
inside-begun k goal gra (Ended (Stop name value)) h = tt

pub enter-begun : (k : Task) (goal : Goal) (gra : ℕ) → IsBegun k (enter k goal gra)
enter-begun k goal gra = inside-begun k goal gra (part_start k.ask.ptcr k.lpid) (start-is k (part_start k.ask.ptcr k.lpid) refl)

at_table-begun : (k : Task) (n : Node) → IsBegun k (at_table k n)
at_table-begun k n = cond_case (λ s. IsBegun k s) (k.lpid == 0) _ _ (λ is. tt) (λ isnt. enter-begun k (ForTable n) (entry_at k.address n))

at_result-begun : (k : Task) (gra : ℕ) → IsBegun k (at_result k gra)
at_result-begun k gra = cond_case (λ s. IsBegun k s) (k.lpid == 0) _ _ (λ is. tt) (λ isnt. enter-begun k ForResult gra)

process_granted-begun : (k : Task) (gra : ℕ) (d : Option Denial) → IsBegun k (process_granted k gra d)
process_granted-begun k gra None = at_result-begun k gra
process_granted-begun k gra (Some d) = tt

in_process-begun : (k : Task) (s : PartStage) → IsBegun k (in_process k s)
unfolding in_process
in_process-begun k (Entry at) = tt
in_process-begun k (Tree n) = at_table-begun k n
in_process-begun k (Ended (Leaf page bits att eaa r c)) = process_granted-begun k (real_in page bits k.address) (k.deny (process_rights att eaa r c) k.ask.access)
in_process-begun k (Ended (Fault kind)) = tt
in_process-begun k (Ended (Stop name value)) = tt

after_second-begun : (k : Task) (v : ℕ) → IsBegun k (after_second k v)
unfolding after_second
after_second-begun k v = cond_case (λ s. IsBegun k s) (nat_lt (16 * k.pid) (2 ^ (12 + bits v 59 63))) _ _ (λ is. enter-begun k ForEntry (bits v 4 51 * 2 ^ 12 + 16 * k.pid)) (λ isnt. tt)

after_process_entry-begun : (k : Task) (v : ℕ) → IsBegun k (after_process_entry k v)
unfolding after_process_entry
after_process_entry-begun k v =
    let P : Stage → Type 0 = λ s. IsBegun k s in
    cond_case P (nat_lt 52 (root_bits v)) _ _ (λ is. tt) (λ h. cond_case P (nat_le (2 ^ root_bits v) k.address) _ _ (λ is. tt) (λ h. in_process-begun k (at_node (node_of v (root_bits v) 1))))

pub next-begun : (k : Task) (s : Stage) (v : ℕ) → IsBegun k (next k s v)
next-begun k (SecondWord at) v = after_second-begun k v
next-begun k (PartEntry goal gra at) v = inside-begun k goal gra (after_entry k.lpid gra v) (after_entry-start k k.lpid gra v)
next-begun k (PartTable goal gra n) v = inside-begun k goal gra (after_tree (n.left - n.size) n.level v) (after_tree-start k (n.left - n.size) n.level v)
next-begun k (ProcessEntry at) v = after_process_entry-begun k v
next-begun k (ProcessTable n at) v = in_process-begun k (after_tree (n.left - n.size) n.level v)
next-begun k (Over o) v = tt

pub process_start-begun : (k : Task) → IsBegun k (process_start k)
unfolding process_start
process_start-begun k = cond_case (λ s. IsBegun k s) (has_entry k.ask.ptcr k.lpid) _ _ (λ is. tt) (λ isnt. tt)
