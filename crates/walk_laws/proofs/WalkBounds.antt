-- How many readings a walk can still make.
use Rattle.std.proofs.Common.{◌≡◌, ℕ, ◌<◌, ◌≤◌, ◌+◌, ◌-◌, ◌*◌, ◌^◌, List, [], ◌∷◌, length, arith, refl, Bool, true, false, Option, Some, None}
use Rattle.std.specs.Prelude.{nat_le, nat_lt, if◌then◌else◌, ◌&&◌, ◌==◌}
use Rattle.std.proofs.lemmas.Bool.Decides.{nat_tests}
use Rattle.journal_core.specs.declared.rows.ReadRow.{ReadRow}
use Rattle.journal_core.specs.declared.asks.Ask.{Ask}
use Rattle.journal_core.specs.declared.asks.AccessKind.{AccessKind}
use Rattle.journal_core.specs.declared.asks.Rights.{Rights}
use Rattle.journal_core.specs.declared.asks.Denial.{Denial}
use Rattle.journal_core.specs.declared.asks.Place.{Place}
use Rattle.journal_core.specs.declared.asks.Place.TheVariants.{Real, GuestReal, Space, Segment}
use Rattle.journal_core.specs.declared.walks.Node.{Node}
use Rattle.journal_core.specs.declared.walks.Goal.{Goal}
use Rattle.journal_core.specs.declared.walks.Goal.TheVariants.{ForEntry, ForTable, ForResult, ForGuest}
use Rattle.journal_core.specs.declared.walks.PartResult.TheVariants.{Leaf, Fault, Stop}
use Rattle.journal_core.specs.declared.walks.PartStage.{PartStage}
use Rattle.journal_core.specs.declared.walks.PartStage.TheVariants.{Entry, Tree, Ended}
use Rattle.journal_core.specs.declared.walks.Stage.{Stage}
use Rattle.journal_core.specs.declared.walks.Stage.TheVariants.{SecondWord, PartEntry, PartTable, ProcessEntry, ProcessTable, Over}
use Rattle.journal_core.specs.Asks.{bits}
use Rattle.journal_core.specs.Places.{place_of}
use Rattle.journal_core.specs.PartitionWalk.{at_node, part_start, after_entry, after_tree, part_next, root_bits, node_of, is_leaf, has_entry, real_in, entry_at, IsPartRead, PartFollows}
use Rattle.journal_core.specs.Walk.{Task, inside, granted, arrived, enter, at_table, at_result, process_granted, in_process, after_second, after_process_entry, next, process_start, task_of, start_of, start_at, partition_rights, process_rights, access_for}
use Rattle.journal_core.specs.Following.{IsRead, Follows}
pub use Rattle.journal_core.specs.WalkLeft.{part_left, left_for, reads_left}

-- a choice by a test has what both sides have
pub cond_case : {X : Type 0} (P : X → Type 0) (b : Bool) (x y : X) → (b ≡ true → P x) → (b ≡ false → P y) → P (if b then x else y)
cond_case P true x y here there = here refl
cond_case P false x y here there = there refl

at_node-left : (n : Node) → part_left (at_node n) ≤ 1 + (4 - n.level)
unfolding at_node
at_node-left n = cond_case (λ s. part_left s ≤ 1 + (4 - n.level)) (nat_le 5 n.size && (nat_le n.size 16 && nat_le (n.size + 12) n.left)) _ _ (λ is. omega arith) (λ isnt. omega arith)

pub part_start-left : (ptcr lpid : ℕ) → part_left (part_start ptcr lpid) ≤ 5
unfolding part_start
part_start-left ptcr lpid = cond_case (λ s. part_left s ≤ 5) (has_entry ptcr lpid) _ _ (λ is. omega arith) (λ isnt. omega arith)

after_entry-left : (lpid gra v : ℕ) → part_left (after_entry lpid gra v) ≤ 4
unfolding after_entry
after_entry-left lpid gra v =
    let P : PartStage → Type 0 = λ s. part_left s ≤ 4 in
    cond_case P (bits v 0 0 == 0) _ _ (λ is. omega arith)
    (λ h. cond_case P (nat_lt 52 (root_bits v)) _ _ (λ is. omega arith)
    (λ h. cond_case P (nat_le (2 ^ root_bits v) gra) _ _ (λ is. omega arith)
    (λ h. at_node-left (node_of v (root_bits v) 1))))

after_tree-left : (rest level v : ℕ) → part_left (after_tree rest level v) ≤ 4 - level
unfolding after_tree
after_tree-left rest level v =
    let P : PartStage → Type 0 = λ s. part_left s ≤ 4 - level in
    cond_case P (bits v 0 0 == 0) _ _ (λ is. omega arith)
    (λ h. cond_case P (is_leaf v) _ _ (λ is. omega arith)
    (λ h. cond_case P (nat_le 4 level) _ _ (λ is. omega arith)
    (λ more.
    let deep : level < 4 = grind (arith, nat_tests) in
    let h : part_left (at_node (node_of v rest (level + 1))) ≤ 1 + (4 - (level + 1)) = at_node-left (node_of v rest (level + 1)) in
    omega arith)))

pub part_next-left : (lpid gra : ℕ) (s : PartStage) (r : ReadRow) → IsPartRead lpid gra s r → part_left (part_next lpid gra s r.value) < part_left s
part_next-left lpid gra (Entry at) r h = omega (arith, after_entry-left lpid gra r.value)
part_next-left lpid gra (Tree n) r h = omega (arith, after_tree-left (n.left - n.size) n.level r.value)
part_next-left lpid gra (Ended out) r h = absurd h

pub part-few-from : (lpid gra : ℕ) (s : PartStage) (rs : List ReadRow) → PartFollows lpid gra s rs → length rs ≤ part_left s
part-few-from lpid gra s [] h = omega arith
part-few-from lpid gra s (r ∷ rs) h = omega (arith, part-few-from lpid gra (part_next lpid gra s r.value) rs h.1, part_next-left lpid gra s r h.0)

-- a walk of a partition's tree has at most 5 readings
pub part-few : (ptcr lpid gra : ℕ) (rs : List ReadRow) → PartFollows lpid gra (part_start ptcr lpid) rs → length rs ≤ 5
part-few ptcr lpid gra rs h = omega (arith, part-few-from lpid gra (part_start ptcr lpid) rs h, part_start-left ptcr lpid)

arrived-left : (goal : Goal) (at : ℕ) → reads_left (arrived goal at) ≤ left_for goal
arrived-left ForEntry at = omega arith
arrived-left (ForTable n) at = omega arith
arrived-left ForResult at = omega arith
arrived-left ForGuest at = omega arith

granted-left : (ask : Ask) (goal : Goal) (gra at : ℕ) (d : Option Denial) → reads_left (granted ask goal gra at d) ≤ left_for goal
granted-left ask goal gra at None = arrived-left goal at
granted-left ask goal gra at (Some d) = omega arith

inside-left : (k : Task) (goal : Goal) (gra : ℕ) (s : PartStage) → reads_left (inside k goal gra s) ≤ part_left s + left_for goal
unfolding inside
inside-left k goal gra (Entry at) = omega arith
inside-left k goal gra (Tree n) = omega arith
inside-left k goal gra (Ended (Leaf page low att eaa r c)) = omega (arith, granted-left k.ask goal gra (real_in page low gra) (k.deny (partition_rights att eaa r c) (access_for k.ask goal)))
inside-left k goal gra (Ended (Fault kind)) = omega arith
inside-left k goal gra (Ended (Stop name value)) = omega arith

enter-left : (k : Task) (goal : Goal) (gra : ℕ) → reads_left (enter k goal gra) ≤ 5 + left_for goal
enter-left k goal gra = omega (arith, inside-left k goal gra (part_start k.ask.ptcr k.lpid), part_start-left k.ask.ptcr k.lpid)

-- how many readings a walk can still make where its process's walk stands
process_left : PartStage → ℕ
process_left (Entry at) = 0
process_left (Tree n) = 11 + 6 * (4 - n.level)
process_left (Ended out) = 5

at_result-left : (k : Task) (gra : ℕ) → reads_left (at_result k gra) ≤ 5
at_result-left k gra = cond_case (λ s. reads_left s ≤ 5) (k.lpid == 0) _ _ (λ is. omega arith) (λ isnt. omega (arith, enter-left k ForResult gra))

process_granted-left : (k : Task) (gra : ℕ) (d : Option Denial) → reads_left (process_granted k gra d) ≤ 5
process_granted-left k gra None = at_result-left k gra
process_granted-left k gra (Some d) = omega arith

at_table-left : (k : Task) (n : Node) → reads_left (at_table k n) ≤ 11 + 6 * (4 - n.level)
at_table-left k n = cond_case (λ s. reads_left s ≤ 11 + 6 * (4 - n.level)) (k.lpid == 0) _ _ (λ is. omega arith) (λ isnt. omega (arith, enter-left k (ForTable n) (entry_at k.address n)))

in_process-left : (k : Task) (s : PartStage) → reads_left (in_process k s) ≤ process_left s
unfolding in_process process_left
in_process-left k (Entry at) = omega arith
in_process-left k (Tree n) = at_table-left k n
in_process-left k (Ended (Leaf page low att eaa r c)) = process_granted-left k (real_in page low k.address) (k.deny (process_rights att eaa r c) k.ask.access)
in_process-left k (Ended (Fault kind)) = omega arith
in_process-left k (Ended (Stop name value)) = omega arith

at_node-process : (n : Node) → process_left (at_node n) ≤ 11 + 6 * (4 - n.level)
unfolding at_node process_left
at_node-process n = cond_case (λ s. process_left s ≤ 11 + 6 * (4 - n.level)) (nat_le 5 n.size && (nat_le n.size 16 && nat_le (n.size + 12) n.left)) _ _ (λ is. omega arith) (λ isnt. omega arith)

after_tree-process : (rest level v : ℕ) → process_left (after_tree rest level v) ≤ 5 + 6 * (4 - level)
unfolding after_tree process_left
after_tree-process rest level v =
    let P : PartStage → Type 0 = λ s. process_left s ≤ 5 + 6 * (4 - level) in
    cond_case P (bits v 0 0 == 0) _ _ (λ is. omega arith)
    (λ h. cond_case P (is_leaf v) _ _ (λ is. omega arith)
    (λ h. cond_case P (nat_le 4 level) _ _ (λ is. omega arith)
    (λ more.
    let deep : level < 4 = grind (arith, nat_tests) in
    let h : process_left (at_node (node_of v rest (level + 1))) ≤ 11 + 6 * (4 - (level + 1)) = at_node-process (node_of v rest (level + 1)) in
    omega arith)))

after_second-left : (k : Task) (v : ℕ) → reads_left (after_second k v) ≤ 35
unfolding after_second
after_second-left k v = cond_case (λ s. reads_left s ≤ 35) (nat_lt (16 * k.pid) (2 ^ (12 + bits v 59 63))) _ _ (λ is. enter-left k ForEntry (bits v 4 51 * 2 ^ 12 + 16 * k.pid)) (λ isnt. omega arith)

after_process_entry-left : (k : Task) (v : ℕ) → reads_left (after_process_entry k v) ≤ 29
unfolding after_process_entry
after_process_entry-left k v =
    let P : Stage → Type 0 = λ s. reads_left s ≤ 29 in
    cond_case P (nat_lt 52 (root_bits v)) _ _ (λ is. omega arith)
    (λ h. cond_case P (nat_le (2 ^ root_bits v) k.address) _ _ (λ is. omega arith)
    (λ h. omega (arith, in_process-left k (at_node (node_of v (root_bits v) 1)), at_node-process (node_of v (root_bits v) 1))))

-- each reading leaves fewer
pub next-left : (k : Task) (s : Stage) (r : ReadRow) → IsRead k s r → reads_left (next k s r.value) < reads_left s
next-left k (SecondWord at) r h = omega (arith, after_second-left k r.value)
next-left k (PartEntry goal gra at) r h = omega (arith, inside-left k goal gra (after_entry k.lpid gra r.value), after_entry-left k.lpid gra r.value)
next-left k (PartTable goal gra n) r h = omega (arith, inside-left k goal gra (after_tree (n.left - n.size) n.level r.value), after_tree-left (n.left - n.size) n.level r.value)
next-left k (ProcessEntry at) r h = omega (arith, after_process_entry-left k r.value)
next-left k (ProcessTable n at) r h = omega (arith, in_process-left k (after_tree (n.left - n.size) n.level r.value), after_tree-process (n.left - n.size) n.level r.value)
next-left k (Over o) r h = absurd h

pub follows-few : (k : Task) (s : Stage) (rs : List ReadRow) → Follows k s rs → length rs ≤ reads_left s
follows-few k s [] h = omega arith
follows-few k s (r ∷ rs) h = omega (arith, follows-few k (next k s r.value) rs h.1, next-left k s r h.0)

pub process_start-left : (k : Task) → reads_left (process_start k) ≤ 36
unfolding process_start
process_start-left k = cond_case (λ s. reads_left s ≤ 36) (has_entry k.ask.ptcr k.lpid) _ _ (λ is. omega arith) (λ isnt. omega arith)

pub start_at-left : (k : Task) (p : Place) → reads_left (start_at k p) ≤ 36
start_at-left k (Real a) = omega arith
start_at-left k (GuestReal lpid a) = omega (arith, enter-left k ForGuest a)
start_at-left k (Space lpid pid a) = process_start-left k
start_at-left k Segment = omega arith

-- a walk of an ask has at most 36 readings
pub walk-few : (deny : Rights → AccessKind → Option Denial) (ask : Ask) (rs : List ReadRow) → Follows (task_of deny ask) (start_of deny ask) rs → length rs ≤ 36
walk-few deny ask rs h = omega (arith, follows-few (task_of deny ask) (start_of deny ask) rs h, start_at-left (task_of deny ask) (place_of ask))
