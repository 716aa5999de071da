-- Tasks of one process that are equal over some bits walk alike down to the table that leaves them.
use Rattle.std.proofs.Common.{◌≡◌, ℕ, ◌+◌, ◌-◌, ◌*◌, ◌%◌, ◌^◌, ◌≤◌, List, [], ◌∷◌, Bool, true, false, Option, Some, None, arith, ap, sym, ◌∙◌, refl, subst}
use Rattle.std.specs.Prelude.{nat_lt, nat_le, ◌==◌}
use Rattle.journal_core.specs.declared.rows.ReadRow.{ReadRow}
use Rattle.journal_core.specs.declared.asks.AccessKind.TheVariants.{Load}
use Rattle.journal_core.specs.declared.asks.Denial.{Denial}
use Rattle.journal_core.specs.declared.walks.PartResult.TheVariants.{Leaf, Fault as PartFault, Stop as PartStop}
use Rattle.journal_core.specs.declared.walks.Node.{Node}
use Rattle.journal_core.specs.declared.walks.Goal.{Goal}
use Rattle.journal_core.specs.declared.walks.Goal.TheVariants.{ForEntry, ForTable, ForResult, ForGuest}
use Rattle.journal_core.specs.declared.walks.PartStage.{PartStage}
use Rattle.journal_core.specs.declared.walks.PartStage.TheVariants.{Entry, Tree, Ended}
use Rattle.journal_core.specs.declared.walks.Stage.{Stage}
use Rattle.journal_core.specs.declared.walks.Stage.TheVariants.{SecondWord, PartEntry, PartTable, ProcessEntry, ProcessTable, Over}
use Rattle.journal_core.specs.Asks.{bits}
use Rattle.journal_core.specs.PartitionWalk.{SameOver, root_bits, node_of, at_node, part_start, after_entry, after_tree, real_in, entry_at}
use Rattle.journal_core.specs.Walk.{Task, granted, arrived, inside, enter, at_table, at_result, process_granted, in_process, after_second, after_process_entry, next, stage_after, partition_rights, process_rights, access_for}
use Rattle.journal_core.specs.Following.{IsRead, Follows}
use Rattle.walk_laws.proofs.SamePage.{same_more}
use Rattle.walk_laws.proofs.PartServes.{Leaves, tree_leaves, node_leaves, beyond}

-- two tasks of one process whose addresses are equal over so many bits, and which may read tables alike
pub record SameTables (m : ℕ) (k0 k : Task) : Type 0 where
  pub lpid : k0.lpid ≡ k.lpid
  pub pid : k0.pid ≡ k.pid
  pub ptcr : k0.ask.ptcr ≡ k.ask.ptcr
  pub address : SameOver m k0.address k.address
  pub tables : (att eaa : ℕ) (r c : Bool) → k0.deny (partition_rights att eaa r c) Load ≡ k.deny (partition_rights att eaa r c) Load

-- the walk is on its way to a table's entry of the process that leaves so many bits, or reads it
abbrev pub OpenGoal : ℕ → Goal → Type 0
OpenGoal m ForEntry = Unit {0}
OpenGoal m (ForTable n) = m ≤ n.left - n.size
OpenGoal m ForResult = ⊥
OpenGoal m ForGuest = ⊥

abbrev pub Open : ℕ → Stage → Type 0
Open m (SecondWord at) = Unit {0}
Open m (PartEntry goal gra at) = OpenGoal m goal
Open m (PartTable goal gra n) = OpenGoal m goal
Open m (ProcessEntry at) = Unit {0}
Open m (ProcessTable n at) = m ≤ n.left - n.size
Open m (Over out) = ⊥

abbrev OpenTable : ℕ → PartStage → Type 0
OpenTable m (Entry at) = ⊥
OpenTable m (Tree n) = m ≤ n.left - n.size
OpenTable m (Ended out) = ⊥

open_arrived : (m : ℕ) (goal : Goal) (at : ℕ) → Open m (arrived goal at) → OpenGoal m goal
open_arrived m ForEntry at h = tt
open_arrived m (ForTable n) at h = h
open_arrived m ForResult at h = absurd h
open_arrived m ForGuest at h = absurd h

open_granted : (m : ℕ) (k : Task) (goal : Goal) (gra at : ℕ) (d : Option Denial) → Open m (granted k.ask goal gra at d) → OpenGoal m goal
open_granted m k goal gra at None h = open_arrived m goal at h
open_granted m k goal gra at (Some denial) h = absurd h

open_inside : (m : ℕ) (k : Task) (goal : Goal) (gra : ℕ) (p : PartStage) → Open m (inside k goal gra p) → OpenGoal m goal
unfolding inside
open_inside m k goal gra (Entry at) h = h
open_inside m k goal gra (Tree n) h = h
open_inside m k goal gra (Ended (Leaf page low att eaa r c)) h = open_granted m k goal gra (real_in page low gra) (k.deny (partition_rights att eaa r c) (access_for k.ask goal)) h
open_inside m k goal gra (Ended (PartFault kind)) h = absurd h
open_inside m k goal gra (Ended (PartStop name value)) h = absurd h

open_at_table : (m : ℕ) (k : Task) (n : Node) (b : Bool) → (k.lpid == 0) ≡ b → Open m (at_table k n) → m ≤ n.left - n.size
open_at_table m k n true e h = rw e at h
open_at_table m k n false e h = open_inside m k (ForTable n) (entry_at k.address n) (part_start k.ask.ptcr k.lpid) (rw e at h)

shut_result : (m : ℕ) (k : Task) (gra : ℕ) (b : Bool) → (k.lpid == 0) ≡ b → Open m (at_result k gra) → ⊥
shut_result m k gra true e h = rw e at h
shut_result m k gra false e h = open_inside m k ForResult gra (part_start k.ask.ptcr k.lpid) (rw e at h)

shut_granted : (m : ℕ) (k : Task) (gra : ℕ) (d : Option Denial) → Open m (process_granted k gra d) → ⊥
shut_granted m k gra None h = shut_result m k gra (k.lpid == 0) refl h
shut_granted m k gra (Some denial) h = h

open_process : (m : ℕ) (k : Task) (p : PartStage) → Open m (in_process k p) → OpenTable m p
unfolding in_process
open_process m k (Entry at) h = absurd h
open_process m k (Tree n) h = open_at_table m k n (k.lpid == 0) refl h
open_process m k (Ended (Leaf page low att eaa r c)) h = absurd (shut_granted m k (real_in page low k.address) (k.deny (process_rights att eaa r c) k.ask.access) h)
open_process m k (Ended (PartFault kind)) h = absurd h
open_process m k (Ended (PartStop name value)) h = absurd h

leaves_table : (m : ℕ) (p : PartStage) → OpenTable m p → Leaves m p
leaves_table m (Entry at) h = absurd h
leaves_table m (Tree n) h = omega (arith, h)
leaves_table m (Ended out) h = absurd h

-- if a walk is on its way after a value, it was before
open_before : (m : ℕ) (k : Task) (s : Stage) (v : ℕ) → Open m (next k s v) → Open m s
open_before m k (SecondWord at) v h = tt
open_before m k (PartEntry goal gra at) v h = open_inside m k goal gra (after_entry k.lpid gra v) h
open_before m k (PartTable goal gra n) v h = open_inside m k goal gra (after_tree (n.left - n.size) n.level v) h
open_before m k (ProcessEntry at) v h = tt
open_before m k (ProcessTable n at) v h =
    (let table : OpenTable m (after_tree (n.left - n.size) n.level v) = open_process m k (after_tree (n.left - n.size) n.level v) h in tree_leaves m (n.left - n.size) n.level v (leaves_table m (after_tree (n.left - n.size) n.level v) table))
open_before m k (Over out) v h = absurd h

open_first : (m : ℕ) (k : Task) (s : Stage) (rs : List ReadRow) → Open m (stage_after k s rs) → Open m s
open_first m k s [] h = h
open_first m k s (r ∷ rs) h = open_before m k s r.value (open_first m k (next k s r.value) rs h)

same_granted : (m : ℕ) (k0 k : Task) (goal : Goal) (gra at : ℕ) (d : Option Denial) → Open m (granted k0.ask goal gra at d) → granted k.ask goal gra at d ≡ granted k0.ask goal gra at d
same_granted m k0 k goal gra at None h = refl
same_granted m k0 k goal gra at (Some denial) h = absurd h

same_access : (m : ℕ) (k0 k : Task) (goal : Goal) (att eaa : ℕ) (r c : Bool) → SameTables m k0 k → OpenGoal m goal → k.deny (partition_rights att eaa r c) (access_for k.ask goal) ≡ k0.deny (partition_rights att eaa r c) (access_for k0.ask goal)
same_access m k0 k ForEntry att eaa r c same h = sym (same.tables att eaa r c)
same_access m k0 k (ForTable n) att eaa r c same h = sym (same.tables att eaa r c)
same_access m k0 k ForResult att eaa r c same h = absurd h
same_access m k0 k ForGuest att eaa r c same h = absurd h

same_inside : (m : ℕ) (k0 k : Task) (goal : Goal) (gra : ℕ) (p : PartStage) → SameTables m k0 k → Open m (inside k0 goal gra p) → inside k goal gra p ≡ inside k0 goal gra p
unfolding inside
same_inside m k0 k goal gra (Entry at) same h = refl
same_inside m k0 k goal gra (Tree n) same h = refl
same_inside m k0 k goal gra (Ended (Leaf page low att eaa r c)) same h =
    let d : Option Denial = k0.deny (partition_rights att eaa r c) (access_for k0.ask goal) in
    ap (granted k.ask goal gra (real_in page low gra)) (same_access m k0 k goal att eaa r c same (open_granted m k0 goal gra (real_in page low gra) d h)) ∙ same_granted m k0 k goal gra (real_in page low gra) d h
same_inside m k0 k goal gra (Ended (PartFault kind)) same h = absurd h
same_inside m k0 k goal gra (Ended (PartStop name value)) same h = absurd h

same_enter : (m : ℕ) (k0 k : Task) (goal : Goal) (gra : ℕ) → SameTables m k0 k → Open m (enter k0 goal gra) → enter k goal gra ≡ enter k0 goal gra
same_enter m k0 k goal gra same h =
    let start : part_start k.ask.ptcr k.lpid ≡ part_start k0.ask.ptcr k0.lpid = ap (λ x. part_start x k.lpid) (sym same.ptcr) ∙ ap (λ x. part_start k0.ask.ptcr x) (sym same.lpid) in
    ap (inside k goal gra) start ∙ same_inside m k0 k goal gra (part_start k0.ask.ptcr k0.lpid) same h

pub same_entry_at : (m : ℕ) (n : Node) (a b : ℕ) → m ≤ n.left - n.size → SameOver m a b → entry_at b n ≡ entry_at a n
same_entry_at m n a b left same = ap (λ q. n.base + 8 * (q % 2 ^ n.size)) (sym (same_more m (n.left - n.size) a b left same))

same_table : (m : ℕ) (k0 k : Task) (n : Node) (b : Bool) → (k0.lpid == 0) ≡ b → SameTables m k0 k → m ≤ n.left - n.size → Open m (at_table k0 n) → at_table k n ≡ at_table k0 n
same_table m k0 k n true e same left h =
    let place : entry_at k.address n ≡ entry_at k0.address n = same_entry_at m n k0.address k.address left same.address in
    rw (sym (ap (λ l. l == 0) same.lpid) ∙ e, e) (ap (ProcessTable n) place)
same_table m k0 k n false e same left h =
    let place : entry_at k.address n ≡ entry_at k0.address n = same_entry_at m n k0.address k.address left same.address in
    let entered : enter k (ForTable n) (entry_at k0.address n) ≡ enter k0 (ForTable n) (entry_at k0.address n) = same_enter m k0 k (ForTable n) (entry_at k0.address n) same (rw e at h) in
    rw (sym (ap (λ l. l == 0) same.lpid) ∙ e, e) (ap (enter k (ForTable n)) place ∙ entered)

same_process : (m : ℕ) (k0 k : Task) (p : PartStage) → SameTables m k0 k → OpenTable m p → Open m (in_process k0 p) → in_process k p ≡ in_process k0 p
unfolding in_process
same_process m k0 k (Entry at) same table h = absurd table
same_process m k0 k (Tree n) same table h = same_table m k0 k n (k0.lpid == 0) refl same table h
same_process m k0 k (Ended out) same table h = absurd table

same_second : (m : ℕ) (k0 k : Task) (v : ℕ) (b : Bool) → nat_lt (16 * k0.pid) (2 ^ (12 + bits v 59 63)) ≡ b → SameTables m k0 k → Open m (after_second k0 v) → after_second k v ≡ after_second k0 v
unfolding after_second
same_second m k0 k v true e same h =
    let place : bits v 4 51 * 2 ^ 12 + 16 * k.pid ≡ bits v 4 51 * 2 ^ 12 + 16 * k0.pid = ap (λ x. bits v 4 51 * 2 ^ 12 + 16 * x) (sym same.pid) in
    let entered : enter k ForEntry (bits v 4 51 * 2 ^ 12 + 16 * k0.pid) ≡ enter k0 ForEntry (bits v 4 51 * 2 ^ 12 + 16 * k0.pid) = same_enter m k0 k ForEntry (bits v 4 51 * 2 ^ 12 + 16 * k0.pid) same (rw e at h) in
    rw (ap (λ x. nat_lt (16 * x) (2 ^ (12 + bits v 59 63))) (sym same.pid) ∙ e, e) (ap (enter k ForEntry) place ∙ entered)
same_second m k0 k v false e same h = absurd (rw e at h)

-- a value of a process's entry
record EntryGoes (m : ℕ) (k0 k : Task) (v : ℕ) : Type 0 where
  left : m ≤ root_bits v
  same : after_process_entry k v ≡ after_process_entry k0 v

same_process_entry : (m : ℕ) (k0 k : Task) (v : ℕ) (b c : Bool) → nat_lt 52 (root_bits v) ≡ b → nat_le (2 ^ root_bits v) k0.address ≡ c → SameTables m k0 k → Open m (after_process_entry k0 v) → EntryGoes m k0 k v
unfolding after_process_entry
same_process_entry m k0 k v true c e f same h = absurd (rw e at h)
same_process_entry m k0 k v false true e f same h = absurd (rw (e, f) at h)
same_process_entry m k0 k v false false e f same h =
    let p : PartStage = at_node (node_of v (root_bits v) 1) in
    let goes : Open m (in_process k0 p) = rw (e, f) at h in
    let table : OpenTable m p = open_process m k0 p goes in
    let left : m ≤ root_bits v = node_leaves m (node_of v (root_bits v) 1) (leaves_table m p table) in
    let over : SameOver (root_bits v) k0.address k.address = same_more m (root_bits v) k0.address k.address left same.address in
    record { left = left; same = rw (e, f, sym (beyond (root_bits v) k0.address k.address over) ∙ f) (same_process m k0 k p same table goes) }

-- where a walk is on its way after a value, both stand alike
same_next : (m : ℕ) (k0 k : Task) (s : Stage) (v : ℕ) → SameTables m k0 k → Open m (next k0 s v) → next k s v ≡ next k0 s v
same_next m k0 k (SecondWord at) v same h = same_second m k0 k v (nat_lt (16 * k0.pid) (2 ^ (12 + bits v 59 63))) refl same h
same_next m k0 k (PartEntry goal gra at) v same h =
    ap (λ l. inside k goal gra (after_entry l gra v)) (sym same.lpid) ∙ same_inside m k0 k goal gra (after_entry k0.lpid gra v) same h
same_next m k0 k (PartTable goal gra n) v same h = same_inside m k0 k goal gra (after_tree (n.left - n.size) n.level v) same h
same_next m k0 k (ProcessEntry at) v same h = (let g : EntryGoes m k0 k v = same_process_entry m k0 k v (nat_lt 52 (root_bits v)) (nat_le (2 ^ root_bits v) k0.address) refl refl same h in g.same)
same_next m k0 k (ProcessTable n at) v same h = same_process m k0 k (after_tree (n.left - n.size) n.level v) same (open_process m k0 (after_tree (n.left - n.size) n.level v) h) h
same_next m k0 k (Over out) v same h = absurd h

-- a reading of a process's entry leaves so many bits
abbrev pub LeavesHere : ℕ → Stage → ReadRow → Type 0
LeavesHere m (SecondWord at) r = Unit {0}
LeavesHere m (PartEntry goal gra at) r = Unit {0}
LeavesHere m (PartTable goal gra n) r = Unit {0}
LeavesHere m (ProcessEntry at) r = m ≤ r.left
LeavesHere m (ProcessTable n at) r = Unit {0}
LeavesHere m (Over out) r = Unit {0}

leaves_here : (m : ℕ) (k0 k : Task) (s : Stage) (r : ReadRow) → SameTables m k0 k → IsRead k0 s r → Open m (next k0 s r.value) → LeavesHere m s r
leaves_here m k0 k (SecondWord at) r same a h = tt
leaves_here m k0 k (PartEntry goal gra at) r same a h = tt
leaves_here m k0 k (PartTable goal gra n) r same a h = tt
leaves_here m k0 k (ProcessEntry at) r same a h =
    (let g : EntryGoes m k0 k r.value = same_process_entry m k0 k r.value (nat_lt 52 (root_bits r.value)) (nat_le (2 ^ root_bits r.value) k0.address) refl refl same h in subst (λ x. m ≤ x) (sym a.same_left) g.left)
leaves_here m k0 k (ProcessTable n at) r same a h = tt
leaves_here m k0 k (Over out) r same a h = tt

-- a reading of the one is a reading of the other
pub same_reads : (m : ℕ) (k0 k : Task) (s : Stage) (r : ReadRow) → SameTables m k0 k → Open m s → LeavesHere m s r → IsRead k0 s r → IsRead k s r
same_reads m k0 k (SecondWord at) r same open_here left a = record { same_role = a.same_role; same_lpid = a.same_lpid ∙ same.lpid; same_pid = a.same_pid ∙ same.pid; same_level = a.same_level; same_left = a.same_left; same_at = a.same_at }
same_reads m k0 k (PartEntry goal gra at) r same open_here left a = record { same_role = a.same_role; same_lpid = a.same_lpid ∙ same.lpid; same_pid = a.same_pid; same_sought = a.same_sought; same_level = a.same_level; same_left = a.same_left; same_at = a.same_at }
same_reads m k0 k (PartTable goal gra n) r same open_here left a = record { same_role = a.same_role; same_lpid = a.same_lpid ∙ same.lpid; same_pid = a.same_pid; same_sought = a.same_sought; same_level = a.same_level; same_left = a.same_left; same_at = a.same_at }
same_reads m k0 k (ProcessEntry at) r same open_here left a =
    record { same_role = a.same_role; same_lpid = a.same_lpid ∙ same.lpid; same_pid = a.same_pid ∙ same.pid; same_sought = a.same_sought ∙ same_more m r.left k0.address k.address left same.address; same_level = a.same_level; same_left = a.same_left; same_at = a.same_at }
same_reads m k0 k (ProcessTable n at) r same open_here left a =
    record { same_role = a.same_role; same_lpid = a.same_lpid ∙ same.lpid; same_pid = a.same_pid ∙ same.pid; same_sought = a.same_sought ∙ same_more m r.left k0.address k.address (subst (λ x. m ≤ x) (sym a.same_left) open_here) same.address; same_level = a.same_level; same_left = a.same_left; same_at = a.same_at }
same_reads m k0 k (Over out) r same open_here left a = absurd a

pub record FollowsAlike (k0 k : Task) (s : Stage) (rs : List ReadRow) : Type 0 where
  pub follows : Follows k s rs
  pub after : stage_after k s rs ≡ stage_after k0 s rs

pub follows_same : (m : ℕ) (k0 k : Task) (s : Stage) (rs : List ReadRow) → SameTables m k0 k → Follows k0 s rs → Open m (stage_after k0 s rs) → FollowsAlike k0 k s rs
follows_same m k0 k s [] same h last = record { follows = tt; after = refl }
follows_same m k0 k s (r ∷ rs) same h last =
    let later : Open m (next k0 s r.value) = open_first m k0 (next k0 s r.value) rs last in
    let goes : next k s r.value ≡ next k0 s r.value = same_next m k0 k s r.value same later in
    let rest : FollowsAlike k0 k (next k0 s r.value) rs = follows_same m k0 k (next k0 s r.value) rs same h.1 last in
    record {
      follows = (same_reads m k0 k s r same (open_before m k0 s r.value later) (leaves_here m k0 k s r same h.0 later) h.0, subst (λ x. Follows k x rs) (sym goes) rest.follows);
      after = ap (λ x. stage_after k x rs) goes ∙ rest.after;
    }
