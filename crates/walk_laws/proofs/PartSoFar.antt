-- The fills that a finished walk found in a partition's tree: their readings are a walk of that tree, from its entry on.
use Rattle.std.proofs.Common.{◌≡◌, ℕ, ◌+◌, ◌-◌, ◌*◌, ◌^◌, List, [], ◌∷◌, ◌++◌, Bool, true, false, Option, Some, None, ap, sym, ◌∙◌, refl, subst}
use Rattle.std.specs.Prelude.{slice_get, nat_lt, nat_le, ◌==◌, ◌&&◌, if◌then◌else◌}
use Rattle.journal_core.specs.declared.rows.ReadRow.{ReadRow}
use Rattle.journal_core.specs.declared.asks.Denial.{Denial}
use Rattle.journal_core.specs.declared.walks.Node.{Node}
use Rattle.journal_core.specs.declared.walks.Goal.{Goal}
use Rattle.journal_core.specs.declared.walks.Goal.TheVariants.{ForEntry, ForTable, ForResult, ForGuest}
use Rattle.journal_core.specs.declared.walks.PartResult.TheVariants.{Leaf, Fault as PartFault, Stop as PartStop}
use Rattle.journal_core.specs.declared.walks.PartStage.{PartStage}
use Rattle.journal_core.specs.declared.walks.PartStage.TheVariants.{Entry, Tree, Ended}
use Rattle.journal_core.specs.declared.walks.Stage.{Stage}
use Rattle.journal_core.specs.declared.walks.Stage.TheVariants.{SecondWord, PartEntry, PartTable, ProcessEntry, ProcessTable, Over}
use Rattle.journal_core.specs.Asks.{bits}
use Rattle.journal_core.specs.PartitionWalk.{has_entry, root_bits, node_of, at_node, part_start, after_entry, after_tree, is_leaf, entry_at, real_in, IsPartRead, part_next, part_after, PartFollows}
use Rattle.journal_core.specs.Walk.{Task, arrived, granted, inside, enter, at_table, at_result, process_granted, in_process, after_second, after_process_entry, next, partition_rights, process_rights, access_for}
use Rattle.journal_core.specs.Following.{IsRead}
use Rattle.journal_core.specs.Standing.{AreRows}
use Rattle.journal_core.specs.Fills.{begins_part}

-- these numbers name a walk of a partition's tree, which has come so far
pub record HasPart (k : Task) (gra : ℕ) (reads : List ReadRow) (is : List ℕ) (s : PartStage) : Type 0 where
  pub ps : List ReadRow
  pub named : AreRows reads is ps
  pub follows : PartFollows k.lpid gra (part_start k.ask.ptcr k.lpid) ps
  pub leads : part_after k.lpid gra (part_start k.ask.ptcr k.lpid) ps ≡ s

-- what is known of the numbers of the partition's walk that a walk is in
abbrev pub PartSoFar : Task → List ReadRow → List ℕ → Stage → Type 0
PartSoFar k reads part (SecondWord at) = Unit {0}
PartSoFar k reads part (PartEntry goal gra at) = part_start k.ask.ptcr k.lpid ≡ Entry at
PartSoFar k reads part (PartTable goal gra n) = HasPart k gra reads part (Tree n)
PartSoFar k reads part (ProcessEntry at) = Unit {0}
PartSoFar k reads part (ProcessTable n at) = Unit {0}
PartSoFar k reads part (Over out) = Unit {0}

arrived_so_far : (k : Task) (reads : List ReadRow) (part : List ℕ) (goal : Goal) (at : ℕ) → PartSoFar k reads part (arrived goal at)
arrived_so_far k reads part ForEntry at = tt
arrived_so_far k reads part (ForTable n) at = tt
arrived_so_far k reads part ForResult at = tt
arrived_so_far k reads part ForGuest at = tt

granted_so_far : (k : Task) (reads : List ReadRow) (part : List ℕ) (goal : Goal) (gra at : ℕ) (d : Option Denial) → PartSoFar k reads part (granted k.ask goal gra at d)
granted_so_far k reads part goal gra at None = arrived_so_far k reads part goal at
granted_so_far k reads part goal gra at (Some denial) = tt

pub inside_so_far : (k : Task) (reads : List ReadRow) (part : List ℕ) (goal : Goal) (gra : ℕ) (s : PartStage) → ((at : ℕ) → s ≡ Entry at → ⊥) → HasPart k gra reads part s → PartSoFar k reads part (inside k goal gra s)
unfolding inside
inside_so_far k reads part goal gra (Entry at) never h = absurd (never at refl)
inside_so_far k reads part goal gra (Tree n) never h = h
inside_so_far k reads part goal gra (Ended (Leaf page low att eaa r c)) never h = granted_so_far k reads part goal gra (real_in page low gra) (k.deny (partition_rights att eaa r c) (access_for k.ask goal))
inside_so_far k reads part goal gra (Ended (PartFault kind)) never h = tt
inside_so_far k reads part goal gra (Ended (PartStop name value)) never h = tt

pub entered_so_far : (k : Task) (reads : List ReadRow) (part : List ℕ) (goal : Goal) (gra : ℕ) (b : Bool) → has_entry k.ask.ptcr k.lpid ≡ b → PartSoFar k reads part (enter k goal gra)
unfolding inside part_start
entered_so_far k reads part goal gra true e = rw e (rw e refl)
entered_so_far k reads part goal gra false e = rw e tt

result_so_far : (k : Task) (reads : List ReadRow) (part : List ℕ) (gra : ℕ) (b : Bool) → (k.lpid == 0) ≡ b → PartSoFar k reads part (at_result k gra)
result_so_far k reads part gra true e = rw e tt
result_so_far k reads part gra false e = rw e (entered_so_far k reads part ForResult gra (has_entry k.ask.ptcr k.lpid) refl)

leaf_so_far : (k : Task) (reads : List ReadRow) (part : List ℕ) (gra : ℕ) (d : Option Denial) → PartSoFar k reads part (process_granted k gra d)
leaf_so_far k reads part gra None = result_so_far k reads part gra (k.lpid == 0) refl
leaf_so_far k reads part gra (Some denial) = tt

table_so_far : (k : Task) (reads : List ReadRow) (part : List ℕ) (n : Node) (b : Bool) → (k.lpid == 0) ≡ b → PartSoFar k reads part (at_table k n)
table_so_far k reads part n true e = rw e tt
table_so_far k reads part n false e = rw e (entered_so_far k reads part (ForTable n) (entry_at k.address n) (has_entry k.ask.ptcr k.lpid) refl)

process_so_far : (k : Task) (reads : List ReadRow) (part : List ℕ) (s : PartStage) → PartSoFar k reads part (in_process k s)
unfolding in_process
process_so_far k reads part (Entry at) = tt
process_so_far k reads part (Tree n) = table_so_far k reads part n (k.lpid == 0) refl
process_so_far k reads part (Ended (Leaf page low att eaa r c)) = leaf_so_far k reads part (real_in page low k.address) (k.deny (process_rights att eaa r c) k.ask.access)
process_so_far k reads part (Ended (PartFault kind)) = tt
process_so_far k reads part (Ended (PartStop name value)) = tt

-- the numbers of the partition's walk after one more reading
abbrev pub part_with : List ℕ → ℕ → Bool → List ℕ
part_with part i begins = (if begins then [] else part) ++ i ∷ []

node_no_entry : (n : Node) (at : ℕ) (b : Bool) → (nat_le 5 n.size && (nat_le n.size 16 && nat_le (n.size + 12) n.left)) ≡ b → at_node n ≡ Entry at → ⊥
unfolding at_node
node_no_entry n at true e h = (let h2 : Tree n ≡ Entry at = rw e at h in cc)
node_no_entry n at false e h = (let h2 : Ended (PartFault _) ≡ Entry at = rw e at h in cc)

if_no_entry : (b : Bool) (x y : PartStage) (at : ℕ) → (x ≡ Entry at → ⊥) → (y ≡ Entry at → ⊥) → (if b then x else y) ≡ Entry at → ⊥
if_no_entry true x y at one two h = one h
if_no_entry false x y at one two h = two h

ended_no_entry : (o : _) (at : ℕ) → Ended o ≡ Entry at → ⊥
ended_no_entry o at h = cc

pub entry_no_entry : (lpid gra v at : ℕ) → after_entry lpid gra v ≡ Entry at → ⊥
unfolding after_entry
entry_no_entry lpid gra v at h =
    if_no_entry (bits v 0 0 == 0) _ _ at (ended_no_entry _ at)
    (if_no_entry (nat_lt 52 (root_bits v)) _ _ at (ended_no_entry _ at) (if_no_entry (nat_le (2 ^ root_bits v) gra) _ _ at (ended_no_entry _ at) (node_no_entry (node_of v (root_bits v) 1) at _ refl))) h

pub tree_no_entry : (rest level v at : ℕ) → after_tree rest level v ≡ Entry at → ⊥
unfolding after_tree
tree_no_entry rest level v at h =
    if_no_entry (bits v 0 0 == 0) _ _ at (ended_no_entry _ at)
    (if_no_entry (is_leaf v) _ _ at (ended_no_entry _ at) (if_no_entry (nat_le 4 level) _ _ at (ended_no_entry _ at) (node_no_entry (node_of v rest (level + 1)) at _ refl))) h

pub named_append : (reads : List ReadRow) (is : List ℕ) (ps : List ReadRow) (i : ℕ) (r : ReadRow) → AreRows reads is ps → slice_get reads i ≡ Some r → AreRows reads (is ++ i ∷ []) (ps ++ r ∷ [])
named_append reads [] [] i r h at = (at, tt)
named_append reads [] (p ∷ ps) i r h at = absurd h
named_append reads (j ∷ is) [] i r h at = absurd h
named_append reads (j ∷ is) (p ∷ ps) i r h at = (h.0, named_append reads is ps i r h.1 at)

pub follows_append : (lpid gra : ℕ) (s : PartStage) (ps : List ReadRow) (r : ReadRow) → PartFollows lpid gra s ps → IsPartRead lpid gra (part_after lpid gra s ps) r → PartFollows lpid gra s (ps ++ r ∷ [])
follows_append lpid gra s [] r h one = (one, tt)
follows_append lpid gra s (p ∷ ps) r h one = (h.0, follows_append lpid gra (part_next lpid gra s p.value) ps r h.1 one)

after_append : (lpid gra : ℕ) (s : PartStage) (ps : List ReadRow) (r : ReadRow) → part_after lpid gra s (ps ++ r ∷ []) ≡ part_next lpid gra (part_after lpid gra s ps) r.value
after_append lpid gra s [] r = refl
after_append lpid gra s (p ∷ ps) r = after_append lpid gra (part_next lpid gra s p.value) ps r

-- the reading of a partition's entry begins a walk of its tree
pub entry_part : (k : Task) (reads : List ReadRow) (part : List ℕ) (goal : Goal) (gra at i : ℕ) (r : ReadRow) → part_start k.ask.ptcr k.lpid ≡ Entry at → IsRead k (PartEntry goal gra at) r → slice_get reads i ≡ Some r →
    HasPart k gra reads (part_with part i true) (after_entry k.lpid gra r.value)
entry_part k reads part goal gra at i r start a there = record {
  ps = r ∷ [];
  named = (there, tt);
  follows = (subst (λ s. IsPartRead k.lpid gra s r) (sym start) a, tt);
  leads = ap (λ s. part_next k.lpid gra s r.value) start;
}

-- a reading of its tree goes on with it
pub tree_part : (k : Task) (reads : List ReadRow) (part : List ℕ) (goal : Goal) (gra : ℕ) (n : Node) (i : ℕ) (r : ReadRow) → HasPart k gra reads part (Tree n) → IsRead k (PartTable goal gra n) r → slice_get reads i ≡ Some r →
    HasPart k gra reads (part_with part i false) (after_tree (n.left - n.size) n.level r.value)
tree_part k reads part goal gra n i r h a there = record {
  ps = h.ps ++ r ∷ [];
  named = named_append reads part h.ps i r h.named there;
  follows = follows_append k.lpid gra (part_start k.ask.ptcr k.lpid) h.ps r h.follows (subst (λ s. IsPartRead k.lpid gra s r) (sym h.leads) a);
  leads = after_append k.lpid gra (part_start k.ask.ptcr k.lpid) h.ps r ∙ ap (λ s. part_next k.lpid gra s r.value) h.leads;
}

second_so_far : (k : Task) (reads : List ReadRow) (part : List ℕ) (v : ℕ) (b : Bool) → nat_lt (16 * k.pid) (2 ^ (12 + bits v 59 63)) ≡ b → PartSoFar k reads part (after_second k v)
unfolding after_second
second_so_far k reads part v true e = rw e (entered_so_far k reads part ForEntry (bits v 4 51 * 2 ^ 12 + 16 * k.pid) (has_entry k.ask.ptcr k.lpid) refl)
second_so_far k reads part v false e = rw e tt

entry_so_far : (k : Task) (reads : List ReadRow) (part : List ℕ) (v : ℕ) (b c : Bool) → nat_lt 52 (root_bits v) ≡ b → nat_le (2 ^ root_bits v) k.address ≡ c → PartSoFar k reads part (after_process_entry k v)
unfolding after_process_entry
entry_so_far k reads part v true c e f = rw e tt
entry_so_far k reads part v false true e f = rw (e, f) tt
entry_so_far k reads part v false false e f = rw (e, f) (process_so_far k reads part (at_node (node_of v (root_bits v) 1)))

-- each reading keeps what is known
pub next_so_far : (k : Task) (reads : List ReadRow) (part : List ℕ) (s : Stage) (i : ℕ) (r : ReadRow) → PartSoFar k reads part s → IsRead k s r → slice_get reads i ≡ Some r → PartSoFar k reads (part_with part i (begins_part s)) (next k s r.value)
next_so_far k reads part (SecondWord at) i r h a there = second_so_far k reads (part_with part i false) r.value (nat_lt (16 * k.pid) (2 ^ (12 + bits r.value 59 63))) refl
next_so_far k reads part (PartEntry goal gra at) i r h a there = inside_so_far k reads (part_with part i true) goal gra (after_entry k.lpid gra r.value) (λ x e. entry_no_entry k.lpid gra r.value x e) (entry_part k reads part goal gra at i r h a there)
next_so_far k reads part (PartTable goal gra n) i r h a there =
    inside_so_far k reads (part_with part i false) goal gra (after_tree (n.left - n.size) n.level r.value) (λ x e. tree_no_entry (n.left - n.size) n.level r.value x e) (tree_part k reads part goal gra n i r h a there)
next_so_far k reads part (ProcessEntry at) i r h a there = entry_so_far k reads (part_with part i false) r.value (nat_lt 52 (root_bits r.value)) (nat_le (2 ^ root_bits r.value) k.address) refl refl
next_so_far k reads part (ProcessTable n at) i r h a there = process_so_far k reads (part_with part i false) (after_tree (n.left - n.size) n.level r.value)
next_so_far k reads part (Over out) i r h a there = absurd a
