-- Where a walk stands after a value, by cases: what holds of each place that it may come to holds of the one that it comes to.
use Rattle.std.proofs.Common.{◌≡◌, ℕ, ◌+◌, ◌*◌, ◌^◌, nat_lt, nat_le, ◌==◌, ◌&&◌, ◌||◌, Bool, true, false, sym, refl, subst, arith}
use Rattle.std.specs.Prelude.{if◌then◌else◌}
use Rattle.journal_core.specs.Asks.{bits, is_one}
use Rattle.journal_core.specs.Faults.{kind_bits, process_fault, partition_fault, segment_fault}
use Rattle.journal_core.specs.PartitionWalk.{has_entry, entry_place, root_bits, node_of, part_start, after_entry, after_tree, at_node, is_leaf, is_page_size}
use Rattle.journal_core.specs.Walk.{Task, enter, in_process, after_second, after_process_entry, process_start}
use Rattle.journal_core.specs.declared.rows.StopName.{StopName}
use Rattle.journal_core.specs.declared.rows.StopName.TheVariants.{HashedPartition}
use Rattle.journal_core.specs.declared.walks.FaultKind.{FaultKind}
use Rattle.journal_core.specs.declared.walks.FaultKind.TheVariants.{Missing, Unsupported}
use Rattle.journal_core.specs.declared.walks.PartResult.{PartResult}
use Rattle.journal_core.specs.declared.walks.PartResult.TheVariants.{Leaf}
use Rattle.journal_core.specs.declared.walks.PartResult.TheVariants.{Fault as PartFault, Stop as PartStop}
use Rattle.journal_core.specs.declared.walks.Node.{Node}
use Rattle.journal_core.specs.declared.walks.PartStage.{PartStage}
use Rattle.journal_core.specs.declared.walks.PartStage.TheVariants.{Entry, Tree, Ended}
use Rattle.journal_core.specs.declared.walks.Goal.TheVariants.{ForEntry}
use Rattle.journal_core.specs.declared.walks.NestResult.TheVariants.{Fault}
use Rattle.journal_core.specs.declared.walks.Stage.{Stage}
use Rattle.journal_core.specs.declared.walks.Stage.TheVariants.{SecondWord, Over}

-- what holds of both branches, each where its case is given, holds of the choice
pub if_else : {A : Type 0} (P : A → Type 0) (b : Bool) (x y : A) → (b ≡ true → P x) → (b ≡ false → P y) → P (if b then x else y)
if_else P true x y one two = one refl
if_else P false x y one two = two refl

-- what holds of each size of a page holds of this one
pub by_page_size : (P : ℕ → Type 0) (rest : ℕ) → is_page_size rest ≡ true → P 12 → P 16 → P 21 → P 30 → P rest
by_page_size P rest size p12 p16 p21 p30 = by_cases (rest == 12) (rest == 16) (rest == 21) (rest == 30) refl refl refl refl size
  where
    equal_of : (a b : ℕ) → (a == b) ≡ true → a ≡ b
    equal_of a b e = grind arith

    no : false ≡ true → ⊥
    no e = cc

    by_cases : (a b c d : Bool) → (rest == 12) ≡ a → (rest == 16) ≡ b → (rest == 21) ≡ c → (rest == 30) ≡ d → (a || (b || (c || d))) ≡ true → P rest
    by_cases true b c d ea eb ec ed e = subst P (sym (equal_of rest 12 ea)) p12
    by_cases false true c d ea eb ec ed e = subst P (sym (equal_of rest 16 eb)) p16
    by_cases false false true d ea eb ec ed e = subst P (sym (equal_of rest 21 ec)) p21
    by_cases false false false true ea eb ec ed e = subst P (sym (equal_of rest 30 ed)) p30
    by_cases false false false false ea eb ec ed e = absurd (no e)

pub by_node : (P : PartStage → Type 0) (n : Node) → ((kind : FaultKind) → P (Ended (PartFault kind))) → P (Tree n) → P (at_node n)
unfolding at_node
by_node P n faults tree = if_else P (nat_le 5 n.size && (nat_le n.size 16 && nat_le (n.size + 12) n.left)) (Tree n) (Ended (PartFault Unsupported)) (λ e. tree) (λ e. faults Unsupported)

pub by_start : (P : PartStage → Type 0) (ptcr lpid : ℕ) → ((kind : FaultKind) → P (Ended (PartFault kind))) → P (Entry (entry_place ptcr lpid)) → P (part_start ptcr lpid)
unfolding part_start
by_start P ptcr lpid faults entry = if_else P (has_entry ptcr lpid) (Entry (entry_place ptcr lpid)) (Ended (PartFault Missing)) (λ e. entry) (λ e. faults Missing)

pub by_entry : (P : PartStage → Type 0) (lpid gra v : ℕ) → ((kind : FaultKind) → P (Ended (PartFault kind))) → ((name : StopName) (value : ℕ) → P (Ended (PartStop name value))) → ((n : Node) → P (Tree n)) → P (after_entry lpid gra v)
unfolding after_entry
by_entry P lpid gra v faults stops trees = if_else P (bits v 0 0 == 0) (Ended (PartStop HashedPartition lpid)) above (λ e. stops HashedPartition lpid) (λ e. by_above)
  where
    inner : PartStage
    inner = if nat_le (2 ^ root_bits v) gra then Ended (PartFault Missing) else at_node (node_of v (root_bits v) 1)

    above : PartStage
    above = if nat_lt 52 (root_bits v) then Ended (PartFault Unsupported) else inner

    by_inner : P inner
    by_inner = if_else P (nat_le (2 ^ root_bits v) gra) (Ended (PartFault Missing)) (at_node (node_of v (root_bits v) 1)) (λ e. faults Missing) (λ e. by_node P (node_of v (root_bits v) 1) faults (trees (node_of v (root_bits v) 1)))

    by_above : P above
    by_above = if_else P (nat_lt 52 (root_bits v)) (Ended (PartFault Unsupported)) inner (λ e. faults Unsupported) (λ e. by_inner)

abbrev pub leaf_here : ℕ → ℕ → PartResult
leaf_here rest v = Leaf (bits v 7 51 * 2 ^ 12) rest (bits v 58 59) (bits v 60 63) (is_one v 55) (is_one v 56)

pub by_tree : (P : PartStage → Type 0) (rest level v : ℕ) → ((kind : FaultKind) → P (Ended (PartFault kind))) → ((n : Node) → P (Tree n)) → (is_leaf v ≡ true → is_page_size rest ≡ true → P (Ended (leaf_here rest v))) → P (after_tree rest level v)
unfolding after_tree
by_tree P rest level v faults trees leaves = if_else P (bits v 0 0 == 0) (Ended (PartFault Missing)) valid (λ e. faults Missing) (λ e. by_valid)
  where
    result : PartResult
    result = if is_page_size rest then leaf_here rest v else PartFault Unsupported

    below : PartStage
    below = if nat_le 4 level then Ended (PartFault Unsupported) else at_node (node_of v rest (level + 1))

    valid : PartStage
    valid = if is_leaf v then Ended result else below

    by_below : P below
    by_below = if_else P (nat_le 4 level) (Ended (PartFault Unsupported)) (at_node (node_of v rest (level + 1))) (λ e. faults Unsupported) (λ e. by_node P (node_of v rest (level + 1)) faults (trees (node_of v rest (level + 1))))

    by_valid : P valid
    by_valid = if_else P (is_leaf v) (Ended result) below (λ leaf. if_else (λ out. P (Ended out)) (is_page_size rest) (leaf_here rest v) (PartFault Unsupported) (leaves leaf) (λ e. faults Unsupported)) (λ e. by_below)

pub by_second : (P : Stage → Type 0) (k : Task) (v : ℕ) → ((kind : FaultKind) → P (Over (Fault (process_fault k.ask (kind_bits kind))))) → ((gra : ℕ) → P (enter k ForEntry gra)) → P (after_second k v)
unfolding after_second
by_second P k v faults entered =
    if_else P (nat_lt (16 * k.pid) (2 ^ (12 + bits v 59 63))) (enter k ForEntry (bits v 4 51 * 2 ^ 12 + 16 * k.pid)) (Over (Fault (process_fault k.ask (kind_bits Missing)))) (λ e. entered (bits v 4 51 * 2 ^ 12 + 16 * k.pid)) (λ e. faults Missing)

pub by_process_entry : (P : Stage → Type 0) (k : Task) (v : ℕ) → ((kind : FaultKind) → P (Over (Fault (process_fault k.ask (kind_bits kind))))) → P (Over (Fault (segment_fault k.ask))) → ((n : Node) → P (in_process k (at_node n))) → P (after_process_entry k v)
unfolding after_process_entry
by_process_entry P k v faults segment nodes = if_else P (nat_lt 52 (root_bits v)) (Over (Fault (process_fault k.ask (kind_bits Unsupported)))) inner (λ e. faults Unsupported) (λ e. by_inner)
  where
    inner : Stage
    inner = if nat_le (2 ^ root_bits v) k.address then Over (Fault (segment_fault k.ask)) else in_process k (at_node (node_of v (root_bits v) 1))

    by_inner : P inner
    by_inner = if_else P (nat_le (2 ^ root_bits v) k.address) (Over (Fault (segment_fault k.ask))) (in_process k (at_node (node_of v (root_bits v) 1))) (λ e. segment) (λ e. nodes (node_of v (root_bits v) 1))

pub by_process_start : (P : Stage → Type 0) (k : Task) → P (Over (Fault (partition_fault k.ask (kind_bits Missing) 0))) → P (SecondWord (entry_place k.ask.ptcr k.lpid + 8)) → P (process_start k)
unfolding process_start
by_process_start P k fault second =
    if_else P (has_entry k.ask.ptcr k.lpid) (SecondWord (entry_place k.ask.ptcr k.lpid + 8)) (Over (Fault (partition_fault k.ask (kind_bits Missing) 0))) (λ e. second) (λ e. fault)
