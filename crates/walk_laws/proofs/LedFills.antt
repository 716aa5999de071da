-- Which walk each fill of a finished walk has as its readings.
use Rattle.std.proofs.Common.{◌≡◌, ℕ, zero, suc, ◌+◌, ◌-◌, ◌*◌, ◌/◌, ◌^◌, ◌≤◌, List, [], ◌∷◌, ◌++◌, length, take, Bool, true, false, Option, Some, arith, ap, sym, ◌∙◌, refl, subst}
use Rattle.std.specs.Prelude.{replicate, nat_lt, nat_le, ◌==◌, ◌&&◌, if◌then◌else◌}
use Rattle.std.proofs.lemmas.List.{take-append-le, take-take}
use Rattle.journal_core.specs.declared.rows.KeyKind.{KeyKind}
use Rattle.journal_core.specs.declared.rows.KeyKind.TheVariants.{Translation, GuestPage, ProcessDir, PartDir}
use Rattle.journal_core.specs.declared.rows.Key.{Key}
use Rattle.journal_core.specs.declared.rows.ReadRow.{ReadRow}
use Rattle.journal_core.specs.declared.rows.FillRow.{FillRow}
use Rattle.journal_core.specs.declared.walks.FaultKind.TheVariants.{Unsupported}
use Rattle.journal_core.specs.declared.walks.PartResult.TheVariants.{Leaf, Fault as PartFault, Stop as PartStop}
use Rattle.journal_core.specs.declared.walks.Node.{Node}
use Rattle.journal_core.specs.declared.walks.Goal.{Goal}
use Rattle.journal_core.specs.declared.walks.NestResult.TheVariants.{Page}
use Rattle.journal_core.specs.declared.walks.PartStage.{PartStage}
use Rattle.journal_core.specs.declared.walks.PartStage.TheVariants.{Entry, Tree, Ended}
use Rattle.journal_core.specs.declared.walks.Stage.{Stage}
use Rattle.journal_core.specs.declared.walks.Stage.TheVariants.{SecondWord, PartEntry, PartTable, ProcessEntry, ProcessTable, Over}
use Rattle.journal_core.specs.Asks.{bits, is_one}
use Rattle.journal_core.specs.PartitionWalk.{root_bits, node_of, at_node, part_start, after_entry, after_tree, is_leaf, is_page_size, SameOver, part_after, PartFollows}
use Rattle.journal_core.specs.Walk.{Task, inside, stage_after}
use Rattle.journal_core.specs.Following.{IsRead, Follows}
use Rattle.journal_core.specs.Standing.{AreRows, fill_reads}
use Rattle.journal_core.specs.Fills.{fill_of}
use Rattle.walk_laws.specs.KeptBegins.{IsInTree}
use Rattle.walk_laws.proofs.WalkBounds.{cond_case}
use Rattle.walk_laws.proofs.AlikeWalks.{no_way}
use Rattle.walk_laws.proofs.PartSoFar.{HasPart}
use Rattle.walk_laws.proofs.PartServes.{Leaves}

-- a fill's readings are a walk of a partition's tree that serves each address of its key
pub record LedPart (k : Task) (reads : List ReadRow) (f : FillRow) : Type 0 where
  pub lpid : f.key.lpid ≡ k.lpid
  pub gra : ℕ
  pub leaving : ℕ
  pub rs : List ReadRow
  pub named : AreRows reads (fill_reads f) rs
  pub count : f.count ≡ length rs
  pub follows : PartFollows k.lpid gra (part_start k.ask.ptcr k.lpid) rs
  pub in_tree : IsInTree (part_after k.lpid gra (part_start k.ask.ptcr k.lpid) rs)
  pub leaves : Leaves leaving (part_after k.lpid gra (part_start k.ask.ptcr k.lpid) rs)
  pub same : (other : ℕ) → f.key.page ≡ other / 2 ^ f.key.left → SameOver leaving gra other

-- after this value the walk of the process's tree reads this table next
abbrev pub LeadsToTable : Task → Stage → ℕ → Node → Type 0
LeadsToTable k (SecondWord at) v n = ⊥
LeadsToTable k (PartEntry goal gra at) v n = ⊥
LeadsToTable k (PartTable goal gra m) v n = ⊥
LeadsToTable k (ProcessEntry at) v n = (nat_lt 52 (root_bits v) ≡ false) × (nat_le (2 ^ root_bits v) k.address ≡ false) × (at_node (node_of v (root_bits v) 1) ≡ Tree n)
LeadsToTable k (ProcessTable m at) v n = after_tree (m.left - m.size) m.level v ≡ Tree n
LeadsToTable k (Over out) v n = ⊥

-- a fill's readings are a walk from where it starts, whose last one is a directory of the process's tree
pub record LedProcess (k : Task) (start : Stage) (reads : List ReadRow) (f : FillRow) : Type 0 where
  pub lpid : f.key.lpid ≡ k.lpid
  pub pid : f.key.pid ≡ k.pid
  pub qs : List ReadRow
  pub last : ReadRow
  pub named : AreRows reads (fill_reads f) (qs ++ last ∷ [])
  pub count : f.count ≡ length qs + 1
  pub follows : Follows k start qs
  pub read : IsRead k (stage_after k start qs) last
  pub table : Node
  pub leads : LeadsToTable k (stage_after k start qs) last.value table
  pub left : f.key.left ≡ last.left
  pub page : f.key.page ≡ k.address / 2 ^ last.left

-- a fill is the ask's own, and its readings are the whole walk
pub record LedWhole (k : Task) (start : Stage) (own : Option Key) (reads : List ReadRow) (f : FillRow) : Type 0 where
  pub of_key : own ≡ Some f.key
  pub rs : List ReadRow
  pub named : AreRows reads (fill_reads f) rs
  pub follows : Follows k start rs

-- what a fill's readings do, by the kind of its key
abbrev pub IsLed : Task → Stage → Option Key → List ReadRow → FillRow → KeyKind → Type 0
IsLed k start own reads f Translation = LedWhole k start own reads f
IsLed k start own reads f GuestPage = LedPart k reads f
IsLed k start own reads f ProcessDir = LedProcess k start reads f
IsLed k start own reads f PartDir = LedPart k reads f

whole : {X : Type 0} (xs : List X) (n : ℕ) → length xs ≡ n → take n xs ≡ xs
whole [] zero e = refl
whole [] (suc n) e = refl
whole (x ∷ xs) zero e = absurd (omega (arith, e))
whole (x ∷ xs) (suc n) e = ap (λ ys. x ∷ ys) (whole xs n (omega (arith, e)))

-- the readings of a fill are those that it was made of
pub reads_of_fill : (t n : ℕ) (key : Key) (level : ℕ) (is : List ℕ) → length is ≤ 36 → fill_reads (fill_of t n key level is) ≡ is
reads_of_fill t n key level is few =
    take-take (length is) 36 (is ++ replicate 36 0) few ∙ (take-append-le (length is) is (replicate 36 0) (omega arith) ∙ whole is (length is) refl)

pub rows_length : (reads : List ReadRow) (is : List ℕ) (rs : List ReadRow) → AreRows reads is rs → length is ≡ length rs
rows_length reads [] [] h = refl
rows_length reads [] (r ∷ rs) h = absurd h
rows_length reads (i ∷ is) [] h = absurd h
rows_length reads (i ∷ is) (r ∷ rs) h = (let e : length is ≡ length rs = rows_length reads is rs h.1 in ap suc e)

-- a walk that stands in a partition's tree on its way to a page
pub live : (k : Task) (goal : Goal) (gra : ℕ) (p : PartStage) (rest : List ReadRow) (real : ℕ) → ((at : ℕ) → p ≡ Entry at → ⊥) → stage_after k (inside k goal gra p) rest ≡ Over (Page real) → IsInTree p
unfolding inside
live k goal gra (Entry at) rest real never leads = absurd (never at refl)
live k goal gra (Tree n) rest real never leads = tt
live k goal gra (Ended (Leaf page low att eaa r c)) rest real never leads = tt
live k goal gra (Ended (PartFault kind)) rest real never leads = absurd (no_way k _ rest real tt leads)
live k goal gra (Ended (PartStop name value)) rest real never leads = absurd (no_way k _ rest real tt leads)

-- in the tree, it leaves what the last reading left
node_leaves : (n : Node) → IsInTree (at_node n) → Leaves n.left (at_node n)
unfolding at_node
node_leaves n = cond_case (λ s. IsInTree s → Leaves n.left s) (nat_le 5 n.size && (nat_le n.size 16 && nat_le (n.size + 12) n.left)) _ _ (λ is h. omega arith) (λ isnt h. absurd h)

leaf_leaves : (rest v : ℕ) (b : Bool) → IsInTree (Ended (if b then Leaf (bits v 7 51 * 2 ^ 12) rest (bits v 58 59) (bits v 60 63) (is_one v 55) (is_one v 56) else PartFault Unsupported)) →
    Leaves rest (Ended (if b then Leaf (bits v 7 51 * 2 ^ 12) rest (bits v 58 59) (bits v 60 63) (is_one v 55) (is_one v 56) else PartFault Unsupported))
leaf_leaves rest v true h = omega arith
leaf_leaves rest v false h = absurd h

pub entry_leaves : (lpid gra v : ℕ) → IsInTree (after_entry lpid gra v) → Leaves (root_bits v) (after_entry lpid gra v)
unfolding after_entry
entry_leaves lpid gra v =
    let P : PartStage → Type 0 = λ s. IsInTree s → Leaves (root_bits v) s in
    cond_case P (bits v 0 0 == 0) _ _ (λ is h. absurd h)
    (λ o. cond_case P (nat_lt 52 (root_bits v)) _ _ (λ is h. absurd h)
    (λ o. cond_case P (nat_le (2 ^ root_bits v) gra) _ _ (λ is h. absurd h)
    (λ o h. node_leaves (node_of v (root_bits v) 1) h)))

pub tree_leaves : (rest level v : ℕ) → IsInTree (after_tree rest level v) → Leaves rest (after_tree rest level v)
unfolding after_tree
tree_leaves rest level v =
    let P : PartStage → Type 0 = λ s. IsInTree s → Leaves rest s in
    cond_case P (bits v 0 0 == 0) _ _ (λ is h. absurd h)
    (λ o. cond_case P (is_leaf v) _ _ (λ is h. leaf_leaves rest v (is_page_size rest) h)
    (λ o. cond_case P (nat_le 4 level) _ _ (λ is h. absurd h)
    (λ o h. node_leaves (node_of v rest (level + 1)) h)))

pub make_part : (k : Task) (reads : List ReadRow) (t n level : ℕ) (key : Key) (numbers : List ℕ) (gra leaving : ℕ) (p : PartStage) → length numbers ≤ 36 → key.lpid ≡ k.lpid → HasPart k gra reads numbers p → IsInTree p → Leaves leaving p
    → ((other : ℕ) → key.page ≡ other / 2 ^ key.left → SameOver leaving gra other) → LedPart k reads (fill_of t n key level numbers)
make_part k reads t n level key numbers gra leaving p few lpid part in_tree leaves same = record {
  lpid = lpid;
  gra = gra;
  leaving = leaving;
  rs = part.ps;
  named = subst (λ is. AreRows reads is part.ps) (sym (reads_of_fill t n key level numbers few)) part.named;
  count = rows_length reads numbers part.ps part.named;
  follows = part.follows;
  in_tree = subst IsInTree (sym part.leads) in_tree;
  leaves = subst (Leaves leaving) (sym part.leads) leaves;
  same = same;
}
