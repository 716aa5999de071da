-- A walk of a partition's tree serves each address that is equal over the bits that it leaves.
use Rattle.std.proofs.Common.{◌≡◌, ℕ, ◌+◌, ◌-◌, ◌*◌, ◌/◌, ◌%◌, ◌^◌, ◌<◌, ◌≤◌, List, [], ◌∷◌, Bool, true, false, arith, ap, sym, ◌∙◌, refl, subst, inl, inr}
use Rattle.std.specs.Prelude.{nat_lt, nat_le, ◌==◌, ◌&&◌, if◌then◌else◌}
use Rattle.std.proofs.lemmas.Bool.Decides.{leb_tells}
use Rattle.std.proofs.lemmas.Nat.{le-div, pow_pos}
use Rattle.std.proofs.Math.Nat.{div-eq_of_lt}
use Rattle.journal_core.specs.declared.rows.ReadRow.{ReadRow}
use Rattle.journal_core.specs.declared.walks.FaultKind.TheVariants.{Unsupported}
use Rattle.journal_core.specs.declared.walks.PartResult.TheVariants.{Leaf, Fault, Stop}
use Rattle.journal_core.specs.declared.walks.Node.{Node}
use Rattle.journal_core.specs.declared.walks.PartStage.{PartStage}
use Rattle.journal_core.specs.declared.walks.PartStage.TheVariants.{Entry, Tree, Ended}
use Rattle.journal_core.specs.Asks.{bits, is_one}
use Rattle.journal_core.specs.PartitionWalk.{root_bits, node_of, at_node, after_entry, after_tree, is_leaf, is_page_size, SameOver, part_after, PartFollows}
use Rattle.walk_laws.proofs.WalkBounds.{cond_case}
use Rattle.walk_laws.proofs.SamePage.{same_more, IsLarge, large_entry, large_tree}

-- a walk that stands here leaves at least so many bits
abbrev pub Leaves : ℕ → PartStage → Type 0
Leaves m (Entry at) = Unit {0}
Leaves m (Tree n) = m ≤ n.left
Leaves m (Ended (Leaf page low att eaa r c)) = m ≤ low
Leaves m (Ended (Fault kind)) = ⊥
Leaves m (Ended (Stop name value)) = ⊥

pub node_leaves : (m : ℕ) (n : Node) → Leaves m (at_node n) → m ≤ n.left
unfolding at_node
node_leaves m n = cond_case (λ s. Leaves m s → m ≤ n.left) (nat_le 5 n.size && (nat_le n.size 16 && nat_le (n.size + 12) n.left)) _ _ (λ is h. h) (λ isnt h. absurd h)

leaf_leaves : (m rest v : ℕ) (b : Bool) → Leaves m (Ended (if b then Leaf (bits v 7 51 * 2 ^ 12) rest (bits v 58 59) (bits v 60 63) (is_one v 55) (is_one v 56) else Fault Unsupported)) → m ≤ rest
leaf_leaves m rest v true h = h
leaf_leaves m rest v false h = absurd h

pub entry_leaves : (m lpid gra v : ℕ) → Leaves m (after_entry lpid gra v) → m ≤ root_bits v
unfolding after_entry
entry_leaves m lpid gra v =
    let P : PartStage → Type 0 = λ s. Leaves m s → m ≤ root_bits v in
    cond_case P (bits v 0 0 == 0) _ _ (λ is h. absurd h)
    (λ o. cond_case P (nat_lt 52 (root_bits v)) _ _ (λ is h. absurd h)
    (λ o. cond_case P (nat_le (2 ^ root_bits v) gra) _ _ (λ is h. absurd h)
    (λ o h. node_leaves m (node_of v (root_bits v) 1) h)))

pub tree_leaves : (m rest level v : ℕ) → Leaves m (after_tree rest level v) → m ≤ rest
unfolding after_tree
tree_leaves m rest level v =
    let P : PartStage → Type 0 = λ s. Leaves m s → m ≤ rest in
    cond_case P (bits v 0 0 == 0) _ _ (λ is h. absurd h)
    (λ o. cond_case P (is_leaf v) _ _ (λ is h. leaf_leaves m rest v (is_page_size rest) h)
    (λ o. cond_case P (nat_le 4 level) _ _ (λ is h. absurd h)
    (λ o h. node_leaves m (node_of v rest (level + 1)) h)))

-- so it left them wherever it stood before
leaves_before : (m lpid gra : ℕ) (s : PartStage) (rs : List ReadRow) → PartFollows lpid gra s rs → Leaves m (part_after lpid gra s rs) → Leaves m s
leaves_before m lpid gra s [] h last = last
leaves_before m lpid gra (Entry at) (r ∷ rs) h last = tt
leaves_before m lpid gra (Tree n) (r ∷ rs) h last =
    let later : Leaves m (after_tree (n.left - n.size) n.level r.value) = leaves_before m lpid gra (after_tree (n.left - n.size) n.level r.value) rs h.1 last in
    let here : m ≤ n.left - n.size = tree_leaves m (n.left - n.size) n.level r.value later in
    omega (arith, here)
leaves_before m lpid gra (Ended out) (r ∷ rs) h last = absurd h.0

apart : (m a c : ℕ) → 0 < m → m ≤ a → c < m → a / m ≡ c / m → ⊥
apart m a c pos one two e =
    let none : c / m ≡ 0 = div-eq_of_lt two in
    let some : 1 ≤ a / m = le-div 1 a m pos (omega (arith, one)) in
    omega (arith, none, some, e)

-- addresses that are equal over the bits that a root leaves are both beyond it, or none
pub beyond : (b a c : ℕ) → SameOver b a c → nat_le (2 ^ b) a ≡ nat_le (2 ^ b) c
beyond b a c e = by_parts (2 ^ b) a c (pow_pos b) e
  where
    by_parts : (m a c : ℕ) → 0 < m → a / m ≡ c / m → nat_le m a ≡ nat_le m c
    by_parts m a c pos e = elim (leb_tells m a) [
      | inl one ↦ elim (leb_tells m c) [ inl two ↦ one.0 ∙ sym two.0 | inr two ↦ absurd (apart m a c pos one.1 two.1 e) ]
      | inr one ↦ elim (leb_tells m c) [ inl two ↦ absurd (apart m c a pos two.1 one.1 (sym e)) | inr two ↦ one.0 ∙ sym two.0 ]
    ]

pub entry_same : (lpid gra other v : ℕ) → SameOver (root_bits v) gra other → after_entry lpid gra v ≡ after_entry lpid other v
unfolding after_entry
entry_same lpid gra other v e = rw (beyond (root_bits v) gra other e) refl

-- readings that follow the walk of one address follow that of each other one that is equal over the bits that they leave, and lead to where they led
pub record Serves (lpid gra other : ℕ) (s : PartStage) (rs : List ReadRow) : Type 0 where
  pub follows : PartFollows lpid other s rs
  pub after : part_after lpid other s rs ≡ part_after lpid gra s rs

pub serves : (m lpid gra other : ℕ) (s : PartStage) (rs : List ReadRow) → SameOver m gra other → PartFollows lpid gra s rs → Leaves m (part_after lpid gra s rs) → Serves lpid gra other s rs
serves m lpid gra other s [] same h last = record { follows = tt; after = refl }
serves m lpid gra other (Entry at) (r ∷ rs) same h last =
    let next : PartStage = after_entry lpid gra r.value in
    let left : m ≤ root_bits r.value = entry_leaves m lpid gra r.value (leaves_before m lpid gra next rs h.1 last) in
    let here : SameOver (root_bits r.value) gra other = same_more m (root_bits r.value) gra other left same in
    let goes : next ≡ after_entry lpid other r.value = entry_same lpid gra other r.value here in
    let rest : Serves lpid gra other next rs = serves m lpid gra other next rs same h.1 last in
    record {
      follows = (
        record { same_role = h.0.same_role; same_lpid = h.0.same_lpid; same_pid = h.0.same_pid; same_sought = h.0.same_sought ∙ subst (λ b. SameOver b gra other) (sym h.0.same_left) here; same_level = h.0.same_level; same_left = h.0.same_left; same_at = h.0.same_at },
        subst (λ s. PartFollows lpid other s rs) goes rest.follows,
      );
      after = ap (λ s. part_after lpid other s rs) (sym goes) ∙ rest.after;
    }
serves m lpid gra other (Tree n) (r ∷ rs) same h last =
    let next : PartStage = after_tree (n.left - n.size) n.level r.value in
    let left : m ≤ n.left - n.size = tree_leaves m (n.left - n.size) n.level r.value (leaves_before m lpid gra next rs h.1 last) in
    let here : SameOver (n.left - n.size) gra other = same_more m (n.left - n.size) gra other left same in
    let rest : Serves lpid gra other next rs = serves m lpid gra other next rs same h.1 last in
    record {
      follows = (
        record {
          same_role = h.0.same_role;
          same_lpid = h.0.same_lpid;
          same_pid = h.0.same_pid;
          same_sought = h.0.same_sought ∙ subst (λ b. SameOver b gra other) (sym h.0.same_left) here;
          same_level = h.0.same_level;
          same_left = h.0.same_left;
          same_at = h.0.same_at ∙ ap (λ q. n.base + 8 * (q % 2 ^ n.size)) here;
        },
        rest.follows,
      );
      after = rest.after;
    }
serves m lpid gra other (Ended out) (r ∷ rs) same h last = absurd h.0

-- where a walk of a partition's tree may stand leaves a page of 4 KiB
pub after_large : (lpid gra : ℕ) (s : PartStage) (rs : List ReadRow) → IsLarge s → PartFollows lpid gra s rs → IsLarge (part_after lpid gra s rs)
after_large lpid gra s [] large h = large
after_large lpid gra (Entry at) (r ∷ rs) large h = after_large lpid gra (after_entry lpid gra r.value) rs (large_entry lpid gra r.value) h.1
after_large lpid gra (Tree n) (r ∷ rs) large h = after_large lpid gra (after_tree (n.left - n.size) n.level r.value) rs (large_tree (n.left - n.size) n.level r.value) h.1
after_large lpid gra (Ended out) (r ∷ rs) large h = absurd h.0
