-- Addresses of one page of 4 KiB lead the same way through each table.
use Rattle.std.proofs.Common.{◌≡◌, ℕ, ◌+◌, ◌-◌, ◌*◌, ◌/◌, ◌%◌, ◌^◌, ◌<◌, ◌≤◌, nat_le, nat_lt, Bool, true, false, arith, ap, sym, ◌∙◌, refl, inl, inr, ◌==◌, ◌&&◌}
use Rattle.std.specs.Prelude.{if◌then◌else◌}
use Rattle.std.proofs.lemmas.Bool.{cases_lt}
use Rattle.std.proofs.lemmas.Bool.Decides.{nat_tests}
use Rattle.std.proofs.lemmas.Nat.{pow-add, mod-pow-add, le-div, div-mul-add}
use Rattle.std.proofs.Math.Nat.{div-div-eq-div-mul, div-eq_of_lt}
use Rattle.std.proofs.lemmas.Nat.{pow_pos}
use Rattle.journal_core.specs.Asks.{bits}
use Rattle.journal_core.specs.PartitionWalk.{SameOver, entry_at, real_in, root_bits, node_of, at_node, leaf_of, is_page_size, is_leaf, has_entry, entry_place, part_start, after_entry, after_tree}
use Rattle.journal_core.specs.declared.rows.StopName.TheVariants.{HashedPartition}
use Rattle.journal_core.specs.declared.walks.FaultKind.TheVariants.{Missing, Unsupported}
use Rattle.journal_core.specs.declared.walks.PartResult.TheVariants.{Leaf, Fault, Stop}
use Rattle.journal_core.specs.declared.walks.Node.{Node}
use Rattle.journal_core.specs.declared.walks.PartStage.{PartStage}
use Rattle.journal_core.specs.declared.walks.PartStage.TheVariants.{Entry, Tree, Ended}

shifted : (a k j : ℕ) → a / 2 ^ (k + j) ≡ a / 2 ^ k / 2 ^ j
shifted a k j = ap (λ m. a / m) (pow-add 2 k j) ∙ sym (div-div-eq-div-mul a (2 ^ k) (2 ^ j))

-- what is equal but for k bits is equal but for more
pub same_more : (k m a b : ℕ) → k ≤ m → SameOver k a b → SameOver m a b
same_more k m a b more same =
    let split : m ≡ k + (m - k) = omega (arith, more) in
    ap (λ x. a / 2 ^ x) split ∙ shifted a k (m - k) ∙ ap (λ x. x / 2 ^ (m - k)) same ∙ sym (shifted b k (m - k)) ∙ ap (λ x. b / 2 ^ x) (sym split)

reaches_one : (m a : ℕ) → 0 < m → nat_le m a ≡ nat_le 1 (a / m)
reaches_one m a above = elim (cases_lt a m) [
  | inl below ↦ (let none : a / m ≡ 0 = div-eq_of_lt below in off m a below ∙ sym (off_one (a / m) none))
  | inr within ↦ (let one : 1 ≤ a / m = le-div 1 a m above (omega (arith, within)) in on m a within ∙ sym (on 1 (a / m) one))
]
  where
    off : (m a : ℕ) → a < m → nat_le m a ≡ false
    off m a below = grind (arith, nat_tests)

    off_one : (q : ℕ) → q ≡ 0 → nat_le 1 q ≡ false
    off_one q none = grind (arith, nat_tests)

    on : (m a : ℕ) → m ≤ a → nat_le m a ≡ true
    on m a within = grind (arith, nat_tests)

-- addresses of one page are both beyond a tree or both in it
pub same_beyond : (b a c : ℕ) → 12 ≤ b → SameOver 12 a c → nat_le (2 ^ b) a ≡ nat_le (2 ^ b) c
same_beyond b a c large same = reaches_one (2 ^ b) a (pow_pos b) ∙ (ap (λ q. nat_le 1 q) (same_more 12 b a c large same) ∙ sym (reaches_one (2 ^ b) c (pow_pos b)))

above_eleven : (a b : ℕ) → 12 ≤ a * 8 + b + 31
above_eleven a b = omega arith

pub root_large : (v : ℕ) → 12 ≤ root_bits v
root_large v = above_eleven (bits v 1 2) (bits v 56 58)

-- addresses of one page have one entry in a table that leaves the page's bits
pub same_entry : (n : Node) (a c : ℕ) → 12 ≤ n.left - n.size → SameOver 12 a c → entry_at a n ≡ entry_at c n
same_entry n a c large same = ap (λ x. n.base + 8 * (x % 2 ^ n.size)) (same_more 12 (n.left - n.size) a c large same)

joined : (q p x y : ℕ) → q * (p * 4096) + (x * 4096 + y) ≡ (q * p + x) * 4096 + y
joined q p x y = grind arith

real_over : (page j a : ℕ) → real_in page (j + 12) a / 2 ^ 12 ≡ page / 2 ^ (j + 12) * 2 ^ j + a / 2 ^ 12 % 2 ^ j
real_over page j a =
    let q : ℕ = page / 2 ^ (j + 12) in
    let parts : real_in page (j + 12) a ≡ (q * 2 ^ j + a / 2 ^ 12 % 2 ^ j) * 2 ^ 12 + a % 2 ^ 12 =
    ap (λ x. q * 2 ^ (j + 12) + x) (mod-pow-add a j 12) ∙ ap (λ x. q * x + ((a / 2 ^ 12 % 2 ^ j) * 2 ^ 12 + a % 2 ^ 12)) (pow-add 2 j 12)
    ∙ joined q (2 ^ j) (a / 2 ^ 12 % 2 ^ j) (a % 2 ^ 12) in
    ap (λ x. x / 2 ^ 12) parts ∙ div-mul-add (q * 2 ^ j + a / 2 ^ 12 % 2 ^ j) (2 ^ 12) (a % 2 ^ 12) (omega arith)

-- a page's address with the low bits of addresses of one page of 4 KiB
pub same_real : (page low a c : ℕ) → 12 ≤ low → SameOver 12 a c → SameOver 12 (real_in page low a) (real_in page low c)
same_real page low a c large same =
    let split : low ≡ low - 12 + 12 = omega (arith, large) in
    ap (λ l. real_in page l a / 2 ^ 12) split ∙ real_over page (low - 12) a ∙ ap (λ x. page / 2 ^ (low - 12 + 12) * 2 ^ (low - 12) + x % 2 ^ (low - 12)) same
    ∙ sym (real_over page (low - 12) c) ∙ ap (λ l. real_in page l c / 2 ^ 12) (sym split)

-- a table or a leaf leaves at least the bits of a page of 4 KiB
abbrev pub IsLarge : PartStage → Type 0
IsLarge (Entry at) = Unit {0}
IsLarge (Tree n) = 12 ≤ n.left - n.size
IsLarge (Ended (Leaf page low att eaa r c)) = 12 ≤ low
IsLarge (Ended (Fault kind)) = Unit {0}
IsLarge (Ended (Stop name value)) = Unit {0}

large_if : (b : Bool) (x y : PartStage) → (b ≡ true → IsLarge x) → (b ≡ false → IsLarge y) → IsLarge (if b then x else y)
large_if true x y one two = one refl
large_if false x y one two = two refl

sizes : (size left : ℕ) → (nat_le 5 size && (nat_le size 16 && nat_le (size + 12) left)) ≡ true → 12 ≤ left - size
sizes size left e = grind (arith, nat_tests)

pub large_node : (n : Node) → IsLarge (at_node n)
unfolding at_node
large_node n = large_if (nat_le 5 n.size && (nat_le n.size 16 && nat_le (n.size + 12) n.left)) (Tree n) (Ended (Fault Unsupported)) (λ e. sizes n.size n.left e) (λ e. tt)

page_sizes : (rest : ℕ) → is_page_size rest ≡ true → 12 ≤ rest
page_sizes rest e = grind (arith, nat_tests)

large_leaf : (rest v : ℕ) → IsLarge (Ended (leaf_of rest v))
large_leaf rest v = by (is_page_size rest) refl
  where
    by : (b : Bool) → is_page_size rest ≡ b → IsLarge (Ended (if b then Leaf (bits v 7 51 * 2 ^ 12) rest (bits v 58 59) (bits v 60 63) (bits v 55 55 == 1) (bits v 56 56 == 1) else Fault Unsupported))
    by true e = page_sizes rest e
    by false e = tt

pub large_tree : (rest level v : ℕ) → IsLarge (after_tree rest level v)
unfolding after_tree
large_tree rest level v =
    large_if (bits v 0 0 == 0) _ _ (λ e. tt)
    (λ e. large_if (is_leaf v) _ _ (λ e. large_leaf rest v) (λ e. large_if (nat_le 4 level) _ _ (λ e. tt) (λ e. large_node (node_of v rest (level + 1)))))

pub large_entry : (lpid gra v : ℕ) → IsLarge (after_entry lpid gra v)
unfolding after_entry
large_entry lpid gra v =
    large_if (bits v 0 0 == 0) _ _ (λ e. tt)
    (λ e. large_if (nat_lt 52 (root_bits v)) _ _ (λ e. tt) (λ e. large_if (nat_le (2 ^ root_bits v) gra) _ _ (λ e. tt) (λ e. large_node (node_of v (root_bits v) 1))))

pub large_start : (ptcr lpid : ℕ) → IsLarge (part_start ptcr lpid)
unfolding part_start
large_start ptcr lpid = large_if (has_entry ptcr lpid) (Entry (entry_place ptcr lpid)) (Ended (Fault Missing)) (λ e. tt) (λ e. tt)

entry_with : ℕ → ℕ → Bool → PartStage
entry_with lpid v beyond =
    if bits v 0 0 == 0 then Ended (Stop HashedPartition lpid)
    else if nat_lt 52 (root_bits v) then Ended (Fault Unsupported)
    else if beyond then Ended (Fault Missing)
    else at_node (node_of v (root_bits v) 1)

-- after a partition's entry guest real addresses of one page go on alike
pub same_after_entry : (l0 l g0 g v : ℕ) → l0 ≡ l → SameOver 12 g0 g → after_entry l0 g0 v ≡ after_entry l g v
unfolding after_entry entry_with
same_after_entry l0 l g0 g v lpid same = ap (λ x. entry_with x v (nat_le (2 ^ root_bits v) g0)) lpid ∙ ap (λ b. entry_with l v b) (same_beyond (root_bits v) g0 g (root_large v) same)
