use Rattle.std.proofs.Common.{ℕ, List, [], ◌∷◌, ◌+◌, ◌++◌, ap, ◌∙◌}
use Rattle.gen_image.specs.Tables.{table_bytes, base, empty, leaves}
use Rattle.gen_image.proofs.TableLemmas.{pushed, partition_tree-parts}
use Rattle.gen_image.proofs.tables.push_partition_tree.Goals as goal

abbrev root : ℕ → ℕ
root from = 0x8000000000000009 + from + 0x2000

pub returns : goal.returns
returns c =
    let before = c.args.out.now.items in
    let first = c.push_doubleword.new.out.items in
    let zeros = c.push_empty.new.out.items in
    let guest = c.args.guest in
    let one = c.in_ok-push_doubleword.ensures ∙ ap (λ (n : ℕ). before ++ table_bytes (root n ∷ [])) c.base.ensures in
    let two = pushed (root (base guest) ∷ []) (empty 1023) before first zeros one c.in_ok-push_empty.ensures in
    pushed (root (base guest) ∷ [] ++ empty 1023) (leaves (base guest + 0x10000)) before zeros c.push_leaves.new.out.items two
    (c.in_ok-push_leaves.ensures ∙ ap (λ (n : ℕ). zeros ++ table_bytes (leaves (n + 0x10000))) c.base-2.ensures)
    ∙ ap (λ (l : List ℕ). before ++ table_bytes l) (partition_tree-parts guest)
