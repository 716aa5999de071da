use Rattle.std.proofs.Common.{ℕ, List, [], ◌∷◌, ◌++◌, ap, ◌∙◌}
use Rattle.gen_image.specs.Tables.{table_bytes, empty, leaves}
use Rattle.gen_image.proofs.TableLemmas.{pushed, process_tables-parts}
use Rattle.gen_image.proofs.tables.push_process_tables.Goals as goal

pub returns : goal.returns
returns c =
    let before = c.args.out.now.items in
    let entry = c.push_doubleword.new.out.items in
    let page = c.push_empty-2.new.out.items in
    let root = c.push_doubleword-2.new.out.items in
    let rest = c.push_empty-3.new.out.items in
    let one = pushed (empty 2) (0x200A ∷ []) before c.push_empty.new.out.items entry c.in_ok-push_empty.ensures c.in_ok-push_doubleword.ensures in
    let two = pushed (empty 2 ++ 0x200A ∷ []) (empty 1021) before entry page one c.in_ok-push_empty-2.ensures in
    let three = pushed (empty 2 ++ 0x200A ∷ [] ++ empty 1021) (0x8000000000004009 ∷ []) before page root two c.in_ok-push_doubleword-2.ensures in
    let four = pushed (empty 2 ++ 0x200A ∷ [] ++ empty 1021 ++ 0x8000000000004009 ∷ []) (empty 1023) before root rest three c.in_ok-push_empty-3.ensures in
    pushed (empty 2 ++ 0x200A ∷ [] ++ empty 1021 ++ 0x8000000000004009 ∷ [] ++ empty 1023) (leaves 0) before rest c.push_leaves.new.out.items four c.in_ok-push_leaves.ensures
    ∙ ap (λ (l : List ℕ). before ++ table_bytes l) process_tables-parts
