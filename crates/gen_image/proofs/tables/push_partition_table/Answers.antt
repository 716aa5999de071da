use Rattle.std.proofs.Common.{ℕ, List, [], ◌∷◌, ◌+◌, ◌++◌, ap, ◌∙◌}
use Rattle.gen_image.specs.Tables.{table_bytes, base, empty}
use Rattle.gen_image.proofs.TableLemmas.{pushed, one-pushed, partition_table-parts}
use Rattle.gen_image.proofs.tables.push_partition_table.Goals as goal

abbrev place : ℕ → ℕ
place from = 0x800000000000000A + from

pub returns : goal.returns
returns c =
    let before = c.args.out.now.items in
    let none = c.push_empty.new.out.items in
    let first = c.push_doubleword.new.out.items in
    let first_zero = c.push_empty-2.new.out.items in
    let second = c.push_doubleword-2.new.out.items in
    let one = one-pushed (empty 2) (place (base 1)) (place c.base.result) before none first (ap place c.base.ensures) c.in_ok-push_empty.ensures c.in_ok-push_doubleword.ensures in
    let two = pushed (empty 2 ++ place (base 1) ∷ []) (empty 1) before first first_zero one c.in_ok-push_empty-2.ensures in
    let three = one-pushed (empty 2 ++ place (base 1) ∷ [] ++ empty 1) (place (base 2)) (place c.base-2.result) before first_zero second (ap place c.base-2.ensures) two c.in_ok-push_doubleword-2.ensures in
    pushed (empty 2 ++ place (base 1) ∷ [] ++ empty 1 ++ place (base 2) ∷ []) (empty 1) before second c.push_empty-3.new.out.items three c.in_ok-push_empty-3.ensures
    ∙ ap (λ (l : List ℕ). before ++ table_bytes l) partition_table-parts
