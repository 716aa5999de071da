-- The bytes of tables.
use Rattle.std.proofs.Common.{◌≡◌, ℕ, zero, suc, ◌+◌, ◌*◌, List, [], ◌∷◌, ◌++◌, length, replicate, refl, ap, sym, ◌∙◌, arith, append_assoc, length-append}
use Rattle.std.specs.Int.{bytes_high_first}
use Rattle.std.proofs.lemmas.List.{append-nil, length-replicate, replicate-append-replicate}
use Rattle.std.proofs.lemmas.List.Concat.{flat_map-append}
use Rattle.std.proofs.lemmas.List.FromFn.{map-range_with_len_more, length-map-range_with_len}
use Rattle.gen_image.specs.Tables.{table_bytes, base, empty, leaf, first_leaves, leaves, partition_table, partition_tree, process_tables}

table_bytes-append : (a b : List ℕ) → table_bytes (a ++ b) ≡ table_bytes a ++ table_bytes b
unfolding table_bytes
table_bytes-append a b = flat_map-append (bytes_high_first 8) a b

pub length-table_bytes : (a : List ℕ) → length (table_bytes a) ≡ 8 * length a
unfolding table_bytes
length-table_bytes [] = refl
length-table_bytes (d ∷ ds) = omega (arith, length-table_bytes ds)

-- an empty entry is eight zeros
pub table_bytes_empty : (count : ℕ) → table_bytes (empty count) ≡ replicate (8 * count) 0
unfolding table_bytes empty
table_bytes_empty zero = refl
table_bytes_empty (suc n) =
    let e : 8 + 8 * n ≡ 8 * suc n = omega arith in
    ap (λ (l : List ℕ). bytes_high_first 8 0 ++ l) (table_bytes_empty n) ∙ replicate-append-replicate 8 (8 * n) 0 ∙ ap (λ (k : ℕ). replicate k 0) e

-- Doublewords are put behind bytes that had others put behind them.
pub pushed : (a b before middle after : List ℕ) → middle ≡ before ++ table_bytes a → after ≡ middle ++ table_bytes b → after ≡ before ++ table_bytes (a ++ b)
pushed a b before middle after first second =
    second ∙ ap (λ (l : List ℕ). l ++ table_bytes b) first ∙ append_assoc before (table_bytes a) (table_bytes b)
    ∙ ap (λ (l : List ℕ). before ++ l) (sym (table_bytes-append a b))

-- A doubleword is put behind bytes that had others put behind them.
pub one-pushed : (a : List ℕ) (number pushed_number : ℕ) (before middle after : List ℕ) → pushed_number ≡ number → middle ≡ before ++ table_bytes a
    → after ≡ middle ++ table_bytes (pushed_number ∷ []) → after ≡ before ++ table_bytes (a ++ number ∷ [])
one-pushed a number pushed_number before middle after is first second =
    pushed a (number ∷ []) before middle after first (second ∙ ap (λ (d : ℕ). middle ++ table_bytes (d ∷ [])) is)

-- No leaves are put behind bytes.
pub no_leaves-pushed : (from : ℕ) (before : List ℕ) → before ≡ before ++ table_bytes (first_leaves from 0)
unfolding table_bytes first_leaves
no_leaves-pushed from before = sym (append-nil before)

one_leaf_more : (from count : ℕ) → first_leaves from (count + 1) ≡ first_leaves from count ++ leaf from count ∷ []
unfolding first_leaves
one_leaf_more from count = map-range_with_len_more (leaf from) 0 count count (omega arith)

-- One leaf more is put behind those before it.
pub leaf-pushed : (from count : ℕ) (before middle after : List ℕ) → middle ≡ before ++ table_bytes (first_leaves from count)
    → after ≡ middle ++ table_bytes (leaf from count ∷ []) → after ≡ before ++ table_bytes (first_leaves from (count + 1))
leaf-pushed from count before middle after first second =
    pushed (first_leaves from count) (leaf from count ∷ []) before middle after first second
    ∙ ap (λ (l : List ℕ). before ++ table_bytes l) (sym (one_leaf_more from count))

-- Empty entries are put behind 128 leaves.
pub end-pushed : (from count : ℕ) (before middle after : List ℕ) → count ≡ 128 → middle ≡ before ++ table_bytes (first_leaves from count)
    → after ≡ middle ++ table_bytes (empty 384) → after ≡ before ++ table_bytes (leaves from)
unfolding leaves
end-pushed from count before middle after is first second =
    pushed (first_leaves from 128) (empty 384) before middle after (first ∙ ap (λ (n : ℕ). before ++ table_bytes (first_leaves from n)) is) second

two_empty : empty 2 ≡ 0 ∷ 0 ∷ []
unfolding empty
two_empty = refl

pub partition_table-parts : empty 2 ++ (0x800000000000000A + base 1) ∷ [] ++ empty 1 ++ (0x800000000000000A + base 2) ∷ [] ++ empty 1 ≡ partition_table
unfolding empty partition_table
partition_table-parts = refl

pub partition_tree-parts : (guest : ℕ) → (0x8000000000000009 + base guest + 0x2000) ∷ empty 1023 ++ leaves (base guest + 0x10000) ≡ partition_tree guest
unfolding partition_tree
partition_tree-parts guest = refl

pub process_tables-parts : empty 2 ++ 0x200A ∷ [] ++ empty 1021 ++ 0x8000000000004009 ∷ [] ++ empty 1023 ++ leaves 0 ≡ process_tables
unfolding process_tables
process_tables-parts =
    ap (λ (two : List ℕ). two ++ 0x200A ∷ [] ++ empty 1021 ++ 0x8000000000004009 ∷ [] ++ empty 1023 ++ leaves 0) two_empty
    ∙ ap (λ (l : List ℕ). 0 ∷ 0 ∷ 0x200A ∷ (l ++ leaves 0)) (append_assoc (empty 1021) (0x8000000000004009 ∷ []) (empty 1023))

length-empty : (count : ℕ) → length (empty count) ≡ count
unfolding empty
length-empty count = length-replicate count 0

length-first_leaves : (from count : ℕ) → length (first_leaves from count) ≡ count
unfolding first_leaves
length-first_leaves from count = length-map-range_with_len (leaf from) 0 count

length-leaves : (from : ℕ) → length (leaves from) ≡ 512
unfolding leaves
length-leaves from = omega (arith, length-append (first_leaves from 128) (empty 384), length-first_leaves from 128, length-empty 384)

pub length-partition_table : length (table_bytes partition_table) ≡ 48
unfolding partition_table
length-partition_table = length-table_bytes partition_table

pub length-partition_tree : (guest : ℕ) → length (table_bytes (partition_tree guest)) ≡ 0x3000
unfolding partition_tree
length-partition_tree guest =
    omega (arith, length-table_bytes (partition_tree guest), length-append (empty 1023) (leaves (base guest + 0x10000)), length-empty 1023, length-leaves (base guest + 0x10000))

pub length-process_tables : length (table_bytes process_tables) ≡ 0x5000
unfolding process_tables
length-process_tables =
    omega
    (arith, length-table_bytes process_tables, length-append (empty 1021 ++ 0x8000000000004009 ∷ empty 1023) (leaves 0), length-append (empty 1021) (0x8000000000004009 ∷ empty 1023), length-empty 1021, length-empty 1023, length-leaves 0)
