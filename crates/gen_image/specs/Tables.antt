-- The tables of a generated image, of doublewords that are big-endian.
use Rattle.std.specs.Prelude.{ℕ, ◌+◌, ◌*◌, List, [], ◌∷◌, ◌++◌, flat_map, map, replicate}
use Rattle.std.specs.Int.{bytes_high_first}
use Rattle.std.specs.List.{range_with_len}

-- the bytes of doublewords, the highest byte of each first
unfoldable pub table_bytes : List ℕ → List ℕ
table_bytes doublewords = flat_map (bytes_high_first 8) doublewords

-- where the storage of a guest lies
abbrev pub base : ℕ → ℕ
base guest = guest * 0x100000

-- The partition table: entry 0 is empty, and those of guests 1 and 2 say where their roots lie. Each entry has two doublewords, of
-- which the second is 0.
unfoldable pub partition_table : List ℕ
partition_table = 0 ∷ 0 ∷ (0x800000000000000A + base 1) ∷ 0 ∷ (0x800000000000000A + base 2) ∷ 0 ∷ []

-- entries that are 0
unfoldable pub empty : ℕ → List ℕ
empty count = replicate count 0

-- the leaf of a page, of those from an address on: the page is read and written by all
abbrev pub leaf : ℕ → ℕ → ℕ
leaf from page = 0xC000000000000187 + from + 0x1000 * page

-- the leaves of so many pages from an address on
unfoldable pub first_leaves : ℕ → ℕ → List ℕ
first_leaves from count = map (leaf from) (range_with_len 0 count)

-- the leaves of 128 pages from an address on, and then empty entries up to 512
unfoldable pub leaves : ℕ → List ℕ
leaves from = first_leaves from 128 ++ empty 384

-- the partition-scoped tree of a guest: a root of 1024 entries, and behind it a table of the guest's pages
unfoldable pub partition_tree : ℕ → List ℕ
partition_tree guest = (0x8000000000000009 + base guest + 0x2000) ∷ empty 1023 ++ leaves (base guest + 0x10000)

-- the guest's own tables in its pages 0 to 4: at 10 the entry of process 1, at 2000 the root of that process, and at 4000 a table of
-- its pages, each at the same address
unfoldable pub process_tables : List ℕ
process_tables = 0 ∷ 0 ∷ 0x200A ∷ empty 1021 ++ 0x8000000000004009 ∷ empty 1023 ++ leaves 0
