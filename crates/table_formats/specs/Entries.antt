-- What the doublewords of radix tables mean, each field as a quotient: bit 0 is the highest (Power ISA, Book III, 5.7).
use Rattle.std.specs.Prelude.{ℕ, ◌+◌, ◌-◌, ◌*◌, ◌^◌, ◌==◌, ◌&&◌, Bool, true, false, if◌then◌else◌}
use Rattle.ppc_bits.specs.Bits.{field_of, is_set}
use Rattle.table_formats.specs.declared.entries.Entry.{Entry}
use Rattle.table_formats.specs.declared.entries.Entry.TheVariants.{Invalid, Directory, Leaf}
use Rattle.table_formats.specs.declared.roots.Root.{Root}

-- ---- tables: a base with its low zeros, and a size

-- the table that a root or a directory names: its base
abbrev pub base_of : ℕ → ℕ
base_of w = field_of 64 w 4 55 * 2 ^ 8

-- how many bits of an address index it; a table of partitions or processes has 2 ^ (12 + size) bytes
abbrev pub size_of : ℕ → ℕ
size_of w = field_of 64 w 59 63

-- the base of a table of partitions or processes
abbrev pub list_base : ℕ → ℕ
list_base w = field_of 64 w 4 51 * 2 ^ 12

-- ---- roots

-- a partition is one of radix trees: HR
abbrev pub is_radix : ℕ → Bool
is_radix w = is_set 64 w 0

-- how many bits of an address a root translates: RTS, which is bits 1:2 followed by bits 56:58, and 31
abbrev pub root_bits : ℕ → ℕ
root_bits w = field_of 64 w 1 2 * 8 + field_of 64 w 56 58 + 31

abbrev pub root_of : ℕ → Root
root_of w = record { bits = root_bits w; base = base_of w; size = size_of w }

-- ---- entries of trees

-- a valid entry that is a leaf
abbrev pub is_leaf : ℕ → Bool
is_leaf w = is_set 64 w 0 && is_set 64 w 1

-- the page of a leaf
abbrev pub page_of : ℕ → ℕ
page_of w = field_of 64 w 7 51 * 2 ^ 12

-- the page that a doubleword means as a leaf, with its R, its C, its ATT and its EAA
abbrev pub leaf_of : ℕ → Entry
leaf_of w = Leaf (page_of w) (is_set 64 w 55) (is_set 64 w 56) (field_of 64 w 58 59) (field_of 64 w 60 63)

-- every doubleword is an entry
unfoldable pub entry_of : ℕ → Entry
entry_of w =
    if field_of 64 w 0 0 == 0 then Invalid
    else if is_leaf w then leaf_of w
    else Directory (base_of w) (size_of w)

-- ---- the doubleword of an entry

-- what bit i of a doubleword is worth where it is 1
abbrev pub weight : ℕ → ℕ
weight i = 2 ^ (63 - i)

-- what it is worth where it is 1 or not
abbrev pub flag : ℕ → Bool → ℕ
flag i false = 0
flag i true = weight i

-- bit 0: it is valid; bit 1: it is a leaf
unfoldable pub word_of : Entry → ℕ
word_of Invalid = 0
word_of (Directory base size) = weight 0 + base + size
word_of (Leaf page r c att eaa) = weight 0 + weight 1 + page + flag 55 r + flag 56 c + att * weight 59 + eaa

-- ---- bits that no field names

-- what the bits from a to b are worth in a doubleword
abbrev pub worth : ℕ → ℕ → ℕ → ℕ
worth w a b = field_of 64 w a b * weight b

-- of a directory bits 2:3 and 56:58, of a leaf bits 2:6, 52:54 and 57
abbrev pub ignored : ℕ → ℕ
ignored w = if is_leaf w then worth w 2 6 + worth w 52 54 + worth w 57 57 else worth w 2 3 + worth w 56 58

-- the word with the bits that no field names cleared: of an invalid word all
abbrev pub named : ℕ → ℕ
named w = if field_of 64 w 0 0 == 0 then 0 else w - ignored w
