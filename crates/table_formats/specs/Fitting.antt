-- Which values fit the fields of table words.
use Rattle.std.specs.Prelude.{◌≡◌, ℕ, ◌%◌, ◌^◌, ◌<◌, ◌≤◌}
use Rattle.table_formats.specs.declared.entries.Entry.{Entry}
use Rattle.table_formats.specs.declared.entries.Entry.TheVariants.{Invalid, Directory, Leaf}
use Rattle.table_formats.specs.declared.roots.Root.{Root}

-- a multiple of 2 ^ zeros below 2 ^ top
abbrev pub IsAligned : ℕ → ℕ → ℕ → Type 0
IsAligned zeros top base = (base % 2 ^ zeros ≡ 0) × (base < 2 ^ top)

-- each value fits its field
abbrev pub Fits : Entry → Type 0
Fits Invalid = Unit {0}
Fits (Directory base size) = IsAligned 8 60 base × (size < 32)
Fits (Leaf page r c att eaa) = IsAligned 12 57 page × (att < 4) × (eaa < 16)

-- a root's values
pub record IsRoot (root : Root) : Type 0 where
  pub bits_from : 31 ≤ root.bits
  pub bits_to : root.bits ≤ 62
  pub base : IsAligned 8 60 root.base
  pub size : root.size < 32
