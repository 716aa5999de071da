-- The values that the logical partitioning control register of this machine may have (Power ISA, Book III, 2.2): interrupts
-- are taken little-endian, processes and partitions have radix tables, and interrupts switch relocation off.
use Rattle.std.specs.Prelude.{ℕ, Bool, List, [], ◌∷◌}
use Rattle.ppc_bits.specs.Bits.{is_set}
use Rattle.ppc_spr.specs.FixedBits as fixed

-- interrupts are taken little-endian
abbrev pub ile : ℕ
ile = 38

-- processes have tables
abbrev pub uprt : ℕ
uprt = 41

-- the hypervisor's own tables are radix trees
abbrev pub hr : ℕ
hr = 43

-- a guest may make invalidations that reach all threads
abbrev pub gtse : ℕ
gtse = 53

-- the hypervisor decrementer's interrupt is enabled
abbrev pub hdice : ℕ
hdice = 63

-- the bits that are 1
abbrev pub ones : List ℕ
ones = ile ∷ uprt ∷ hr ∷ []

-- the bits that may be 0 and 1
abbrev pub free : List ℕ
free = gtse ∷ hdice ∷ []

-- Each bit is one that it may be: ILE, UPRT and HR are 1, GTSE and HDICE may be either, and all others are 0, among them AIL
-- in 39 and 40, by which interrupts would keep relocation on.
abbrev pub is_in_profile : ℕ → Bool
is_in_profile v = fixed.has_fixed ones free v

-- GTSE is 1: the hypervisor has left its guests such invalidations
abbrev pub leaves_invalidations : ℕ → Bool
leaves_invalidations lpcr = is_set 64 lpcr gtse
