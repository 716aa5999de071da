-- The bits of the machine state register that this machine has (Power ISA, Book III, 3.2.1). Bit 0 is the highest of 64.
use Rattle.std.specs.Prelude.{ℕ}

-- 64-bit mode
abbrev pub sf : ℕ
sf = 0

-- hypervisor state
abbrev pub hv : ℕ
hv = 3

-- external interrupts are enabled
abbrev pub ee : ℕ
ee = 48

-- problem state
abbrev pub pr : ℕ
pr = 49

-- machine checks are enabled
abbrev pub me : ℕ
me = 51

-- instructions are fetched with relocation
abbrev pub ir : ℕ
ir = 58

-- data are accessed with relocation
abbrev pub dr : ℕ
dr = 59

-- an interrupt can be recovered from
abbrev pub ri : ℕ
ri = 62

-- little-endian storage
abbrev pub le : ℕ
le = 63
