-- Words of 32 bits of which the code makes new values of the condition register. No public contract cites them.
use Rattle.std.specs.Prelude.{ℕ, ◌/◌, ◌%◌, ◌==◌, if◌then◌else◌}
use Rattle.ppc_bits.specs.Bits.{bit, is_set, word_of}

-- bit i of `new` where the mask has a 1 there, of `old` elsewhere
abbrev pub merged : ℕ → ℕ → ℕ → ℕ
merged mask new old = word_of 32 (λ i. if is_set 32 mask i then bit 32 new i else bit 32 old i)

-- a one in bit n
abbrev pub bit_mask : ℕ → ℕ
bit_mask n = word_of 32 (λ i. if i == n then 1 else 0)

-- ones in field n
abbrev pub field_mask : ℕ → ℕ
field_mask n = word_of 32 (λ i. if i / 4 == n then 1 else 0)

-- ones in each field whose bit of fxm is 1
abbrev pub fields_mask : ℕ → ℕ
fields_mask fxm = word_of 32 (λ i. bit 8 fxm (i / 4))

-- the bit x in each place
abbrev pub repeated_bit : ℕ → ℕ
repeated_bit x = word_of 32 (λ i. x)

-- the four bits of a field in each field
abbrev pub repeated_field : ℕ → ℕ
repeated_field field = word_of 32 (λ i. bit 4 field (i % 4))
