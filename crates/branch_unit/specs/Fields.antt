-- The condition register: 32 bits, which are eight fields of four (Power ISA, Book I, 2.3.1).
use Rattle.std.specs.Prelude.{ℕ, ◌+◌, ◌*◌, ◌/◌, ◌%◌, ◌==◌, if◌then◌else◌}
use Rattle.ppc_bits.specs.Bits.{bit, is_set, field_of, word_of}

-- field n: the bits from 4 n to 4 n + 3
abbrev pub cr_field : ℕ → ℕ → ℕ
cr_field cr n = field_of 32 cr (4 * n) (4 * n + 3)

-- the register with the number `field` in field bf: bit i is in field i / 4, where it is bit i % 4
abbrev pub with_field : ℕ → ℕ → ℕ → ℕ
with_field cr bf field = word_of 32 (λ i. if i / 4 == bf then bit 4 field (i % 4) else bit 32 cr i)

-- what mtcrf and mtocrf leave: each field whose bit of fxm is 1 from the low word of rs, the others kept
abbrev pub moved_fields : ℕ → ℕ → ℕ → ℕ
moved_fields fxm rs cr = word_of 32 (λ i. if is_set 8 fxm (i / 4) then bit 64 rs (i + 32) else bit 32 cr i)

-- the fields whose bit of fxm is 1 in their places, and zeros elsewhere
abbrev pub fields_of : ℕ → ℕ → ℕ
fields_of fxm cr = word_of 32 (λ i. if is_set 8 fxm (i / 4) then bit 32 cr i else 0)
