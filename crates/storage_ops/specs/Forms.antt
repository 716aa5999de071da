-- What a load or store of a register moves.
use Rattle.std.specs.Prelude.{ℕ, ◌*◌, ◌%◌, ◌^◌, true, false, if◌then◌else◌}
use Rattle.ppc_bits.specs.Bits.{low_signed, modulo}
use Rattle.journal_core.specs.Bytes.{le_bytes, be_value}
use Rattle.storage_ops.specs.declared.forms.AccessForm.{AccessForm}

-- a load of so many bytes, which are extended by zeros
abbrev pub loads : ℕ → AccessForm
loads size = record { size = size; store = false; signed = false; reversed = false; update = false; inhibited = false; reserved = false }

-- a store of so many bytes, the lowest ones of a register
abbrev pub stores : ℕ → AccessForm
stores size = record (loads size) { store = true }

-- the highest bit that is loaded is the number's sign
abbrev pub with_sign : AccessForm → AccessForm
with_sign form = record form { signed = true }

-- the bytes are taken in the other order
abbrev pub in_reverse : AccessForm → AccessForm
in_reverse form = record form { reversed = true }

-- the effective address is put into RA
abbrev pub with_update : AccessForm → AccessForm
with_update form = record form { update = true }

-- caches are not used
abbrev pub past_caches : AccessForm → AccessForm
past_caches form = record form { inhibited = true }

-- a reservation is made or asked for
abbrev pub with_reservation : AccessForm → AccessForm
with_reservation form = record form { reserved = true }

-- the number of so many bytes whose bytes stand in the other order
abbrev pub reversed_bytes : ℕ → ℕ → ℕ
reversed_bytes size value = be_value (le_bytes size value) 0

-- the number of some bytes in the order of the form
abbrev pub ordered : AccessForm → ℕ → ℕ
ordered form value = if form.reversed then reversed_bytes form.size value else value

-- the doubleword for a number of some bytes: extended by zeros, or by its sign
abbrev pub extended : AccessForm → ℕ → ℕ
extended form value = if form.signed then modulo 64 (low_signed (8 * form.size) value) else value

-- what a load puts into its register, for the little-endian number of the bytes
abbrev pub loaded : AccessForm → ℕ → ℕ
loaded form value = extended form (ordered form value)

-- the little-endian number of the bytes that a store takes from its register
abbrev pub sent : AccessForm → ℕ → ℕ
sent form value = ordered form (value % 256 ^ form.size)
