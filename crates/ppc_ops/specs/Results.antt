-- What instructions leave beside a value.
use Rattle.std.specs.Prelude.{ℕ, ◌+◌, ◌-◌, ◌*◌, ◌^◌, ◌==◌, pos, int_lt, Bool, true, false, if◌then◌else◌}
use Rattle.ppc_bits.specs.Bits.{is_set, signed_of}
use Rattle.ppc_ops.specs.declared.results.Xer.{Xer}

abbrev pub one : Bool → ℕ
one true = 1
one false = 0

-- a field of the condition register: the first of four bits is less, then greater, equal, and summary overflow
abbrev pub field_of_order : Bool → Bool → Bool → ℕ
field_of_order less equal so = (if less then 8 else (if equal then 2 else 4)) + one so

-- the signed value against 0, then SO
abbrev pub record_of : ℕ → Bool → ℕ
record_of value so = field_of_order (int_lt (signed_of 64 value) (pos 0)) (value == 0) so

-- the weight of bit i of a register of 64 bits, where it is 1
abbrev pub weight : Bool → ℕ → ℕ
weight b i = one b * 2 ^ (63 - i)

-- the bits of the exception register that are kept: SO, OV and CA are bits 32 to 34, OV32 and CA32 bits 44 and 45
abbrev pub xer_of : ℕ → Xer
xer_of n = record { so = is_set 64 n 32; ov = is_set 64 n 33; ca = is_set 64 n 34; ov32 = is_set 64 n 44; ca32 = is_set 64 n 45 }

-- the register with these bits, and zeros elsewhere
abbrev pub xer_number : Xer → ℕ
xer_number x = weight x.so 32 + (weight x.ov 33 + (weight x.ca 34 + (weight x.ov32 44 + weight x.ca32 45)))
