-- Comparisons (Power ISA, Book I, 3.3.10).
use Rattle.std.specs.Prelude.{◌≡◌, ℕ, ◌*◌, ◌==◌, nat_le, ℤ, pos, int_lt, Bool, true, false, ◌&&◌, ◌||◌, if◌then◌else◌}
use Rattle.std.specs.Ordering.{int_eq}
use Rattle.ppc_bits.specs.Bits.{field_of, low, signed_of, low_signed}
use Rattle.ppc_ops.specs.declared.op.Op.{Op}
use Rattle.ppc_ops.specs.declared.op.Op.TheVariants.{Cmpi, Cmpli, Cmp, Cmpl, Cmprb, Cmpeqb}
use Rattle.ppc_ops.specs.declared.insn.Insn.{Insn}
use Rattle.ppc_ops.specs.declared.insn.Insn.TheVariants as insn
use Rattle.ppc_ops.specs.declared.results.Xer.{Xer}
use Rattle.ppc_ops.specs.Results.{one, field_of_order}

-- comparisons with an immediate, of two registers, and of bytes
abbrev pub is_compare : Insn → Bool
is_compare (insn.CmpImm op bf wide ra value) = true
is_compare (insn.Cmp op bf wide ra rb) = true
is_compare (insn.CmpByte op bf two ra rb) = true
is_compare other = false

abbrev pub IsCompare : Insn → Type 0
IsCompare i = is_compare i ≡ true

-- The last line of each definition by operations is for those of other layouts. No instruction of this layout has one, so
-- it says nothing of any.

-- the number that is compared: that of the doubleword where `wide`, else that of the low word
abbrev pub signed_number : Bool → ℕ → ℤ
signed_number wide v = if wide then signed_of 64 v else low_signed 32 v

abbrev pub unsigned_number : Bool → ℕ → ℤ
unsigned_number wide v = pos (if wide then v else low 32 v)

-- less, greater or equal, and then the summary overflow
abbrev pub order_of : ℤ → ℤ → Bool → ℕ
order_of x y so = field_of_order (int_lt x y) (int_eq x y) so

abbrev pub immediate_order : Op → Bool → ℕ → ℤ → Bool → ℕ
immediate_order Cmpi wide a value so = order_of (signed_number wide a) value so
immediate_order Cmpli wide a value so = order_of (unsigned_number wide a) value so
immediate_order other wide a value so = 0

abbrev pub registers_order : Op → Bool → ℕ → ℕ → Bool → ℕ
registers_order Cmp wide a b so = order_of (signed_number wide a) (signed_number wide b) so
registers_order Cmpl wide a b so = order_of (unsigned_number wide a) (unsigned_number wide b) so
registers_order other wide a b so = 0

-- byte v lies from low to high
abbrev pub is_from : ℕ → ℕ → ℕ → Bool
is_from low high v = nat_le low v && nat_le v high

-- byte v lies in the range of the lowest two bytes of b, or with `two` in that of the next two
abbrev pub is_in_ranges : Bool → ℕ → ℕ → Bool
is_in_ranges two v b =
    is_from (field_of 64 b 56 63) (field_of 64 b 48 55) v || (two && is_from (field_of 64 b 40 47) (field_of 64 b 32 39) v)

-- byte v is a byte of b
abbrev pub is_byte_of : ℕ → ℕ → Bool
is_byte_of v b =
    v == field_of 64 b 0 7 || (v == field_of 64 b 8 15 || (v == field_of 64 b 16 23 || (v == field_of 64 b 24 31
    || (v == field_of 64 b 32 39 || (v == field_of 64 b 40 47 || (v == field_of 64 b 48 55 || v == field_of 64 b 56 63))))))

-- the field's second bit tells that the byte was found; its other bits are 0
abbrev pub found : Bool → ℕ
found there = one there * 4

abbrev pub bytes_order : Op → Bool → ℕ → ℕ → ℕ
bytes_order Cmprb two a b = found (is_in_ranges two (field_of 64 a 56 63) b)
bytes_order Cmpeqb two a b = found (is_byte_of (field_of 64 a 56 63) b)
bytes_order other two a b = 0

-- The condition field after the comparison: a is the value of RA, b that of RB, which no comparison with an immediate has.
-- The last line is for instructions of other layouts, for which no call is made.
unfoldable pub compare_of : Insn → ℕ → ℕ → Xer → ℕ
compare_of (insn.CmpImm op bf wide ra value) a b xer = immediate_order op wide a value xer.so
compare_of (insn.Cmp op bf wide ra rb) a b xer = registers_order op wide a b xer.so
compare_of (insn.CmpByte op bf two ra rb) a b xer = bytes_order op two a b
compare_of other a b xer = 0
