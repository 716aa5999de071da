-- Traps (Power ISA, Book I, 3.3.11).
use Rattle.std.specs.Prelude.{◌≡◌, ℕ, ◌==◌, nat_lt, ℤ, int_lt, Bool, true, false, ◌&&◌, ◌||◌}
use Rattle.ppc_bits.specs.Bits.{is_set, low, signed_of, modulo}
use Rattle.ppc_ops.specs.declared.op.Op.{Op}
use Rattle.ppc_ops.specs.declared.op.Op.TheVariants.{Tdi, Twi, Tw, Td}
use Rattle.ppc_ops.specs.declared.insn.Insn.{Insn}
use Rattle.ppc_ops.specs.declared.insn.Insn.TheVariants as insn

-- traps by a register and an immediate, and by two registers
abbrev pub is_trap : Insn → Bool
is_trap (insn.TrapImm op to ra si) = true
is_trap (insn.Trap op to ra rb) = true
is_trap other = false

abbrev pub IsTrap : Insn → Type 0
IsTrap i = is_trap i ≡ true

-- bit 0 of the five bits TO asks for signed less and it holds, or bit 1 asks for signed greater and it holds
abbrev pub has_signed_order : ℕ → ℤ → ℤ → Bool
has_signed_order to x y = (is_set 5 to 0 && int_lt x y) || (is_set 5 to 1 && int_lt y x)

-- bits 3 and 4 ask the same for unsigned less and unsigned greater
abbrev pub has_unsigned_order : ℕ → ℕ → ℕ → Bool
has_unsigned_order to a b = (is_set 5 to 3 && nat_lt a b) || (is_set 5 to 4 && nat_lt b a)

-- numbers a and b of w bits have an order that TO asks for, or are equal where bit 2 asks for that
abbrev pub has_order : ℕ → ℕ → ℕ → ℕ → Bool
has_order w to a b =
    has_signed_order to (signed_of w a) (signed_of w b) || ((is_set 5 to 2 && a == b) || has_unsigned_order to a b)

abbrev pub words_trap : ℕ → ℕ → ℕ → Bool
words_trap to a b = has_order 32 to (low 32 a) (low 32 b)

abbrev pub doublewords_trap : ℕ → ℕ → ℕ → Bool
doublewords_trap to a b = has_order 64 to a b

-- The last line of each definition by operations is for those of other layouts. No instruction of this layout has one, so
-- it says nothing of any.

abbrev pub immediate_traps : Op → ℕ → ℕ → ℤ → Bool
immediate_traps Twi to a si = words_trap to a (modulo 64 si)
immediate_traps Tdi to a si = doublewords_trap to a (modulo 64 si)
immediate_traps other to a si = false

abbrev pub registers_trap : Op → ℕ → ℕ → ℕ → Bool
registers_trap Tw to a b = words_trap to a b
registers_trap Td to a b = doublewords_trap to a b
registers_trap other to a b = false

-- Whether the instruction traps: a is the value of RA, b that of RB, which no trap by an immediate has. The last line is
-- for instructions of other layouts, for which no call is made.
unfoldable pub trap_of : Insn → ℕ → ℕ → Bool
trap_of (insn.TrapImm op to ra si) a b = immediate_traps op to a si
trap_of (insn.Trap op to ra rb) a b = registers_trap op to a b
trap_of other a b = false
