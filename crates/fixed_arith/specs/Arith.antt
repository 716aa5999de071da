-- What each arithmetic instruction leaves (Power ISA, Book I, 3.3.9).
use Rattle.std.specs.Prelude.{ℕ, ◌+◌, ◌-◌, ◌*◌, ◌%◌, ◌^◌, ℤ, pos, ◌+ℤ◌, ◌*ℤ◌, Bool, true, false, IsTrue}
use Rattle.ppc_bits.specs.Bits.{low, low_signed, modulo}
use Rattle.ppc_ops.specs.declared.op.Op.{Op}
use Rattle.ppc_ops.specs.declared.op.Op.TheVariants.{Addi, Addis, Addic, AddicDot, Subfic, Mulli, Add, Subf, Addc, Subfc, Adde, Subfe, Addme, Subfme, Addze, Subfze, Neg, Mullw, Mulld, Divw, Divwu, Divd, Divdu, Divwe, Divweu, Divde, Divdeu, Mulhw, Mulhwu, Mulhd, Mulhdu, Modsw, Moduw, Modsd, Modud, Maddhd, Maddhdu, Maddld}
use Rattle.ppc_ops.specs.declared.insn.Insn.{Insn}
use Rattle.ppc_ops.specs.declared.insn.Insn.TheVariants as insn
use Rattle.ppc_ops.specs.declared.results.Xer.{Xer}
use Rattle.ppc_ops.specs.declared.results.ArithOut.{ArithOut}
use Rattle.ppc_ops.specs.Results.{one}
use Rattle.fixed_arith.specs.Outcomes.{plain, outcome}
use Rattle.fixed_arith.specs.Sums.{not_of, sum, carrying_sum}
use Rattle.fixed_arith.specs.Products.{product, high_half}
use Rattle.fixed_arith.specs.Quotients.{signed_quotient, unsigned_quotient, divided, remainder}
use Rattle.fixed_arith.specs.declared.outcomes.Computation.{Computation}

-- Each definition by operations ends with a line for the operations of other layouts. A form never has one of these:
-- the line says nothing of any instruction, and the code proves that it is not reached.

-- what an operation of a register and an immediate computes
abbrev pub immediate_of : Op → ℕ → ℤ → Computation
immediate_of Addi a si = sum a (modulo 64 si) 0
immediate_of Addis a si = sum a (modulo 64 (si *ℤ pos (2 ^ 16))) 0
immediate_of Addic a si = carrying_sum a (modulo 64 si) 0
immediate_of AddicDot a si = carrying_sum a (modulo 64 si) 0
immediate_of Subfic a si = carrying_sum (not_of a) (modulo 64 si) 1
immediate_of Mulli a si = product 64 (low_signed 64 a *ℤ si)
immediate_of other a si = plain 0

-- addic. alone of these records CR0
abbrev pub records_always : Op → Bool
records_always AddicDot = true
records_always other = false

-- what an operation of two registers and the carry CA computes
abbrev pub registers_of : Op → ℕ → ℕ → ℕ → Computation
registers_of Add a b ca = sum a b 0
registers_of Subf a b ca = sum (not_of a) b 1
registers_of Addc a b ca = carrying_sum a b 0
registers_of Subfc a b ca = carrying_sum (not_of a) b 1
registers_of Adde a b ca = carrying_sum a b ca
registers_of Subfe a b ca = carrying_sum (not_of a) b ca
registers_of Addme a b ca = carrying_sum a (2 ^ 64 - 1) ca
registers_of Subfme a b ca = carrying_sum (not_of a) (2 ^ 64 - 1) ca
registers_of Addze a b ca = carrying_sum a 0 ca
registers_of Subfze a b ca = carrying_sum (not_of a) 0 ca
registers_of Neg a b ca = sum (not_of a) 0 1
registers_of Mullw a b ca = product 32 (low_signed 32 a *ℤ low_signed 32 b)
registers_of Mulld a b ca = product 64 (low_signed 64 a *ℤ low_signed 64 b)
registers_of Divw a b ca = divided 32 (signed_quotient 32 (low_signed 32 a) (low_signed 32 b))
registers_of Divwu a b ca = divided 32 (unsigned_quotient 32 (pos (low 32 a)) (pos (low 32 b)))
registers_of Divd a b ca = divided 64 (signed_quotient 64 (low_signed 64 a) (low_signed 64 b))
registers_of Divdu a b ca = divided 64 (unsigned_quotient 64 (pos a) (pos b))
registers_of Divwe a b ca = divided 32 (signed_quotient 32 (low_signed 32 a *ℤ pos (2 ^ 32)) (low_signed 32 b))
registers_of Divweu a b ca = divided 32 (unsigned_quotient 32 (pos (low 32 a * 2 ^ 32)) (pos (low 32 b)))
registers_of Divde a b ca = divided 64 (signed_quotient 64 (low_signed 64 a *ℤ pos (2 ^ 64)) (low_signed 64 b))
registers_of Divdeu a b ca = divided 64 (unsigned_quotient 64 (pos (a * 2 ^ 64)) (pos b))
registers_of other a b ca = plain 0

-- the high half of the product of two registers; that of words stands under zeros
abbrev pub high_of : Op → ℕ → ℕ → ℕ
high_of Mulhw a b = high_half 32 (low_signed 32 a *ℤ low_signed 32 b)
high_of Mulhwu a b = high_half 32 (pos (low 32 a * low 32 b))
high_of Mulhd a b = high_half 64 (low_signed 64 a *ℤ low_signed 64 b)
high_of Mulhdu a b = high_half 64 (pos (a * b))
high_of other a b = 0

-- the remainder of two registers; that of words stands under zeros, and that of the least number by -1 is 0
abbrev pub remainder_of : Op → ℕ → ℕ → ℕ
remainder_of Modsw a b = modulo 32 (remainder (low_signed 32 a) (low_signed 32 b))
remainder_of Moduw a b = modulo 32 (remainder (pos (low 32 a)) (pos (low 32 b)))
remainder_of Modsd a b = modulo 64 (remainder (low_signed 64 a) (low_signed 64 b))
remainder_of Modud a b = modulo 64 (remainder (pos a) (pos b))
remainder_of other a b = 0

-- half of the sum of a product and a third register
abbrev pub multiply_add_of : Op → ℕ → ℕ → ℕ → ℕ
multiply_add_of Maddhd a b c = high_half 64 (low_signed 64 a *ℤ low_signed 64 b +ℤ low_signed 64 c)
multiply_add_of Maddhdu a b c = high_half 64 (pos (a * b + c))
multiply_add_of Maddld a b c = (a * b + c) % 2 ^ 64
multiply_add_of other a b c = 0

-- the instruction is of a layout of sums, products or quotients
abbrev pub is_arithmetic : Insn → Bool
is_arithmetic (insn.AddImm op rt ra si) = true
is_arithmetic (insn.AddPc rt d) = true
is_arithmetic (insn.Arith op rt ra rb oe rc) = true
is_arithmetic (insn.MulHigh op rt ra rb rc) = true
is_arithmetic (insn.Modulo op rt ra rb) = true
is_arithmetic (insn.MulAdd op rt ra rb third) = true
is_arithmetic other = false

abbrev pub IsArithmetic : Insn → Type 0
IsArithmetic i = IsTrue (is_arithmetic i)

-- what an instruction leaves, where its registers have the values a, b and c: a is that of RA, 0 for addi and addis
-- whose RA is 0, and the next instruction's address for addpcis; b is that of RB, and c that of the third register.
-- The last line is for instructions that are not arithmetic, and says nothing of them: no call is made for one.
unfoldable pub arith_of : Insn → ℕ → ℕ → ℕ → Xer → ArithOut
arith_of (insn.AddImm op rt ra si) a b c xer = outcome false (records_always op) xer (immediate_of op a si)
arith_of (insn.AddPc rt d) a b c xer = outcome false false xer (sum a (modulo 64 (d *ℤ pos (2 ^ 16))) 0)
arith_of (insn.Arith op rt ra rb oe rc) a b c xer = outcome oe rc xer (registers_of op a b (one xer.ca))
arith_of (insn.MulHigh op rt ra rb rc) a b c xer = outcome false rc xer (plain (high_of op a b))
arith_of (insn.Modulo op rt ra rb) a b c xer = outcome false false xer (plain (remainder_of op a b))
arith_of (insn.MulAdd op rt ra rb third) a b c xer = outcome false false xer (plain (multiply_add_of op a b c))
arith_of other a b c xer = outcome false false xer (plain 0)
