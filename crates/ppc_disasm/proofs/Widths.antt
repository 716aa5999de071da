-- The text of a form is short.
use Rattle.std.proofs.Common.{◌≡◌, ℕ, zero, suc, ◌+◌, ◌-◌, ◌%◌, ◌^◌, ◌≤◌, Bool, true, false, leb, List, [], ◌∷◌, ◌++◌, length, drop, ℤ, pos, negsuc, refl, arith, length-append}
use Rattle.std.specs.Prelude.{codes}
use Rattle.std.specs.Fmt.{decimal, signed_decimal}
use Rattle.std.proofs.lemmas.Fmt.{length-decimal-le}
use Rattle.std.proofs.lemmas.Bool.Decides.{nat_tests}
use Rattle.ppc_bits.specs.Bits.{modulo}
use Rattle.ppc_ops.specs.declared.op.Op.{Op}
use Rattle.ppc_ops.specs.declared.insn.Insn.{Insn}
use Rattle.ppc_ops.specs.Fitting.{FitsFields}
use Rattle.ppc_ops.specs.Table.{name_of}
use Rattle.ppc_ops.proofs.Listed.{each}
use Rattle.operand_texts.specs.declared.kinds.OperandText.{OperandText}
use Rattle.operand_texts.specs.declared.kinds.OperandText.TheVariants as texts
use Rattle.operand_texts.specs.declared.mnemonic.Mnemonic.{Mnemonic}
use Rattle.operand_texts.specs.Operands.{operand_texts}
use Rattle.ppc_disasm.specs.Forms.{mnemonic_of, values_of}
use Rattle.ppc_disasm.specs.Texts.{where_set, mnemonic_text, register_text, register_or_zero_text, displacement_text, distance_text, target_text, value_at, value_count, operand_text, operands_text, insn_text}
use Rattle.ppc_disasm.proofs.Fitting.{IsBelow, IsWithin, FitsKind, FitKinds}
use Rattle.ppc_disasm.proofs.LayoutsFit.{values_fit}

-- how many bytes an operand of a kind has at most
abbrev pub width : OperandText → ℕ
width (texts.Register field) = 3
width (texts.RegisterOrZero field) = 3
width (texts.Number field) = 5
width (texts.Signed field) = 6
width texts.Displacement = 11
width texts.DisplacementOrZero = 11
width (texts.Target field) = 20

-- the same of operands with the byte before each
abbrev pub widths : List OperandText → ℕ
widths [] = 0
widths (kind ∷ kinds) = 1 + width kind + widths kinds

register-short : (z : ℤ) → IsBelow 32 z → length (register_text z) ≤ 3
register-short (pos n) lt = let e = length-decimal-le 2 n (omega arith) (omega arith) (omega arith) in omega arith
register-short (negsuc n) lt = absurd lt

register_or_zero-short : (z : ℤ) → IsBelow 32 z → length (register_or_zero_text z) ≤ 3
register_or_zero-short (pos zero) lt = omega arith
register_or_zero-short (pos (suc n)) lt = register-short (pos (suc n)) lt
register_or_zero-short (negsuc n) lt = absurd lt

number-short : (z : ℤ) → IsBelow 65536 z → length (signed_decimal z) ≤ 5
number-short (pos n) lt = length-decimal-le 5 n (omega arith) (omega arith) (omega arith)
number-short (negsuc n) lt = absurd lt

signed-short : (z : ℤ) → IsWithin 32768 z → length (signed_decimal z) ≤ 6
signed-short (pos n) lt = let e = length-decimal-le 5 n (omega arith) (omega arith) (omega arith) in omega arith
signed-short (negsuc n) lt = let e = length-decimal-le 5 (suc n) (omega arith) (omega arith) (omega arith) in omega arith

displacement-short : (z : ℤ) (register : List ℕ) → IsWithin 32768 z → length register ≤ 3 → length (displacement_text z register) ≤ 11
displacement-short z register lt le =
    let d = signed-short z lt in
    omega (arith, length-append (signed_decimal z ++ codes "(" ++ register) (codes ")"), length-append (signed_decimal z ++ codes "(") register, length-append (signed_decimal z) (codes "("))

distance-short : (z : ℤ) → IsWithin 33554432 z → length (distance_text z) ≤ 20
distance-short (pos n) lt = let e = length-decimal-le 8 n (omega arith) (omega arith) (omega arith) in omega arith
distance-short (negsuc n) lt = let e = length-decimal-le 8 (suc n) (omega arith) (omega arith) (omega arith) in omega arith

address-short : (z : ℤ) → length (decimal (modulo 64 z)) ≤ 20
address-short (pos n) = length-decimal-le 20 (n % 2 ^ 64) (omega arith) (omega arith) (omega arith)
address-short (negsuc n) = length-decimal-le 20 (2 ^ 64 - 1 - n % 2 ^ 64) (omega arith) (omega arith) (omega arith)

target-short : (is_absolute : Bool) (z : ℤ) → IsWithin 33554432 z → length (target_text is_absolute z) ≤ 20
target-short true z lt = address-short z
target-short false z lt = distance-short z lt

operand-short : (is_absolute : Bool) (kind : OperandText) (vs : List ℤ) → FitsKind kind vs → length (operand_text is_absolute kind vs) ≤ width kind
operand-short is_absolute (texts.Register field) vs fit = register-short (value_at vs 0) fit
operand-short is_absolute (texts.RegisterOrZero field) vs fit = register_or_zero-short (value_at vs 0) fit
operand-short is_absolute (texts.Number field) vs fit = number-short (value_at vs 0) fit
operand-short is_absolute (texts.Signed field) vs fit = signed-short (value_at vs 0) fit
operand-short is_absolute texts.Displacement vs fit = displacement-short (value_at vs 0) (register_text (value_at vs 1)) fit.0 (register-short (value_at vs 1) fit.1)
operand-short is_absolute texts.DisplacementOrZero vs fit = displacement-short (value_at vs 0) (register_or_zero_text (value_at vs 1)) fit.0 (register_or_zero-short (value_at vs 1) fit.1)
operand-short is_absolute (texts.Target field) vs fit = target-short is_absolute (value_at vs 0) fit

operands-short : (is_absolute : Bool) (before : ℕ) (kinds : List OperandText) (vs : List ℤ) → FitKinds kinds vs → length (operands_text is_absolute before kinds vs) ≤ widths kinds
operands-short is_absolute before [] vs fit = omega arith
operands-short is_absolute before (kind ∷ kinds) vs fit =
    let one = operand-short is_absolute kind vs fit.0 in
    let rest = operands-short is_absolute 44 kinds (drop (value_count kind) vs) fit.1 in
    omega (arith, length-append (operand_text is_absolute kind vs) (operands_text is_absolute 44 kinds (drop (value_count kind) vs)))

mark-short : (is_set : Bool) (byte : ℕ) → length (where_set is_set (byte ∷ [])) ≤ 1
mark-short true byte = omega arith
mark-short false byte = omega arith

mnemonic-short : (m : Mnemonic) → length (mnemonic_text m) ≤ length (name_of m.op) + 4
mnemonic-short m =
    let name = name_of m.op in
    let o = where_set m.oe (codes "o") in
    let dot = where_set m.rc (codes ".") in
    let l = where_set m.lk (codes "l") in
    let a = where_set m.aa (codes "a") in
    omega (arith, length-append (name ++ o ++ dot ++ l) a, length-append (name ++ o ++ dot) l, length-append (name ++ o) dot, length-append name o, mark-short m.oe 111, mark-short m.rc 46, mark-short m.lk 108, mark-short m.aa 97)

abbrev is_short : Op → Bool
is_short op = leb (length (name_of op) + 4 + widths (operand_texts op)) 60

form-short : (op : Op) → length (name_of op) + 4 + widths (operand_texts op) ≤ 60
form-short op = below (length (name_of op) + 4 + widths (operand_texts op)) (each is_short refl op)
  where
    below : (n : ℕ) → leb n 60 ≡ true → n ≤ 60
    below n e = grind (arith, nat_tests)

-- an instruction's text has at most 60 bytes
pub insn-short : (i : Insn) → FitsFields i → length (insn_text i) ≤ 60
unfolding insn_text
insn-short i fits =
    let m = mnemonic_of i in
    let kinds = operand_texts m.op in
    let operands = operands_text m.aa 32 kinds (values_of i) in
    omega (arith, length-append (mnemonic_text m) operands, mnemonic-short m, operands-short m.aa 32 kinds (values_of i) (values_fit i fits), form-short m.op)
