-- The operation of a word that has the fixed bits of a row.
use Rattle.std.proofs.Common.{◌≡◌, ℕ, zero, suc, ◌+◌, ◌-◌, ◌^◌, ◌<◌, Bool, true, false, List, [], ◌∷◌, ◌++◌, Some, cond, eqb, ltb, ◌&&◌, refl, sym, ap, ◌∙◌, arith}
use Rattle.std.specs.Prelude.{slice_get, map}
use Rattle.std.specs.List.{list_all}
use Rattle.std.proofs.lemmas.Bool.Decides.{nat_tests}
use Rattle.ppc_ops.specs.declared.op.Op.{Op}
use Rattle.ppc_ops.specs.declared.op.Row.{Row}
use Rattle.ppc_ops.specs.Rows.{Fixed, agrees, AreApart}
use Rattle.ppc_ops.specs.Table.{entry_of, layout_of, op_row, operations, rows}
use Rattle.ppc_ops.proofs.Apart.{apart, both, nothing, same_number, some_same}
use Rattle.ppc_ops.proofs.Listed.{each, number, row_listed, same_op}
use Rattle.word_decoder.specs.Find.{find_op, op_at}
use Rattle.word_decoder.specs.Operands.{operands_of}
use Rattle.ppc_decode.specs.Encode.{insn_op, fields_of}
use Rattle.ppc_decode.proofs.Sums.{Fitted, masks, separate}

pub not_true : (t : Bool) → (t ≡ true → ⊥) → t ≡ false
not_true true h = absurd (h refl)
not_true false h = refl

-- of rows that share no word, the first that the word agrees with is the only one
only : (rs : List Row) (i : ℕ) (r : Row) (word : ℕ) → AreApart rs → slice_get rs i ≡ Some r → agrees word r ≡ true → find_op rs word ≡ Some r.op
unfolding find_op
only [] i r word a e h = absurd (nothing r e)
only (x ∷ xs) zero r word a e h =
    let same : x ≡ r = some_same x r e in
    ap (λ t. cond t (Some x.op) (find_op xs word)) (ap (agrees word) same ∙ h) ∙ ap (λ y. Some y.op) same
only (x ∷ xs) (suc i) r word a e h =
    ap (λ t. cond t (Some x.op) (find_op xs word)) (not_true (agrees word x) (λ p. a zero (suc i) x r (omega arith) refl e word p h))
    ∙ only xs i r word (λ j k p q l u v. a (suc j) (suc k) p q (omega arith) u v) e h

pub op_of_agrees : (op : Op) (word : ℕ) → agrees word (op_row op) ≡ true → op_at word ≡ Some op
unfolding op_at
op_of_agrees op word h = only rows (number op) (op_row op) word apart (row_listed op) h

found_in : (ops : List Op) (op : Op) (word : ℕ) → find_op (map op_row ops) word ≡ Some op → agrees word (op_row op) ≡ true
unfolding find_op
found_in [] op word e = absurd (nothing op e)
found_in (o ∷ os) op word e = by_test (agrees word (op_row o)) refl e (found_in os op word)
  where
    by_test : (t : Bool) → agrees word (op_row o) ≡ t → cond t (Some o) (find_op (map op_row os) word) ≡ Some op → (find_op (map op_row os) word ≡ Some op → agrees word (op_row op) ≡ true) → agrees word (op_row op) ≡ true
    by_test true h f rest = ap (λ x. agrees word (op_row x)) (sym (some_same o op f)) ∙ h
    by_test false h f rest = rest f

pub agrees_of_op : (op : Op) (word : ℕ) → op_at word ≡ Some op → agrees word (op_row op) ≡ true
unfolding op_at rows
agrees_of_op op word e = found_in operations op word e

-- ---- what holds of each row

abbrev pub fixed_of : Op → List Fixed
fixed_of op = (entry_of op).fixed

-- the fields of an operation's words
abbrev pub fields_at : Op → List Fixed
fields_at op = fields_of (operands_of (layout_of op) op 0)

abbrev all_fit : List Fixed → Bool
all_fit [] = true
all_fit (f ∷ fs) = ltb f.value (2 ^ (f.last - f.first + 1)) && all_fit fs

abbrev has_own_bits : Op → Bool
has_own_bits op = separate (masks (fixed_of op ++ fields_at op))

abbrev has_own_fixed_bits : Op → Bool
has_own_fixed_bits op = separate (masks (fixed_of op))

abbrev keeps_op : Op → Bool
keeps_op op = eqb (number (insn_op (operands_of (layout_of op) op 0))) (number op)

all_own : list_all has_own_bits operations ≡ true
all_own = refl

all_own_fixed : list_all has_own_fixed_bits operations ≡ true
all_own_fixed = refl

all_fixed_fit : list_all (λ op. all_fit (fixed_of op)) operations ≡ true
all_fixed_fit = refl

all_keep_op : list_all keeps_op operations ≡ true
all_keep_op = refl

pub own_bits : (op : Op) → separate (masks (fixed_of op ++ fields_at op)) ≡ true
own_bits = each has_own_bits all_own

pub own_fixed_bits : (op : Op) → separate (masks (fixed_of op)) ≡ true
own_fixed_bits = each has_own_fixed_bits all_own_fixed

pub fixed_fit : (op : Op) → Fitted (fixed_of op)
fixed_fit op = of_test (fixed_of op) (each (λ op. all_fit (fixed_of op)) all_fixed_fit op)
  where
    less : (a b : ℕ) → ltb a b ≡ true → a < b
    less a b h = grind (arith, nat_tests)

    of_test : (fs : List Fixed) → all_fit fs ≡ true → Fitted fs
    of_test [] h = tt
    of_test (f ∷ fs) h =
        let parts = both (ltb f.value (2 ^ (f.last - f.first + 1))) (all_fit fs) h in
        (less f.value (2 ^ (f.last - f.first + 1)) parts.0, of_test fs parts.1)

pub op_kept : (op : Op) → insn_op (operands_of (layout_of op) op 0) ≡ op
op_kept op = same_op (insn_op (operands_of (layout_of op) op 0)) op (same_number (number (insn_op (operands_of (layout_of op) op 0))) (number op) (each keeps_op all_keep_op op))
