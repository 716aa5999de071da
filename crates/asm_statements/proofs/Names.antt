-- Fronts of words, byte by byte, and names among those of operations, one by one.
use Rattle.std.proofs.Common.{◌≡◌, ℕ, ◌+◌, ◌<◌, ◌≤◌, List, ◌∷◌, length, get_or, drop, Option, Some, None, refl, sym, ap, ◌∙◌, arith, inl, inr}
use Rattle.std.specs.Prelude.{slice_get, option_map}
use Rattle.std.proofs.lemmas.Bool.Decides.{nat_tests}
use Rattle.std.proofs.lemmas.List.{at_drop_more, at_drop_all}
use Rattle.std.proofs.lemmas.Option.{slice_get-map, slice_get_within, slice_get_cases, get_or_from_slice_get}
use Rattle.ppc_ops.specs.declared.op.Op.{Op}
use Rattle.ppc_ops.specs.declared.op.Row.{Row}
use Rattle.ppc_ops.specs.Table.{operations, op_row, rows}
use Rattle.operand_texts.specs.declared.mnemonic.Mnemonic.{Mnemonic}
use Rattle.asm_statements.specs.Mnemonics.{behind_front, as_name_of, first_of, name_among}
use Rattle.asm_statements.specs.Mnemonics.{all_operations}

-- a byte that is another one
other_byte : (f b : ℕ) (fs bs : List ℕ) → (b ≡ f → ⊥) → behind_front (f ∷ fs) (b ∷ bs) ≡ None
other_byte f b fs bs n = grind (arith, nat_tests)

-- the word ends before the front does
pub front_past : (front word : List ℕ) (i : ℕ) → i < length front → length word ≤ i → behind_front (drop i front) (drop i word) ≡ None
front_past front word i f w =
    at_drop_more (λ fs. behind_front fs (drop i word)) front i 0 f
    ∙ at_drop_all (behind_front (get_or front i 0 ∷ drop (i + 1) front)) word i w

-- the two differ at a place
pub front_apart : (front word : List ℕ) (i : ℕ) → i < length front → i < length word → (get_or word i 0 ≡ get_or front i 0 → ⊥) → behind_front (drop i front) (drop i word) ≡ None
front_apart front word i f w n =
    at_drop_more (λ fs. behind_front fs (drop i word)) front i 0 f
    ∙ at_drop_more (behind_front (get_or front i 0 ∷ drop (i + 1) front)) word i 0 w
    ∙ other_byte (get_or front i 0) (get_or word i 0) (drop (i + 1) front) (drop (i + 1) word) n

-- the operation of a row
pub operation_at : (i : ℕ) (r : Option Row) → r ≡ slice_get rows i → option_map (λ (row : Row). row.op) r ≡ slice_get all_operations i
unfolding rows all_operations
operation_at i r e = ap (option_map (λ (row : Row). row.op)) (e ∙ slice_get-map op_row operations i) ∙ same (slice_get operations i)
  where
    same : (o : Option Op) → option_map (λ (row : Row). row.op) (option_map op_row o) ≡ o
    same (Some op) = refl
    same None = refl

at_name : (ops : List Op) (i : ℕ) (op : Op) (word : List ℕ) → slice_get ops i ≡ Some op → name_among (drop i ops) word ≡ first_of (as_name_of op word) (name_among (drop (i + 1) ops) word)
at_name ops i op word e =
    at_drop_more (λ os. name_among os word) ops i op (slice_get_within ops i op e)
    ∙ ap (λ o. first_of (as_name_of o word) (name_among (drop (i + 1) ops) word)) (get_or_from_slice_get ops i op op e)

-- an operation has the name
pub name_here : (ops : List Op) (i : ℕ) (op : Op) (word : List ℕ) (m : Mnemonic) → slice_get ops i ≡ Some op → as_name_of op word ≡ Some m → name_among (drop i ops) word ≡ Some m
name_here ops i op word m e named = at_name ops i op word e ∙ ap (λ o. first_of o (name_among (drop (i + 1) ops) word)) named

-- an operation does not have it
pub name_later : (ops : List Op) (i : ℕ) (op : Op) (word : List ℕ) → slice_get ops i ≡ Some op → as_name_of op word ≡ None → name_among (drop i ops) word ≡ name_among (drop (i + 1) ops) word
name_later ops i op word e named = at_name ops i op word e ∙ ap (λ o. first_of o (name_among (drop (i + 1) ops) word)) named

-- no operation stands at a place
pub name_not_there : (ops : List Op) (i : ℕ) (word : List ℕ) → slice_get ops i ≡ None → name_among (drop i ops) word ≡ name_among (drop (i + 1) ops) word
name_not_there ops i word e = elim (slice_get_cases ops i).1 [
  | inl h ↦ absurd (there (slice_get ops i) h.0 e h.2)
  | inr h ↦ at_drop_all (λ os. name_among os word) ops i h.0 ∙ sym (at_drop_all (λ os. name_among os word) ops (i + 1) (omega arith))
]
  where
    there : (o : Option Op) (op : Op) → o ≡ None → o ≡ Some op → ⊥
    there o op e f = cc

-- no operation is left
pub name_nowhere : (ops : List Op) (i : ℕ) (word : List ℕ) → length ops ≤ i → name_among (drop i ops) word ≡ None
name_nowhere ops i word e = at_drop_all (λ os. name_among os word) ops i e

-- all rows were seen
pub name_unknown : (i : ℕ) (word : List ℕ) → length rows ≤ i → name_among (drop i all_operations) word ≡ None
unfolding rows all_operations
name_unknown i word e = name_nowhere operations i word e
