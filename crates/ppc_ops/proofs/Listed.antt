-- Each operation stands in the list of all, at the number of its variant.
use Rattle.std.proofs.Common.{◌≡◌, ℕ, zero, suc, ◌<◌, Bool, true, List, [], ◌∷◌, Option, Some, None, refl, sym, ap, ◌∙◌, arith, inl, inr}
use Rattle.std.specs.Prelude.{slice_get, option_map}
use Rattle.std.specs.List.{list_all}
use Rattle.std.proofs.lemmas.Bool.{cases_lt}
use Rattle.std.proofs.lemmas.Option.{slice_get-map}
use denote.Enum.Declared.{tag_of, variants}
use denote.Enum.Enum.{tag_below}
use denote.Enum.Bare.{tag_one}
use Rattle.ppc_ops.specs.contracts.op.Op.{the_type}
use Rattle.ppc_ops.specs.declared.op.Op.{Op}
use Rattle.ppc_ops.specs.Table.{operations, op_row, rows}
use Rattle.ppc_ops.proofs.Apart.{at_place}

-- the number of an operation
abbrev pub number : Op → ℕ
number op = tag_of the_type op

pub number_below : (op : Op) → number op < 200
number_below op = tag_below (variants the_type) (the_type.to op)

abbrev numbers_at : ℕ → Option ℕ
numbers_at k = option_map number (slice_get operations k)

abbrev agree_below : ℕ → List (Option ℕ)
agree_below zero = []
agree_below (suc n) = numbers_at n ∷ agree_below n

abbrev below : ℕ → List (Option ℕ)
below zero = []
below (suc n) = Some n ∷ below n

all_agree : agree_below 200 ≡ below 200
all_agree = refl

at_each : (n : ℕ) → agree_below n ≡ below n → (k : ℕ) → k < n → numbers_at k ≡ Some k
at_each zero e k h = absurd (omega arith)
at_each (suc n) e k h =
    let head : numbers_at n ≡ Some n = cc in
    let tail : agree_below n ≡ below n = cc in
    elim (cases_lt k n) [ inl l ↦ at_each n tail k l | inr l ↦ (let at : k ≡ n = omega arith in ap numbers_at at ∙ head ∙ ap Some (sym at)) ]

-- an operation is known by its number
pub same_op : (a b : Op) → number a ≡ number b → a ≡ b
same_op a b e = tag_one the_type tt a b e

pub listed : (op : Op) → slice_get operations (number op) ≡ Some op
listed op = found (slice_get operations (number op)) (at_each 200 all_agree (number op) (number_below op))
  where
    found : (o : Option Op) → option_map number o ≡ Some (number op) → o ≡ Some op
    found None e = absurd (nothing (number op) e)
      where
        nothing : (n : ℕ) → None ≡ Some n → ⊥
        nothing n h = cc
    found (Some a) e = ap Some (same_op a op (same (number a) (number op) e))
      where
        same : (m n : ℕ) → Some m ≡ Some n → m ≡ n
        same m n h = cc

pub row_listed : (op : Op) → slice_get rows (number op) ≡ Some (op_row op)
unfolding rows
row_listed op = slice_get-map op_row operations (number op) ∙ ap (option_map op_row) (listed op)

-- a test that all operations of the list pass
pub each : (p : Op → Bool) → list_all p operations ≡ true → (op : Op) → p op ≡ true
each p h op = at_place p operations (number op) op h (listed op)
