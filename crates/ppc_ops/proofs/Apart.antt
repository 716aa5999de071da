-- Rows that no word has in common.
use Rattle.std.proofs.Common.{◌≡◌, ℕ, zero, suc, ◌+◌, ◌%◌, ◌<◌, inl, inr, min, Bool, true, false, List, [], ◌∷◌, Option, Some, None, eqb, ◌&&◌, not, refl, sym, ap, ◌∙◌, arith}
use Rattle.std.specs.Prelude.{bit_and, bit_xor, slice_get, option_map, map}
use Rattle.std.specs.Int.{bit_at}
use Rattle.std.specs.List.{list_all}
use Rattle.std.proofs.lemmas.Bool.{cases_lt}
use Rattle.std.proofs.lemmas.Bool.Decides.{nat_tests}
use Rattle.std.proofs.lemmas.Nat.Bits.{bit_at_and, bit_at_xor, bit_at-zero, bit_at-lt, same_from_bits}
use Rattle.std.proofs.lemmas.Option.{slice_get-map}
use Rattle.ppc_ops.specs.declared.op.Op.{Op}
use Rattle.ppc_ops.specs.declared.op.Row.{Row}
use Rattle.ppc_ops.specs.Rows.{listed, IsApart, AreApart, IsAloneAt}
use Rattle.ppc_ops.specs.Table.{operations, op_row, rows}

-- a bit that both rows fix is fixed differently
abbrev pub differ : Row → Row → Bool
differ a b = not (eqb (bit_and (bit_xor a.value b.value) (bit_and a.mask b.mask)) 0)

abbrev pub all_differ : List Row → Bool
all_differ [] = true
all_differ (r ∷ rs) = list_all (differ r) rs && all_differ rs

bit_rule : (w m n : ℕ) → w < 2 → m < 2 → n < 2 → min ((min w m + min w n) % 2) (min m n) ≡ 0
bit_rule w m n h l k = omega arith

common_bits : (w m n : ℕ) → bit_and (bit_xor (bit_and w m) (bit_and w n)) (bit_and m n) ≡ 0
common_bits w m n = same_from_bits (bit_and (bit_xor (bit_and w m) (bit_and w n)) (bit_and m n)) 0 (λ i.
    bit_at_and (bit_xor (bit_and w m) (bit_and w n)) (bit_and m n) i
    ∙ ap (λ k. min k (bit_at (bit_and m n) i)) (bit_at_xor (bit_and w m) (bit_and w n) i ∙ ap (λ k. (k + bit_at (bit_and w n) i) % 2) (bit_at_and w m i) ∙ ap (λ k. (min (bit_at w i) (bit_at m i) + k) % 2) (bit_at_and w n i))
    ∙ ap (min ((min (bit_at w i) (bit_at m i) + min (bit_at w i) (bit_at n i)) % 2)) (bit_at_and m n i)
    ∙ bit_rule (bit_at w i) (bit_at m i) (bit_at n i) (bit_at-lt w i) (bit_at-lt m i) (bit_at-lt n i)
    ∙ sym (bit_at-zero i))

pub same_number : (a b : ℕ) → eqb a b ≡ true → a ≡ b
same_number a b h = grind (arith, nat_tests)

-- rows that fix a bit differently share no word
never_both : (a b : Row) → differ a b ≡ true → IsApart a b
never_both a b h w p q =
    let zero : bit_and (bit_xor a.value b.value) (bit_and a.mask b.mask) ≡ 0 =
    ap (λ k. bit_and (bit_xor k b.value) (bit_and a.mask b.mask)) (sym (same_number (bit_and w a.mask) a.value p))
    ∙ ap (λ k. bit_and (bit_xor (bit_and w a.mask) k) (bit_and a.mask b.mask)) (sym (same_number (bit_and w b.mask) b.value q))
    ∙ common_bits w a.mask b.mask in
    contradiction (bit_and (bit_xor a.value b.value) (bit_and a.mask b.mask)) zero h
  where
    contradiction : (k : ℕ) → k ≡ 0 → not (eqb k 0) ≡ true → ⊥
    contradiction k e t = grind (arith, nat_tests)

pub both : (a b : Bool) → (a && b) ≡ true → (a ≡ true) × (b ≡ true)
both true true h = (refl, refl)
both true false h = absurd (no h)
  where
    no : false ≡ true → ⊥
    no h = cc
both false b h = absurd (no h)
  where
    no : false ≡ true → ⊥
    no h = cc

pub nothing : {X : Type 0} (x : X) → None ≡ Some x → ⊥
nothing x h = cc

pub some_same : {X : Type 0} (x y : X) → Some x ≡ Some y → x ≡ y
some_same x y h = cc

-- what holds of all elements holds of the one at a place
pub at_place : {A : Type 0} (p : A → Bool) (rs : List A) (j : ℕ) (b : A) → list_all p rs ≡ true → slice_get rs j ≡ Some b → p b ≡ true
at_place p [] j b h e = absurd (nothing b e)
at_place p (r ∷ rs) zero b h e = ap p (sym (some_same r b e)) ∙ (both (p r) (list_all p rs) h).0
at_place p (r ∷ rs) (suc j) b h e = at_place p rs j b (both (p r) (list_all p rs) h).1 e

apart_in : (rs : List Row) → all_differ rs ≡ true → AreApart rs
apart_in [] h i j a b l e f = absurd (nothing a e)
apart_in (r ∷ rs) h i zero a b l e f = absurd (omega arith)
apart_in (r ∷ rs) h zero (suc j) a b l e f = never_both a b (ap (λ x. differ x b) (sym (some_same r a e)) ∙ at_place (differ r) rs j b (both (list_all (differ r) rs) (all_differ rs) h).0 f)
apart_in (r ∷ rs) h (suc i) (suc j) a b l e f = apart_in rs (both (list_all (differ r) rs) (all_differ rs) h).1 i j a b (omega arith) e f

rows_differ : all_differ rows ≡ true
unfolding rows
rows_differ = refl

pub apart : AreApart rows
apart = apart_in rows rows_differ

pub alone : (i : ℕ) (o : Option Row) → slice_get rows i ≡ o → IsAloneAt rows i o
alone i None e = tt
alone i (Some a) e = λ j b n f. elim (cases_lt i j) [
  | inl l ↦ apart i j a b l e f
  | inr l ↦ (λ w p q. apart j i b a (omega arith) f e w q p)
]

-- the parts of a row
abbrev pub parts_of : Op → ℕ × ℕ × Op
parts_of op = ((op_row op).mask, (op_row op).value, op)

-- the row at a place of the list of parts
pub listed_at : (i : ℕ) (o : Option Row) → o ≡ option_map listed (slice_get (map parts_of operations) i) → o ≡ slice_get rows i
unfolding rows
listed_at i o e = e ∙ sym (slice_get-map listed (map parts_of operations) i)
