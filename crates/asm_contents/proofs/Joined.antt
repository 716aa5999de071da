-- Values that are added operand by operand.
use Rattle.std.proofs.Common.{◌≡◌, ℕ, ◌+◌, ◌<◌, ◌≤◌, ◌*◌, List, [], ◌∷◌, ◌++◌, length, drop, get_or, Some, None, Option, Bool, true, refl, ap, ◌∙◌, sym, arith, ℤ}
use Rattle.std.specs.Prelude.{option_map}
use Rattle.std.proofs.lemmas.Option.{none-some}
use Rattle.std.proofs.lemmas.List.{append_assoc, append-nil, drop_all, drop_more, length-append}
use Rattle.operand_texts.specs.declared.kinds.OperandText.{OperandText}
use Rattle.asm_statements.specs.declared.operand.Operand.{Operand}
use Rattle.asm_statements.specs.declared.operand.Operand.TheVariants as operands
use Rattle.asm_places.specs.Names.{Definition}
use Rattle.asm_contents.specs.Adding.{AddsValues, behind}
use Rattle.asm_contents.specs.Values.{operand_values, number_worth, target_worth, is_signed_text, and_values, all_values, one, with_register}

-- values behind which others stand
pub behind-none : (o : Option (List ℤ)) → behind [] o ≡ o
behind-none (Some vs) = refl
behind-none None = refl

behind-both : (before vs : List ℤ) (o : Option (List ℤ)) → behind before (and_values (Some vs) o) ≡ behind (before ++ vs) o
behind-both before vs (Some more) = ap Some (sym (append_assoc before vs more))
behind-both before vs None = refl

-- the values of an operand are at most two
few-values : (names : List Definition) (here : ℤ) (absolute : Bool) (text : OperandText) (o : Operand) (vs : List ℤ) → operand_values names here absolute text o ≡ Some vs → length vs ≤ 2
few-values names here absolute text (operands.Register r) vs e = let l : 1 ≡ length vs = cc in omega arith
few-values names here absolute text (operands.Number n) vs e = of (number_worth names here (is_signed_text text) n) e
  where
    of : (w : Option ℤ) → option_map one w ≡ Some vs → length vs ≤ 2
    of (Some z) same = let l : 1 ≡ length vs = cc in omega arith
    of None same = absurd (none-some vs same)
few-values names here absolute text (operands.Displacement n r) vs e = of (number_worth names here true n) e
  where
    of : (w : Option ℤ) → option_map (with_register r) w ≡ Some vs → length vs ≤ 2
    of (Some z) same = let l : 2 ≡ length vs = cc in omega arith
    of None same = absurd (none-some vs same)
few-values names here absolute text (operands.Target t) vs e = of (target_worth names here absolute t) e
  where
    of : (w : Option ℤ) → option_map one w ≡ Some vs → length vs ≤ 2
    of (Some z) same = let l : 1 ≡ length vs = cc in omega arith
    of None same = absurd (none-some vs same)

-- after so many operands their values are there
pub record AreAdded (names : List Definition) (here : ℤ) (absolute : Bool) (texts : List OperandText) (os : List Operand) (i : ℕ) (values : List ℤ) : Type 0 where
  pub all : all_values names here absolute texts os ≡ behind values (all_values names here absolute (drop i texts) (drop i os))
  pub few : length values ≤ 2 * i

pub added-start : (names : List Definition) (here : ℤ) (absolute : Bool) (texts : List OperandText) (os : List Operand) → AreAdded names here absolute texts os 0 []
added-start names here absolute texts os = record { all = sym (behind-none (all_values names here absolute texts os)); few = omega arith }

-- one operand more
pub added-next : (names : List Definition) (here : ℤ) (absolute : Bool) (texts : List OperandText) (os : List Operand) (i : ℕ) (t : OperandText) (o : Operand) (old new : List ℤ)
    → drop i texts ≡ t ∷ drop (i + 1) texts → drop i os ≡ o ∷ drop (i + 1) os → (w : Option (List ℤ)) → operand_values names here absolute t o ≡ w → AddsValues w old new (Some tt)
    → AreAdded names here absolute texts os i old → AreAdded names here absolute texts os (i + 1) new
added-next names here absolute texts os i t o old new ts gs (Some vs) is added a =
    let few = few-values names here absolute t o vs is in
    let before = a.few in
    let l = ap length added ∙ length-append old vs in
    record {
      all = a.all ∙ ap (behind old) ((λ j. all_values names here absolute (ts j) (gs j)) ∙ ap (λ w. and_values w (all_values names here absolute (drop (i + 1) texts) (drop (i + 1) os))) is)
          ∙ behind-both old vs (all_values names here absolute (drop (i + 1) texts) (drop (i + 1) os))
          ∙ ap (λ b. behind b (all_values names here absolute (drop (i + 1) texts) (drop (i + 1) os))) (sym added);
      few = omega arith;
    }
added-next names here absolute texts os i t o old new ts gs None is added a = absurd added

-- the word of an operand that is out of range
pub added-none : (names : List Definition) (here : ℤ) (absolute : Bool) (texts : List OperandText) (os : List Operand) (i : ℕ) (t : OperandText) (o : Operand) (old new : List ℤ)
    → drop i texts ≡ t ∷ drop (i + 1) texts → drop i os ≡ o ∷ drop (i + 1) os → (w : Option (List ℤ)) → operand_values names here absolute t o ≡ w → AddsValues w old new None
    → AreAdded names here absolute texts os i old → all_values names here absolute texts os ≡ None
added-none names here absolute texts os i t o old new ts gs (Some vs) is added a = absurd added
added-none names here absolute texts os i t o old new ts gs None is added a =
    a.all ∙ ap (behind old) ((λ j. all_values names here absolute (ts j) (gs j)) ∙ ap (λ w. and_values w (all_values names here absolute (drop (i + 1) texts) (drop (i + 1) os))) is)

none-left : (names : List Definition) (here : ℤ) (absolute : Bool) (texts : List OperandText) → all_values names here absolute texts [] ≡ Some []
none-left names here absolute [] = refl
none-left names here absolute (t ∷ ts) = refl

-- no operand is left
pub added-all : (names : List Definition) (here : ℤ) (absolute : Bool) (texts : List OperandText) (os : List Operand) (i : ℕ) (values : List ℤ)
    → length os ≤ i → AreAdded names here absolute texts os i values → Some values ≡ all_values names here absolute texts os
added-all names here absolute texts os i values l a =
    sym (a.all ∙ ap (λ ps. behind values (all_values names here absolute (drop i texts) ps)) (drop_all i os l)
    ∙ ap (behind values) (none-left names here absolute (drop i texts)) ∙ ap Some (append-nil values))

pub drop-at : {A : Type 0} (xs : List A) (i : ℕ) (x : A) → i < length xs → x ≡ get_or xs i x → drop i xs ≡ x ∷ drop (i + 1) xs
drop-at xs i x l e = drop_more xs i x l ∙ ap (λ y. y ∷ drop (i + 1) xs) (sym e)
