-- Forms to words and back, and words to forms and back.
use Rattle.std.proofs.Common.{◌≡◌, ℕ, ◌+◌, Bool, true, false, List, ◌++◌, Option, Some, None, cond, eqb, refl, sym, ap, subst, ◌∙◌, arith}
use Rattle.std.specs.Prelude.{bit_and, Result, Ok, Err, IfOk, IsOk}
use Rattle.std.proofs.lemmas.Bool.Decides.{nat_tests}
use Rattle.ppc_ops.specs.declared.op.Op.{Op}
use Rattle.ppc_ops.specs.declared.insn.Insn.{Insn}
use Rattle.ppc_ops.specs.Fitting.{FitsFields}
use Rattle.ppc_ops.specs.Forms.{is_invalid}
use Rattle.ppc_ops.specs.Rows.{Fixed, agrees, mask_of, value_of}
use Rattle.ppc_ops.specs.Table.{layout_of, op_row, rows}
use Rattle.ppc_ops.proofs.Apart.{nothing, same_number}
use Rattle.word_decoder.specs.declared.decoded.Decoded.TheVariants.{Form, Zero, InvalidForm, Unsupported}
use Rattle.word_decoder.specs.Decode.{decoded_as, decoded_of, judged}
use Rattle.word_decoder.specs.Find.{find_op, op_at}
use Rattle.word_decoder.specs.Operands.{operands_of}
use Rattle.ppc_decode.specs.Encode.{insn_op, fields_of, word_for, used_of}
use Rattle.ppc_decode.proofs.Sums.{Fitted, Reads, masks, separate, within, sum_of_reads, reads_of_sum, mask_both, value_both, masks_both, fitted_both, reads_both, reads_first, reads_second}
use Rattle.ppc_decode.proofs.Found.{fixed_of, fields_at, agrees_of_op, fixed_fit, not_true, op_kept, op_of_agrees, own_bits, own_fixed_bits}
use Rattle.ppc_decode.proofs.RoundTrip.{own, places, fits, back}

is_same : (a b : ℕ) → a ≡ b → eqb a b ≡ true
is_same a b h = grind (arith, nat_tests)

-- fields that stand where an operation has its own share no bit with its row
all_apart : (op : Op) (fs : List Fixed) → masks fs ≡ masks (fields_at op) → separate (masks (fixed_of op ++ fs)) ≡ true
all_apart op fs e = ap separate (masks_both (fixed_of op) fs ∙ ap (λ ms. masks (fixed_of op) ++ ms) e ∙ sym (masks_both (fixed_of op) (fields_at op))) ∙ own_bits op

-- ---- a form's word means the form

zero_has_none : op_at 0 ≡ None
unfolding op_at find_op rows
zero_has_none = refl

decoded_from : (word : ℕ) (op : Op) (i : Insn) → op_at word ≡ Some op → operands_of (layout_of op) op word ≡ i → is_invalid i ≡ false → decoded_of word ≡ Form i
unfolding decoded_of
decoded_from word op i found same valid =
    ap (λ t. cond t Zero (decoded_as (op_at word) word)) (not_true (eqb word 0) (λ p. nothing op (sym zero_has_none ∙ ap op_at (sym (same_number word 0 p)) ∙ found)))
    ∙ ap (λ o. decoded_as o word) found
    ∙ ap (judged op) same
    ∙ ap (λ t. cond t (InvalidForm op) (Form i)) valid

pub encoded : (i : Insn) → FitsFields i → is_invalid i ≡ false → decoded_of (word_for i) ≡ Form i
unfolding word_for
encoded i fit valid =
    let apart : separate (masks (fixed_of (insn_op i) ++ fields_of i)) ≡ true = all_apart (insn_op i) (fields_of i) (places i fit) in
    let fitted : Fitted (fixed_of (insn_op i) ++ fields_of i) = fitted_both (fixed_of (insn_op i)) (fields_of i) (fixed_fit (insn_op i)) (fits i fit) in
    let sum : word_for i ≡ value_of (fixed_of (insn_op i) ++ fields_of i) = sym (value_both (fixed_of (insn_op i)) (fields_of i)) in
    let reads : Reads (word_for i) (fixed_of (insn_op i) ++ fields_of i) = reads_of_sum (word_for i) (fixed_of (insn_op i) ++ fields_of i) apart fitted
    (ap (λ n. bit_and n (mask_of (fixed_of (insn_op i) ++ fields_of i))) sum ∙ within (fixed_of (insn_op i) ++ fields_of i) apart fitted) in
    let agree : agrees (word_for i) (op_row (insn_op i)) ≡ true = is_same (bit_and (word_for i) (mask_of (fixed_of (insn_op i)))) (value_of (fixed_of (insn_op i)))
    (sum_of_reads (word_for i) (fixed_of (insn_op i)) (own_fixed_bits (insn_op i)) (reads_first (word_for i) (fixed_of (insn_op i)) (fields_of i) reads)) in
    decoded_from (word_for i) (insn_op i) i (op_of_agrees (insn_op i) (word_for i) agree)
    (back i fit (word_for i) (reads_second (word_for i) (fixed_of (insn_op i)) (fields_of i) reads)) valid

pub each_encoded : {E : Type 0} (i : Insn) (r : Result ℕ E) → is_invalid i ≡ false → (IsOk r → FitsFields i) → IfOk r (λ w. w ≡ (op_row (insn_op i)).value + value_of (fields_of i)) → IfOk r (λ w. decoded_of w ≡ Form i)
unfolding word_for
each_encoded i (Ok w) valid fit e = ap decoded_of e ∙ encoded i (fit refl) valid
each_encoded i (Err x) valid fit e = tt

-- ---- a word that means a form has the form's word

abbrev form_at : Op → ℕ → Insn
form_at op word = operands_of (layout_of op) op word

word_again : (op : Op) (word : ℕ) → agrees word (op_row op) ≡ true → (op_row op).value + value_of (fields_of (form_at op word)) ≡ bit_and word ((op_row op).mask + mask_of (fields_of (form_at op word)))
word_again op word agree =
    let facts = own (layout_of op) op word in
    let fixed : Reads word (fixed_of op) = reads_of_sum word (fixed_of op) (own_fixed_bits op) (fixed_fit op) (same_number (bit_and word (mask_of (fixed_of op))) (value_of (fixed_of op)) agree) in
    let all : Reads word (fixed_of op ++ fields_of (form_at op word)) = reads_both word (fixed_of op) (fields_of (form_at op word)) fixed facts.2 in
    sym (value_both (fixed_of op) (fields_of (form_at op word)))
    ∙ sym (sum_of_reads word (fixed_of op ++ fields_of (form_at op word)) (all_apart op (fields_of (form_at op word)) facts.1) all)
    ∙ ap (bit_and word) (mask_both (fixed_of op) (fields_of (form_at op word)))

module _ (word : ℕ) (i : Insn) where
  valid_form : (t : Bool) (op : Op) (j : Insn) → cond t (InvalidForm op) (Form j) ≡ Form i → j ≡ i
  valid_form true op j e = absurd (differ op e)
    where
      differ : (op : Op) → InvalidForm op ≡ Form i → ⊥
      differ op e = cc
  valid_form false op j e = cc

  form_from : (t : Bool) (o : Option Op) → cond t Zero (decoded_as o word) ≡ Form i → (op : Op) × (o ≡ Some op) × (form_at op word ≡ i)
  form_from true o e = absurd (differ e)
    where
      differ : Zero ≡ Form i → ⊥
      differ e = cc
  form_from false None e = absurd (differ e)
    where
      differ : Unsupported ≡ Form i → ⊥
      differ e = cc
  form_from false (Some op) e = (op, refl, valid_form (is_invalid (form_at op word)) op (form_at op word) e)

  decoded : decoded_of word ≡ Form i → (op : Op) × (op_at word ≡ Some op) × (form_at op word ≡ i)
  unfolding decoded_of
  decoded e = form_from (eqb word 0) (op_at word) e

  pub decoded_again : decoded_of word ≡ Form i → word_for i ≡ bit_and word (used_of i)
  unfolding word_for used_of
  decoded_again e =
      let found = decoded e in
      let facts = own (layout_of found.0) found.0 word in
      let kept : insn_op (form_at found.0 word) ≡ found.0 = facts.0 ∙ op_kept found.0 in
      subst (λ k. (op_row (insn_op k)).value + value_of (fields_of k) ≡ bit_and word ((op_row (insn_op k)).mask + mask_of (fields_of k))) found.2
      (subst (λ o. (op_row o).value + value_of (fields_of (form_at found.0 word)) ≡ bit_and word ((op_row o).mask + mask_of (fields_of (form_at found.0 word)))) (sym kept)
      (word_again found.0 word (agrees_of_op found.0 word found.1)))
