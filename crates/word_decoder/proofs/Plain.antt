-- The decoder's branch on primary opcodes that have no extended one finds the row of the table.
use Rattle.std.proofs.Common.{◌≡◌, ◌≢◌, ℕ, ◌+◌, ◌*◌, ◌/◌, ◌%◌, ◌^◌, ◌<◌, Bool, true, false, refl, cond, eqb, ◌||◌, None, sym, ap, ◌∙◌, arith}
use Rattle.std.proofs.lemmas.Nat.{and_mask}
use Rattle.std.proofs.lemmas.Bool.Decides.{nat_tests}
use Rattle.ppc_ops.specs.Table.{rows}
use Rattle.word_decoder.specs.Find.{find_op, op_at}
use Rattle.word_decoder.specs.Opcodes.{plain}
use Rattle.word_decoder.proofs.Keys.{of_primary, masks_in, op_in_primary, values, same_below, word_key}

abbrev pub is_special : ℕ → Bool
is_special p = eqb p 4 || (eqb p 17 || (eqb p 19 || (eqb p 30 || (eqb p 31 || (eqb p 58 || eqb p 62)))))

at_plain : values (λ p. cond (is_special p) None (plain p)) 64 ≡ values (λ p. cond (is_special p) None (find_op (of_primary p rows) (p * 2 ^ 26 + 0))) 64
unfolding rows find_op
at_plain = refl

keys_plain : values (λ p. cond (is_special p) true (masks_in (63 * 2 ^ 26 + 0) (of_primary p rows))) 64 ≡ values (λ p. true) 64
unfolding rows
keys_plain = refl

pub case_plain : (word : ℕ) → word < 2 ^ 32 → is_special (word / 2 ^ 26) ≡ false → plain (word / 2 ^ 26) ≡ op_at word
case_plain word f n =
    let same : cond (is_special (word / 2 ^ 26)) None (plain (word / 2 ^ 26)) ≡ cond (is_special (word / 2 ^ 26)) None (find_op (of_primary (word / 2 ^ 26) rows) (word / 2 ^ 26 * 2 ^ 26 + 0)) = same_below (λ p. cond (is_special p) None (plain p)) (λ p. cond (is_special p) None (find_op (of_primary p rows) (p * 2 ^ 26 + 0))) 64 at_plain (word / 2 ^ 26) (omega arith) in
    let keys : cond (is_special (word / 2 ^ 26)) true (masks_in (63 * 2 ^ 26 + 0) (of_primary (word / 2 ^ 26) rows)) ≡ true = same_below (λ p. cond (is_special p) true (masks_in (63 * 2 ^ 26 + 0) (of_primary p rows))) (λ p. true) 64 keys_plain (word / 2 ^ 26) (omega arith) in
    ap (λ t. cond t None (plain (word / 2 ^ 26))) (sym n) ∙ same ∙ ap (λ t. cond t None (find_op (of_primary (word / 2 ^ 26) rows) (word / 2 ^ 26 * 2 ^ 26 + 0))) n
    ∙ ap (find_op (of_primary (word / 2 ^ 26) rows)) (sym (word_key word (word / 2 ^ 26) 0 refl (omega arith) (omega arith) ∙ ap (λ m. word / 2 ^ 26 * 2 ^ 26 + m) (and_mask (word % 2 ^ 26) 0 ∙ none (word % 2 ^ 26))))
    ∙ sym (op_in_primary (word / 2 ^ 26) (63 * 2 ^ 26 + 0) word f refl (ap (λ t. cond t true (masks_in (63 * 2 ^ 26 + 0) (of_primary (word / 2 ^ 26) rows))) (sym n) ∙ keys))
  where
    none : (r : ℕ) → r % 2 ^ 0 ≡ 0
    none r = omega arith

pub not_special : (p : ℕ) → p ≢ 4 → p ≢ 17 → p ≢ 19 → p ≢ 30 → p ≢ 31 → p ≢ 58 → p ≢ 62 → is_special p ≡ false
not_special p a b c d e f g = grind (arith, nat_tests)
