-- Doublewords of tables.
use Rattle.std.proofs.Common.{◌≡◌, ℕ, ◌+◌, ◌<◌, ◌≤◌, nat_le, true, false, Some, None, List, length, refl, ap, ◌∙◌, arith}
use Rattle.std.proofs.lemmas.Bool.Decides.{nat_tests}
use Rattle.std.specs.Int.{w64, swap_bytes}
use Rattle.journal_core.specs.Bytes.{le_value, piece, IsBytes}
use Rattle.journal_core.specs.Past.{word_in}
use Rattle.journal_core.proofs.BytesLemmas.{length-piece, IsBytes-piece}
use Rattle.real_store.proofs.NumberLemmas.{turned}

le-yes : (a b : ℕ) → a ≤ b → nat_le a b ≡ true
le-yes a b within = grind (arith, nat_tests)

le-not : (a b : ℕ) → b < a → nat_le a b ≡ false
le-not a b outside = grind (arith, nat_tests)

-- the number of eight bytes within storage, with their order turned
pub word_within : (ram : List ℕ) (at value : ℕ) → IsBytes ram → at + 8 ≤ length ram → value ≡ le_value (piece ram at 8) → Some (swap_bytes w64 value) ≡ word_in ram at
unfolding word_in
word_within ram at value all within is =
    let bytes = turned (piece ram at 8) (IsBytes-piece ram at 8 all) (length-piece ram at 8 within) in
    rw (le-yes (at + 8) (length ram) within) (ap Some (ap (λ (n : ℕ). swap_bytes w64 n) is ∙ bytes))

-- none where one is outside
pub word_outside : (ram : List ℕ) (at : ℕ) → length ram < at + 8 → None ≡ word_in ram at
unfolding word_in
word_outside ram at outside = rw (le-not (at + 8) (length ram) outside) refl
