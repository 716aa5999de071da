-- Bytes placed in storage.
use Rattle.std.proofs.Common.{◌≡◌, ℕ, ◌+◌, List, [], ◌∷◌, length, arith}
use Rattle.std.proofs.lemmas.List.{take-append-drop, append-nil}
use Rattle.journal_core.specs.Bytes.{placed}

-- no byte placed anywhere changes nothing
pub placed-none : (ram : List ℕ) (at : ℕ) (bytes : List ℕ) → length bytes ≡ 0 → placed ram at bytes ≡ ram
unfolding placed
placed-none ram at [] none =
    let same : at + 0 ≡ at = omega arith in
    rw (same, append-nil) (take-append-drop at ram)
placed-none ram at (b ∷ bytes) none = absurd (omega (arith, none))
