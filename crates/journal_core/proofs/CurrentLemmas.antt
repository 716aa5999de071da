-- What is current stays so until a completion ends it.
use Rattle.std.proofs.Common.{◌≡◌, ℕ, ◌<◌, ◌≤◌, List, [], ◌∷◌, ◌++◌, false, arith, inl, inr}
use Rattle.std.proofs.lemmas.Bool.{cases_lt}
use Rattle.std.specs.List.{AllByRecursion}
use Rattle.journal_core.specs.declared.rows.ReadRow.{ReadRow}
use Rattle.journal_core.specs.declared.rows.DoneRow.{DoneRow}
use Rattle.journal_core.specs.Covers.{ends_reading, IsCurrent}
use Rattle.journal_core.specs.Covers.{NoneEnds}
use Rattle.journal_core.specs.Translating.{AreFrom}

-- no completion of a step below n ends the use of a reading
abbrev pub IsKept : List DoneRow → ℕ → ℕ → ReadRow → Type 0
IsKept dones t n r = AllByRecursion (λ d. (d.step < n) → ends_reading t r d ≡ false) dones

kept_longer : (dones : List DoneRow) (t n m : ℕ) (r : ReadRow) → IsKept dones t n r → NoneEnds dones t n m r → IsKept dones t m r
kept_longer [] t n m r kept none = tt
kept_longer (d ∷ dones) t n m r kept none =
    (λ below. elim (cases_lt d.step n) [ inl early ↦ kept.0 early | inr late ↦ none.0 late below ], kept_longer dones t n m r kept.1 none.1)

pub stays_current : (dones : List DoneRow) (t n m : ℕ) (r : ReadRow) → n ≤ m → IsCurrent dones t n r → NoneEnds dones t n m r → IsCurrent dones t m r
stays_current dones t n m r later current none = record { made = omega (arith, current.made, later); kept = kept_longer dones t n m r current.kept none }

kept_by_later : (more : List DoneRow) (t n : ℕ) (r : ReadRow) → AreFrom n more → IsKept more t n r
kept_by_later [] t n r from = tt
kept_by_later (d ∷ more) t n r from = (λ below. absurd (never d.step n from.0 below), kept_by_later more t n r from.1)
  where
    never : (k n : ℕ) → n ≤ k → k < n → ⊥
    never k n a b = omega arith

kept_joined : (dones more : List DoneRow) (t n : ℕ) (r : ReadRow) → IsKept dones t n r → IsKept more t n r → IsKept (dones ++ more) t n r
kept_joined [] more t n r a b = b
kept_joined (d ∷ dones) more t n r a b = (a.0, kept_joined dones more t n r a.1 b)

kept_front : (dones more : List DoneRow) (t n : ℕ) (r : ReadRow) → IsKept (dones ++ more) t n r → IsKept dones t n r
kept_front [] more t n r a = tt
kept_front (d ∷ dones) more t n r a = (a.0, kept_front dones more t n r a.1)

-- completions of step n or later change nothing at n
pub current_with_later : (dones more : List DoneRow) (t n : ℕ) (r : ReadRow) → AreFrom n more → IsCurrent dones t n r → IsCurrent (dones ++ more) t n r
current_with_later dones more t n r from current =
    record { made = current.made; kept = kept_joined dones more t n r current.kept (kept_by_later more t n r from) }

pub current_without_later : (dones more : List DoneRow) (t n : ℕ) (r : ReadRow) → IsCurrent (dones ++ more) t n r → IsCurrent dones t n r
current_without_later dones more t n r current = record { made = current.made; kept = kept_front dones more t n r current.kept }
