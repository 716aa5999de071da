-- What an access may reach.
use Rattle.std.specs.Prelude.{◌≡◌, ◌≤◌, ℕ, List, Option}
use Rattle.std.specs.List.{AllByRecursion}
use Rattle.journal_core.specs.declared.rows.ReadRow.{ReadRow}
use Rattle.journal_core.specs.declared.asks.Ask.{Ask}
use Rattle.journal_core.specs.declared.walks.NestResult.TheVariants.{Page}
use Rattle.journal_core.specs.declared.walks.Stage.TheVariants.{Over}
use Rattle.journal_core.specs.Turns.{Turn}
use Rattle.journal_core.specs.Covers.{IsCurrent}
use Rattle.journal_core.specs.Rights.{first_denial}
use Rattle.journal_core.specs.Walk.{stage_after, task_of, start_of, never_denied}
use Rattle.journal_core.specs.Following.{Follows, IsTrueReading}

-- these readings are a walk of the ask to this real address, whatever the rights in them refuse
pub record IsWalkTo (ask : Ask) (rs : List ReadRow) (real : ℕ) : Type 0 where
  pub follows : Follows (task_of never_denied ask) (start_of never_denied ask) rs
  pub leads : stage_after (task_of never_denied ask) (start_of never_denied ask) rs ≡ Over (Page real)

-- the rights in these readings lead the ask to this real address too
abbrev pub IsRight : Ask → List ReadRow → ℕ → Type 0
IsRight ask rs real = stage_after (task_of (first_denial ask) ask) (start_of (first_denial ask) ask) rs ≡ Over (Page real)

-- a reading was made by n and is true
abbrev pub IsReadBy : (ℕ → ℕ → Option ℕ) → ℕ → ReadRow → Type 0
IsReadBy past n r = (r.moment ≤ n) × IsTrueReading past r

-- An ask in a turn is admitted to a real address by these readings: each was made by then and is true (`read`), each is current
-- (`current`), they are a walk of the ask to that address (`walk`), and the rights in them permit it (`right`). So a breach
-- of `right` alone is a walk to that address which the rights refuse.
pub record IsAdmitted (past : ℕ → ℕ → Option ℕ) (v : Turn) (ask : Ask) (rs : List ReadRow) (real : ℕ) : Type 0 where
  pub read : AllByRecursion (IsReadBy past v.step) rs
  pub current : AllByRecursion (IsCurrent v.rows.dones v.thread v.step) rs
  pub walk : IsWalkTo ask rs real
  pub right : IsRight ask rs real
