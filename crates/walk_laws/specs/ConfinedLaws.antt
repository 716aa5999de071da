-- Laws of what an access may reach: that of a guest is confined, and the low bits of an address stay.
use Rattle.std.specs.Prelude.{◌≡◌, ℕ, ◌%◌, ◌^◌, List, Option}
use Rattle.journal_core.specs.declared.rows.ReadRow.{ReadRow}
use Rattle.journal_core.specs.declared.asks.Ask.{Ask}
use Rattle.journal_core.specs.Turns.{Turn}
use Rattle.journal_core.specs.Admitted.{IsAdmitted}
use Rattle.journal_core.specs.Confined.{IsConfined}

-- an ask that is admitted to a real address is confined
abbrev pub AdmittedAccessesAreConfined : Type 0
AdmittedAccessesAreConfined = (past : ℕ → ℕ → Option ℕ) (v : Turn) (ask : Ask) (rs : List ReadRow) (real : ℕ) → IsAdmitted past v ask rs real → IsConfined ask rs real

-- the real address that an ask is admitted to has the 12 low bits of the effective address
abbrev pub AdmittedAccessesKeepLowBits : Type 0
AdmittedAccessesKeepLowBits = (past : ℕ → ℕ → Option ℕ) (v : Turn) (ask : Ask) (rs : List ReadRow) (real : ℕ) → IsAdmitted past v ask rs real → real % 2 ^ 12 ≡ ask.ea % 2 ^ 12
