-- The readings of a lawful journal.
use Rattle.journal_core.specs.Rows.{Rows}
use Rattle.journal_core.specs.Past.{past}
use Rattle.journal_core.specs.Translating.{AreTrue}
use Rattle.ppc_step.specs.States.{State}
use Rattle.ppc_step.specs.Rule.{IsLawfulRun}

-- in a lawful journal each reading is true: its word stood so at its moment
abbrev pub LawfulReadingsAreTrue : Type 0
LawfulReadingsAreTrue = (begin : State) (rows : Rows) (now : State) → IsLawfulRun begin rows now → AreTrue (past begin.ram rows.writes) rows
