-- Runs whose answers were chosen, and what their accesses reach.
use Rattle.std.specs.Prelude.{ℕ, List, [], ◌∷◌}
use Rattle.journal_core.specs.declared.asks.Ask.{Ask}
use Rattle.journal_core.specs.declared.asks.Found.{Found}
use Rattle.journal_core.specs.declared.asks.Found.TheVariants.{Real, Fault, Stop}
use Rattle.journal_core.specs.declared.rows.ReadRow.{ReadRow}
use Rattle.journal_core.specs.Rows.{Rows}
use Rattle.journal_core.specs.Steps.{StepRows, with_own}
use Rattle.journal_core.specs.Runs.{PastStep, IsRun}
use Rattle.journal_core.specs.Past.{word_in}
use Rattle.journal_core.specs.Turns.{Mark, Query}
use Rattle.journal_core.specs.Standing.{AreRows}
use Rattle.journal_core.specs.Confined.{IsConfined}
use Rattle.journal_core.specs.Answers.{named_by, ChoosesUses}
use Rattle.ppc_step.specs.States.{State}
use Rattle.ppc_step.specs.Steps.{step_asks}
use Rattle.ppc_step.specs.Rule.{KeepsRule, next_state, thread_in, turn_after}

-- the readings that an answer names confine its ask to what its partition gives
pub record IsConfinedBy (rows : Rows) (ask : Ask) (named : List ℕ) (real : ℕ) : Type 0 where
  pub readings : List ReadRow
  pub are_named : AreRows rows.reads named readings
  pub confined : IsConfined ask readings real

-- each access that these answers let through is confined
abbrev pub AreConfined : Rows → List Ask → List Found → Type 0
AreConfined rows [] founds = Unit {0}
AreConfined rows (ask ∷ asks) [] = Unit {0}
AreConfined rows (ask ∷ asks) (Real at used ∷ founds) = IsConfinedBy rows ask (named_by rows.fills used) at × AreConfined rows asks founds
AreConfined rows (ask ∷ asks) (Fault cause used ∷ founds) = AreConfined rows asks founds
AreConfined rows (ask ∷ asks) (Stop name value ∷ founds) = AreConfined rows asks founds

-- the accesses of a step that keeps the rule are confined
abbrev pub StepsAreConfined : Type 0
StepsAreConfined = (begin : State) (before : Rows) (made : List (PastStep State)) (s : State) (own : StepRows) (rule : KeepsRule begin before made s own) →
    AreConfined (with_own before own) (step_asks (thread_in s own) s.ram rule.founds) rule.founds

-- A step keeps the rule; its answers were chosen so, over storage as it stood before the step; and its accesses are confined.
pub record KeepsChosen (chooses : Query → Found → Mark → Type 0) (begin : State) (before : Rows) (made : List (PastStep State)) (s : State) (own : StepRows) : Type 0 where
  pub rule : KeepsRule begin before made s own
  pub chosen : ChoosesUses chooses (word_in s.ram) (turn_after before own) (step_asks (thread_in s own) s.ram rule.founds) rule.founds own.row.uses
  pub confined : AreConfined (with_own before own) (step_asks (thread_in s own) s.ram rule.founds) rule.founds

-- a journal is lawful from a state to a state, its answers were chosen so, and its accesses are confined
pub record IsChosenRun (chooses : Query → Found → Mark → Type 0) (begin : State) (rows : Rows) (now : State) : Type 0 where
  pub made : List (PastStep State)
  pub run : IsRun (KeepsChosen chooses begin) next_state begin rows made now
