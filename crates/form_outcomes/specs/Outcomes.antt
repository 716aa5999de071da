-- What the form of a word comes to: it goes on, or takes an interrupt, or stops the machine.
use Rattle.std.specs.Prelude.{◌≡◌, ℕ, Option, Some, None}
use Rattle.journal_core.specs.declared.causes.Cause.{Cause}
use Rattle.journal_core.specs.declared.rows.StopName.{StopName}
use Rattle.journal_core.specs.declared.rows.StopName.TheVariants as names
use Rattle.journal_core.specs.declared.rows.StepEnd.{StepEnd}
use Rattle.journal_core.specs.declared.rows.StepEnd.TheVariants.{Ran, Took, Stopped}

-- it goes on, and leaves this of what it may change; or the interrupt of this cause is to be delivered; or the machine stops,
-- for this reason and with this value
pub data Outcome (A : Type 0) : Type 0 where
  Goes : A → Outcome A
  Takes : Cause → Outcome A
  Stops : StopName → ℕ → Outcome A

-- how the step ends
abbrev pub end_of : {A : Type 0} → Outcome A → StepEnd
end_of (Goes after) = Ran
end_of (Takes cause) = Took cause
end_of (Stops name value) = Stopped name value

-- What stands behind the form. An interrupt has changed nothing: its delivery comes after this.
abbrev pub after_of : {A : Type 0} → Outcome A → A → A
after_of (Goes after) before = after
after_of (Takes cause) before = before
after_of (Stops name value) before = before

-- a form of this outcome was executed: it found the old and left the new, and its step ends so
pub record ComesTo {A : Type 0} (outcome : Outcome A) (old new : A) (end : StepEnd) : Type 0 where
  pub ended : end ≡ end_of outcome
  pub left : new ≡ after_of outcome old

-- a refusal comes before what the instruction does
abbrev pub unless : {A : Type 0} → Option Cause → Outcome A → Outcome A
unless (Some cause) outcome = Takes cause
unless None outcome = outcome

-- the machine does not execute the word
abbrev pub unsupported : {A : Type 0} → ℕ → Outcome A
unsupported word = Stops names.Unsupported word
